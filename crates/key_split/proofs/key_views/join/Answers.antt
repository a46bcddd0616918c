use Rattle.std.proofs.Common.{sym, ◌∙◌, arith}
use Rattle.std.proofs.lemmas.List.Elements.{All-map}
use Rattle.key_split.specs.Key.{HasNoBar}
use Rattle.key_split.proofs.Parts.{join_by-bar}
use Rattle.key_split.proofs.key_views.join.Goals as goal

pub returns-in-Ok : goal.returns-in-Ok
returns-in-Ok c = record {
  some = grind arith;
  plain = All-map HasNoBar (λ part. part.now) c.args.parts.now c.requires.plain;
  whole = sym (c.from.ensures ∙ c.in-Ok.ensures.ok ∙ join_by-bar (λ part. part.now) c.args.parts.now);
}
