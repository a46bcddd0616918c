use Rattle.std.proofs.Common.{◌≡◌, map, ap, sym, ◌∙◌, subst, take_all, arith}
use Rattle.conf_doc.specs.Document.{object, members_of}
use Rattle.conf_doc.specs.Pairs.{IsRising}
use Rattle.conf_doc.specs.Trees.{named_document}
use Rattle.conf_doc.proofs.Lists.{map_more, take_more}
use Rattle.conf_doc.proofs.Names.{rising-map}
use Rattle.conf_doc.proofs.writing.tree_of_parts.Goals as goal

pub loop-i-preserved : goal.loop-i-preserved
loop-i-preserved g c =
    let F = g.X.Written.as_document in
    map_more named_document (λ p. (p.0, F p.1)) _ _ _ _ _ c.pair_at.result.now c.loop-i.invariant c.in_ok-push.ensures.items (λ j. (c.in_ok-member.ensures.name j, c.in_ok-member.ensures.tree j)) (take_more c.args.parts.now c.loop-i.i _ c.pair_at.ensures)

pub from_sorted-requires : goal.from_sorted-requires
from_sorted-requires g c =
    let F = g.X.Written.as_document in
    let all : map named_document c.loop-i.members.items ≡ map (λ p. (p.0, F p.1)) c.args.parts.now = c.loop-i.invariant ∙ ap (map (λ p. (p.0, F p.1))) (take_all _ c.args.parts.now (omega arith)) in
    subst IsRising (sym all) (rising-map F c.args.parts.now c.len-i-end.ensures.shaped.rising)

pub returns : goal.returns
returns g c =
    let F = g.X.Written.as_document in
    let all : map named_document c.loop-i.members.items ≡ map (λ p. (p.0, F p.1)) c.args.parts.now = c.loop-i.invariant ∙ ap (map (λ p. (p.0, F p.1))) (take_all _ c.args.parts.now (omega arith)) in
    ap (λ ms. object (members_of ms)) (c.from_sorted.ensures ∙ all)
