use Rattle.std.proofs.Common.{true, false, sym, ◌∙◌}
use Rattle.std.proofs.lemmas.Str.Pattern.{ends_text, starts_text}
use Rattle.move_extend.proofs.Leafrefs.{either_first, either_second}
use Rattle.move_extend.proofs.mentions.is_at_an_end.Goals as goal

pub returns-then-starts_with : goal.returns-then-starts_with
returns-then-starts_with c = either_first _ _ (sym (starts_text true c.args.text.now c.args.key.now c.if-starts_with.ensures.cases))

pub returns : goal.returns
returns c =
    ends_text _ c.args.text.now c.args.key.now c.ends_with.ensures.cases
    ∙ either_second _ _ (sym (starts_text false c.args.text.now c.args.key.now c.if-starts_with.ensures.cases))
