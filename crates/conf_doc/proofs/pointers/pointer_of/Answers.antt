use Rattle.std.proofs.Common.{◌∷◌, ◌++◌, sym, ap, ◌∙◌, take_all}
use Rattle.host_core.specs.Characters.{slash}
use Rattle.conf_doc.specs.Pointer.{escaped, pointer}
use Rattle.conf_doc.proofs.Escapes.{pointer-more}
use Rattle.conf_doc.proofs.Lists.{take_step}
use Rattle.conf_doc.proofs.pointers.pointer_of.Goals as goal

pub loop-token-preserved : goal.loop-token-preserved
loop-token-preserved c =
    let more = take_step c.items-token-items.result.now _ c.token-item.result c.loop-token-test.true c.token-item.is in
    c.in_ok-push_token.ensures ∙ (λ i. c.loop-token.invariant i ++ slash ∷ escaped (c.as_str.ensures.text i))
    ∙ sym (pointer-more _ c.token-item.result) ∙ ap pointer (sym more)

pub returns : goal.returns
returns c = c.from.ensures ∙ c.loop-token.invariant ∙ ap pointer (take_all _ c.items-token-items.result.now c.loop-token-test.false ∙ c.items-token-items.ensures)
