use Rattle.std.proofs.Common.{◌≡◌, ◌+◌, ◌++◌, ◌∷◌, [], length, take, sym, ap, ◌∙◌, subst}
use Rattle.std.proofs.lemmas.List.{take_more}
use Rattle.move_core.specs.Operations.{count_line, plan_lines}
use Rattle.move_core.proofs.PlanTexts.{written_more}
use Rattle.move_core.proofs.plan_texts.plan_text.Goals as goal

pub loop-i-preserved : goal.loop-i-preserved
loop-i-preserved c =
    let items = c.items-mv-items.result.now in
    let i = c.loop-i.i in
    let count = count_line (length c.args.plan.now) in
    let more : take (i + 1) items ≡ take i items ++ c.mv-item.result ∷ [] =
    take_more items i c.mv-item.result c.loop-i-test.true ∙ ap (λ m. take i items ++ m ∷ []) (sym c.mv-item.is) in
    let before = subst (λ ms. c.loop-i.text.items ≡ count ++ plan_lines 1 (take i ms)) (sym c.items-mv-items.ensures) c.loop-i.invariant in
    subst (λ ms. c.write_step.new.text.items ≡ count ++ plan_lines 1 (take (i + 1) ms)) c.items-mv-items.ensures
    (written_more count items i c.mv-item.result c.loop-i.text.items c.write_step.new.text.items c.loop-i-test.true more before c.in_ok-write_step.ensures)
