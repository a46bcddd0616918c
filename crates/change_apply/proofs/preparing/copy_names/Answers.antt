use Rattle.std.proofs.Common.{◌∷◌, [], ◌++◌, ℕ, List, take, ap, ◌∙◌}
use Rattle.change_apply.proofs.ReadySteps.{take_next}
use Rattle.change_apply.proofs.preparing.copy_names.Goals as goal

pub loop-i-preserved : goal.loop-i-preserved
loop-i-preserved c =
    c.in_ok-push.ensures.ok ∙ ap (λ (l : List (List ℕ)). l ++ c.in_ok-name.name ∷ []) c.loop-i.invariant
    ∙ ap (λ (n : List ℕ). take c.loop-i.i c.args.names.now ++ n ∷ []) c.in_ok-name.ensures ∙ take_next c.args.names.now c.loop-i.i c.at.result.now c.at.ensures
