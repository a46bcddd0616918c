-- Whole plans at the head of a text.
use Rattle.std.proofs.Common.{◌≡◌, ◌<◌, ◌^◌, ℕ, List, [], ◌∷◌, ◌++◌, length, append-nil, append_assoc, sym, ap, ◌∙◌}
use Rattle.host_core.specs.State.{IsFront}
use Rattle.move_core.specs.Operations.{plan_text}
use Rattle.move_core.specs.declared.moves.Move.{Move}
use Rattle.command_runs.specs.Works.{FitTheirPlaces}
use Rattle.command_runs.proofs.Acknowledgements.{Quiet, not_empty, other, silent}
use Rattle.command_runs.proofs.CompactTexts.{heads}
use Rattle.command_runs.proofs.MoveOperations.{ReadsTokens}
use Rattle.command_runs.proofs.PlanLines.{plans_split}

-- a plan is told by its text
pub plans_are_told : ReadsTokens → (ms ns : List Move) → FitTheirPlaces ms → FitTheirPlaces ns → length ms < 2 ^ 64
    → length ns < 2 ^ 64
    → plan_text ms ≡ plan_text ns → ms ≡ ns
plans_are_told reads ms ns fit fits few fewer e =
    let h = plans_split reads ms ns [] [] fit fits few fewer
    (append-nil (plan_text ms) ∙ e ∙ sym (append-nil (plan_text ns))) in
    h.0

-- a text at whose head stands no whole plan
abbrev pub HasNone : List ℕ → Type 0
HasNone text = (ms : List Move) → ¬ IsFront (plan_text ms) text

-- no front of it has one either
pub none_in_front : (part rest : List ℕ) → HasNone (part ++ rest) → HasNone part
none_in_front part rest none ms (more, e) =
    none ms (more ++ rest, ap (λ (t : List ℕ). t ++ rest) e ∙ append_assoc (plan_text ms) more rest)

pub quiet_has_none : (text : List ℕ) → Quiet text → HasNone text
quiet_has_none [] silent ms (rest, e) = not_empty 112 _ e
quiet_has_none (c ∷ text) (other _ _ n m) ms (rest, e) = n (heads c 112 text _ e)
