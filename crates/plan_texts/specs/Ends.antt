-- What stands after the moves of a plan.
use Rattle.std.specs.Prelude.{◌≡◌, ◌≢◌, ◌⊎◌, List, ℕ, [], ◌++◌}
use Rattle.plan_texts.specs.PlanTexts.{BeginsWith, done_line}
use Rattle.plan_texts.specs.declared.ends.End.{End}
use Rattle.plan_texts.specs.declared.ends.End.TheVariants.{Good, Other, More}

-- nothing or `done`; neither of them; or something after `done`
abbrev pub IsEnd : List ℕ → End → Type 0
IsEnd text Good = (text ≡ []) ⊎ (text ≡ done_line)
IsEnd text Other = (text ≢ []) × ¬ BeginsWith done_line text
IsEnd text More = (rest : List ℕ) × (rest ≢ []) × (text ≡ done_line ++ rest)
