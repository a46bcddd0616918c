-- The options of a command that plans.
use Rattle.std.specs.Prelude.{ℕ, List, [], ◌∷◌, codes, Bool, true, false, ◌&&◌, ◌==◌, if◌then◌else◌, Option, Some, None, option_map}
use Rattle.host_core.specs.Characters.{digit_zero}
use Rattle.gcu_words.specs.Decimals.{number_within}
use Rattle.gcu_words.specs.Words.{is_word}

-- whether the plan is only printed, and how many configurations its search may meet
pub record Options : Type 0 where
  pub dry_run : Bool
  pub budget : ℕ

-- the budget where none is given
abbrev pub default_budget : ℕ
default_budget = 2000

-- the greatest budget
abbrev pub most_budget : ℕ
most_budget = 20000

-- a decimal without leading zero, from 1 to the greatest budget
abbrev pub budget_in : List ℕ → Option ℕ
budget_in [] = None
budget_in (d ∷ ds) = if d == digit_zero then None else number_within most_budget (d ∷ ds)

-- the word for a plan that is only printed
abbrev pub dry_run_word : List ℕ
dry_run_word = codes "--dry-run"

-- the word before a budget
abbrev pub budget_word : List ℕ
budget_word = codes "--budget"

-- options with the budget in a word
abbrev pub with_budget : Bool → List ℕ → Option Options
with_budget dry_run word =
    option_map (λ n. record { dry_run = dry_run; budget = n }) (budget_in word)

-- the options that words are: each at most once, in either order
abbrev pub options : List (List ℕ) → Option Options
options [] = Some (record { dry_run = false; budget = default_budget })
options (a ∷ []) =
    if is_word a dry_run_word
    then Some (record { dry_run = true; budget = default_budget })
    else None
options (a ∷ b ∷ []) = if is_word a budget_word then with_budget false b else None
options (a ∷ b ∷ c ∷ []) =
    if is_word a dry_run_word && is_word b budget_word then with_budget true c
    else if is_word a budget_word && is_word c dry_run_word then with_budget true b
    else None
options (a ∷ b ∷ c ∷ d ∷ ws) = None
