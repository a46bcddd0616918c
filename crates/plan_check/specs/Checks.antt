-- The first fault of moves that are no plan.
use Rattle.std.specs.Prelude.{◌≡◌, ◌≢◌, ◌⊎◌, ℕ, ◌+◌, ◌-◌, ◌^◌, ◌<◌, List, ◌∷◌, ◌++◌, length}
use Rattle.conf_doc.specs.WellFormed.{IsConfig}
use Rattle.conf_doc.specs.declared.configuration.Config.{Config}
use Rattle.move_core.specs.Listed.{IsListed}
use Rattle.move_core.specs.Moves.{IsDefined, step}
use Rattle.move_core.specs.Plans.{IsWay}
use Rattle.move_core.specs.Rulebook.{Rulebook}
use Rattle.move_core.specs.Rules.{EmptiesNoTable, HasNoDependency, KeepsCreateOnly, KeepsRequired}
use Rattle.move_core.specs.declared.moves.Move.{Move}
use Rattle.plan_check.specs.declared.errors.CheckError.{CheckError}
use Rattle.plan_check.specs.declared.errors.CheckError.TheVariants.{Memory, No}
use Rattle.plan_texts.specs.declared.causes.NoWhy.{NoWhy}
use Rattle.plan_texts.specs.declared.causes.NoWhy.TheVariants.{NotDefined, NotListed, Rule1, Rule2, Rule3, Rule4, Rule5, Same, WrongEnd}

-- more steps than a plan may have
abbrev pub most_steps : ℕ
most_steps = 2 ^ 32 - 1

-- the requirement of a step that a cause says is missing
abbrev pub Meets : Rulebook → Config → Config → Move → NoWhy → Type 0
Meets book goal cur m NotDefined = IsDefined cur m
Meets book goal cur m NotListed = IsListed book cur goal m
Meets book goal cur m Same = step cur m ≢ cur
Meets book goal cur m Rule1 = book.IsValid (step cur m)
Meets book goal cur m Rule2 = HasNoDependency book cur (step cur m) m
Meets book goal cur m Rule3 = EmptiesNoTable cur (step cur m)
Meets book goal cur m Rule4 = KeepsCreateOnly book.settings cur (step cur m)
Meets book goal cur m Rule5 = KeepsRequired book.settings cur (step cur m)
Meets book goal cur m WrongEnd = Unit {0}

-- the place of a cause in their order
abbrev pub rank : NoWhy → ℕ
rank NotDefined = 0
rank NotListed = 1
rank Same = 2
rank Rule1 = 3
rank Rule2 = 4
rank Rule3 = 5
rank Rule4 = 6
rank Rule5 = 7
rank WrongEnd = 8

-- the first requirement that a step at a configuration doesn't meet
pub record IsFirstCause (book : Rulebook) (goal cur : Config) (m : Move) (why : NoWhy)
    : Type 0 where
  pub broken : ¬ Meets book goal cur m why
  pub before : (w : NoWhy) → rank w < rank why → Meets book goal cur m w

-- the moves before the step are allowed, each where it stands, and the step's isn't
pub record BreaksAt
    (book : Rulebook) (start goal : Config) (ms : List Move) (step : ℕ) (why : NoWhy)
    : Type 0 where
  pub before : List Move
  pub mv : Move
  pub rest : List Move
  pub is : ms ≡ before ++ mv ∷ rest
  pub number : step ≡ length before + 1
  pub cur : Config
  pub formed : IsConfig cur
  pub way : IsWay book goal start before cur
  pub cause : IsFirstCause book goal cur mv why

-- the moves are a way, and it leads to another configuration
pub record EndsElsewhere (book : Rulebook) (start goal : Config) (ms : List Move) (step : ℕ)
    : Type 0 where
  pub end : Config
  pub way : IsWay book goal start ms end
  pub other : end ≢ goal
  pub number : step ≡ length ms

-- the first fault of moves that are no plan: the first step that isn't allowed, with its first cause, or
-- the end
abbrev pub IsFirstFault : Rulebook → Config → Config → List Move → ℕ → NoWhy → Type 0
IsFirstFault book start goal ms step why =
    BreaksAt book start goal ms step why
    ⊎ ((why ≡ WrongEnd) × EndsElsewhere book start goal ms step)

-- the moves have that fault; want of memory says nothing of them
abbrev pub IsRefused : Rulebook → Config → Config → List Move → CheckError → Type 0
IsRefused book start goal ms (No step why) = IsFirstFault book start goal ms step why
IsRefused book start goal ms Memory = Unit {0}
