-- What is told of one step.
use Rattle.std.specs.Prelude.{◌≡◌, ◌≢◌}
use Rattle.conf_doc.specs.declared.configuration.Config.{Config}
use Rattle.move_core.specs.Moves.{step}
use Rattle.move_core.specs.Plans.{IsAllowed, KeepsRules}
use Rattle.move_core.specs.Rulebook.{Rulebook}
use Rattle.move_core.specs.Rules.{EmptiesNoTable, HasNoDependency, KeepsCreateOnly, KeepsRequired}
use Rattle.move_core.specs.declared.moves.Move.{Move}
use Rattle.plan_check.specs.Checks.{IsFirstCause}
use Rattle.plan_texts.specs.declared.causes.NoWhy.{NoWhy}
use Rattle.plan_texts.specs.declared.causes.NoWhy.TheVariants.{NotDefined, NotListed, Rule1, Rule2, Rule3, Rule4, Rule5, Same, WrongEnd}
use Rattle.plan_check.specs.declared.steps.Verdict.{Verdict}
use Rattle.plan_check.specs.declared.steps.Verdict.TheVariants.{Allowed, Refused}

-- the step is allowed and leads to that configuration, or that is the first cause against it
abbrev pub IsVerdict : Rulebook → Config → Config → Move → Verdict → Type 0
IsVerdict book goal cur m (Allowed next) = IsAllowed book goal cur m × (next ≡ step cur m)
IsVerdict book goal cur m (Refused why) = IsFirstCause book goal cur m why

-- what of the result is the first to be wrong
abbrev pub IsFirstBroken : Rulebook → Config → Config → Move → NoWhy → Type 0
IsFirstBroken book cur next m NotDefined = ⊥
IsFirstBroken book cur next m NotListed = ⊥
IsFirstBroken book cur next m Same = next ≡ cur
IsFirstBroken book cur next m Rule1 = (next ≢ cur) × ¬ book.IsValid next
IsFirstBroken book cur next m Rule2 =
    (next ≢ cur) × book.IsValid next × ¬ HasNoDependency book cur next m
IsFirstBroken book cur next m Rule3 =
    (next ≢ cur) × book.IsValid next × HasNoDependency book cur next m × ¬ EmptiesNoTable cur next
IsFirstBroken book cur next m Rule4 =
    (next ≢ cur) × book.IsValid next × HasNoDependency book cur next m × EmptiesNoTable cur next
    × ¬ KeepsCreateOnly book.settings cur next
IsFirstBroken book cur next m Rule5 =
    (next ≢ cur) × book.IsValid next × HasNoDependency book cur next m × EmptiesNoTable cur next
    × KeepsCreateOnly book.settings cur next × ¬ KeepsRequired book.settings cur next
IsFirstBroken book cur next m WrongEnd = ⊥

-- the configurations differ, and the five rules hold
abbrev pub IsFine : Rulebook → Config → Config → Move → Type 0
IsFine book cur next m = (next ≢ cur) × KeepsRules book cur next m
