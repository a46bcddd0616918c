-- What a folder may stand for after commands of which each ran to its end or was stopped: a list of
-- configurations for each command, made of the list before it, of the files that it found, and of what it
-- printed.
use Rattle.std.specs.Prelude.{◌≡◌, ℕ, zero, suc, List, [], ◌∷◌, Contains, Ok}
use Rattle.host_core.specs.Crashes.{Image}
use Rattle.host_core.specs.State.{Files, State}
use Rattle.conf_doc.specs.declared.configuration.Config.{Config}
use Rattle.conf_store.specs.Stored.{stored}
use Rattle.move_core.specs.Plans.{conf}
use Rattle.move_core.specs.declared.moves.Move.{Move}
use Rattle.command_runs.specs.Noted.{found}
use Rattle.command_runs.specs.Works.{IsWork}
use Rattle.command_runs.specs.declared.stops.Ran.{Ran}

-- ---- one list of configurations

-- the files stand for one of them
abbrev pub StandFor : List Config → Files → Type 0
StandFor configs files = (c : Config) × (stored files ≡ Ok c) × Contains configs c

-- the files as they read, and all that a crash may leave of them, stand for one of them
abbrev pub AllStandFor : List Config → State → Type 0
AllStandFor configs s = (files : Files) → Image s.pending s.files files → StandFor configs files

-- ---- the next list

-- where so many steps are acknowledged, the configuration after the last of them, or after the next one;
-- where none is, or what the folder might have stood for before
abbrev pub last_or_next : List Config → Config → List Move → ℕ → List Config
last_or_next before start ms zero = conf start ms 0 ∷ conf start ms 1 ∷ before
last_or_next before start ms (suc k) = conf start ms (suc k) ∷ conf start ms (suc (suc k)) ∷ []

-- what the folder may stand for after a command, by what it found and printed
pub record IsNext (before : List Config) (ran : Ran) (after : List Config) : Type 0 where
  pub start : Config
  pub stands : stored (found ran) ≡ Ok start
  pub moves : List Move
  pub acknowledged : ℕ
  pub work : IsWork ran.output moves acknowledged
  pub is : after ≡ last_or_next before start moves acknowledged

-- what a command leads to that ends in that state
abbrev pub Leads : List Config → Ran → State → Type 0
Leads before ran s = (after : List Config) × IsNext before ran after × AllStandFor after s

-- ---- all of them

-- From what the folder may stand for before the first command to what it may stand for after the last: each
-- command finds files that stand for one of the list before it.
abbrev pub LeadOn : List Config → List Ran → List Config → Type 0
LeadOn before [] after = after ≡ before
LeadOn before (ran ∷ rans) after =
    StandFor before (found ran)
    × ((next : List Config) × IsNext before ran next × LeadOn next rans after)

-- what commands lead to of which the last one ends in that state
abbrev pub AllLead : List Config → List Ran → State → Type 0
AllLead before rans s = (after : List Config) × LeadOn before rans after × AllStandFor after s
