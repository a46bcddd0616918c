-- What a change does: the moves of a plan on what was loaded, and the restarts after each move.
use Rattle.std.specs.Prelude.{◌<◌, ℕ, List, [], ◌∷◌, All, get_or, length, map, flat_map, take}
use Rattle.conf_doc.specs.WellFormed.{IsConfig}
use Rattle.conf_doc.specs.declared.configuration.Config.{Config}
use Rattle.conf_store.specs.declared.loaded.Stored.{Stored}
use Rattle.patch_core.specs.Writing.{patch_file}
use Rattle.move_core.specs.Moves.{IsDefined, step}
use Rattle.move_core.specs.Operations.{op}
use Rattle.move_core.specs.Plans.{conf}
use Rattle.move_core.specs.declared.moves.Move.{Move}
use Rattle.move_core.specs.declared.settings.Settings.{Settings}
use Rattle.change_apply.specs.declared.ready.Restart.{Restart}

-- a change of a folder
pub record Change : Type 0 where
  -- what was loaded of it
  pub stored : Stored
  pub moves : List Move
  -- the restarts after each move, in order
  pub restarts : List (List Restart)

-- ---- what it makes of the configuration

-- how many steps there are
abbrev pub steps : Change → ℕ
steps change = length change.moves

-- the configuration after the first k steps; with fewer steps, after all of them
abbrev pub conf_at : Change → ℕ → Config
conf_at change k = conf change.stored.config change.moves k

-- the configuration after all steps
abbrev pub goal : Change → Config
goal change = conf_at change (steps change)

-- the file of a step: the patch of the move's one operation
abbrev pub step_text : Move → List ℕ
step_text m = patch_file (op m ∷ [])

-- ---- what it restarts

-- the names of the services
abbrev pub names : List Restart → List (List ℕ)
names restarts = map (λ r. r.name) restarts

-- the restarts after the step behind the first k
abbrev pub restarts_at : Change → ℕ → List Restart
restarts_at change k = get_or change.restarts k []

-- the services of the first k steps, those of each in turn
abbrev pub restarted : Change → ℕ → List (List ℕ)
restarted change k = flat_map names (take k change.restarts)

-- ---- what it is made of

-- each move is defined where it stands, on what is a configuration
abbrev pub AreDefined : Config → List Move → Type 0
AreDefined c [] = Unit {0}
AreDefined c (m ∷ ms) = (IsConfig c → IsDefined c m) × AreDefined (step c m) ms

-- each is the position of a service in the rules file
abbrev pub ArePositions : Settings → List ℕ → Type 0
ArePositions settings positions = All (λ i. i < length settings.services) positions

-- the name of the service at a position
abbrev pub name_at : Settings → ℕ → List ℕ
name_at settings i = get_or (map (λ tie. tie.name) settings.services) i []

-- the restart of that service
abbrev pub restart_of : Settings → ℕ → Restart
restart_of settings i = record { service = i; name = name_at settings i }

-- the restarts of the services at these positions
abbrev pub restarts_of : Settings → List ℕ → List Restart
restarts_of settings positions = map (restart_of settings) positions

-- the change of a plan, with the services of each move by their positions
abbrev pub change_of : Stored → List Move → List (List ℕ) → Settings → Change
change_of stored moves services settings =
    record { stored = stored; moves = moves; restarts = map (restarts_of settings) services }
