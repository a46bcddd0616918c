-- What a file holds, where it can be read, and what the files of a folder stand for.
use Rattle.std.specs.Prelude.{◌≡◌, ◌⊎◌, ◌↔◌, ℕ, zero, suc, ◌+◌, List, Some, None, Ok}
use Rattle.std.specs.FinMap.{get}
use Rattle.host_core.specs.State.{Files}
use Rattle.conf_doc.specs.Configuration.{tree}
use Rattle.conf_doc.specs.Document.{Document}
use Rattle.conf_doc.specs.Reading.{json}
use Rattle.conf_doc.specs.Shaping.{configuration}
use Rattle.conf_doc.specs.Texts.{value}
use Rattle.conf_doc.specs.declared.configuration.Config.{Config}
use Rattle.conf_store.specs.Files.{config_file, folded_file, last_step, step_name}
use Rattle.patch_core.specs.Operation.{Operation}
use Rattle.gcu_engine.specs.Patching.{HoldOperations, IsPatched}

-- the file of that name has a JSON text of the configuration
abbrev pub HoldsConfig : Files → List ℕ → Config → Type 0
HoldsConfig files name config =
    (bytes : List ℕ) × (d : Document) × (get files name ≡ Some bytes)
    × (json bytes ≡ Some (value d)) × (configuration d ≡ Ok config)

-- the file of that name has a patch, which makes the one configuration the other, by RFC 6902
abbrev pub HoldsPatch : Files → List ℕ → Config → Config → Type 0
HoldsPatch files name start goal =
    (bytes : List ℕ) × (ops : List Operation) × (d : Document)
    × (get files name ≡ Some bytes) × HoldOperations bytes ops
    × IsPatched ops (tree start) d × (configuration d ≡ Ok goal)

-- the step files from number n on, up to the first that is missing, make the one configuration the other; more
-- is how many numbers there are from n on
abbrev pub StepsMake : (more n : ℕ) → Files → Config → Config → Type 0
StepsMake zero n files start goal = goal ≡ start
StepsMake (suc more) n files start goal =
    ((get files (step_name n) ≡ None) × (goal ≡ start))
    ⊎ ((next : Config) × HoldsPatch files (step_name n) start next
    × StepsMake more (n + 1) files next goal)

-- the files stand for the configuration: the folded file has it, or where there is none, the step files make it
-- of that of `config_db.json`
abbrev pub Stores : Files → Config → Type 0
Stores files config =
    HoldsConfig files folded_file config
    ⊎ ((first : Config) × (get files folded_file ≡ None) × HoldsConfig files config_file first
    × StepsMake last_step 1 files first config)

-- the files stand for the same, or both for nothing
abbrev pub StandForSame : Files → Files → Type 0
StandForSame before after = (config : Config) → Stores before config ↔ Stores after config
