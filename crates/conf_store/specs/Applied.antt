-- How many step files are applied in what the folder stands for.
use Rattle.std.specs.Prelude.{◌≡◌, ℕ, zero, suc, ◌+◌, if◌then◌else◌, is_some, Ok}
use Rattle.std.specs.FinMap.{get}
use Rattle.host_core.specs.State.{Files}
use Rattle.conf_doc.specs.declared.configuration.Config.{Config}
use Rattle.conf_store.specs.Files.{folded_file, last_step, step_name}
use Rattle.conf_store.specs.Stored.{stored}

-- how many step files there are from number n on, up to the first that is missing; more is how many numbers
-- there are from n on
abbrev pub steps_there : (more n : ℕ) → Files → ℕ
steps_there zero n files = 0
steps_there (suc more) n files =
    if is_some (get files (step_name n)) then suc (steps_there more (n + 1) files) else 0

-- how many are applied: none where the folded file is there
abbrev pub applied : Files → ℕ
applied files = if is_some (get files folded_file) then 0 else steps_there last_step 1 files

-- the files stand for a configuration, and so many of their step files are applied in it
pub record AreApplied (files : Files) (count : ℕ) : Type 0 where
  pub config : Config
  pub stands : stored files ≡ Ok config
  pub steps : count ≡ applied files
