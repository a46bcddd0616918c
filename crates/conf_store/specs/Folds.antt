-- What a fold does, and what its parts do.
use Rattle.std.specs.Prelude.{◌≡◌, ◌≢◌, ℕ, List, [], false, Some, None, Ok, unwrap_or, is_some}
use Rattle.std.specs.FinMap.{get}
use Rattle.host_core.specs.State.{Files}
use Rattle.conf_store.specs.Files.{config_file, folded_file, is_step_name, scratch, step_names}
use Rattle.conf_store.specs.Stored.{stored}
use Rattle.conf_store.specs.declared.loaded.Stored.{Stored}

-- the files stand for what was loaded
pub record StandsFor (what : Stored) (files : Files) : Type 0 where
  pub config : stored files ≡ Ok what.config
  pub steps : step_names files ≡ what.steps
  pub folded : is_some (get files folded_file) ≡ what.folded

-- a name that a fold has nothing to do with
pub record IsOther (name : List ℕ) : Type 0 where
  pub not_scratch : name ≢ scratch
  pub not_config : name ≢ config_file
  pub not_folded : name ≢ folded_file
  pub not_step : is_step_name name ≡ false

-- the files stand for the same as before, and those that a fold has nothing to do with are as before
pub record KeepsStored (before after : Files) : Type 0 where
  pub same : stored after ≡ stored before
  pub others : (name : List ℕ) → IsOther name → get after name ≡ get before name

-- After a fold there is no step file and no folded file; the file of the configuration holds what the
-- folded file held, or these bytes where there was none.
pub record IsFolded (bytes : List ℕ) (before after : Files) : Type 0 where
  pub config : get after config_file ≡ Some (unwrap_or (get before folded_file) bytes)
  pub folded : get after folded_file ≡ None
  pub steps : step_names after ≡ []
  pub others : (name : List ℕ) → IsOther name → get after name ≡ get before name

-- ---- private

-- the folded file is there, as before or with these bytes; the rest is as before but for the scratch file
pub record IsBegun (bytes : List ℕ) (before after : Files) : Type 0 where
  pub folded : get after folded_file ≡ Some (unwrap_or (get before folded_file) bytes)
  pub steps : step_names after ≡ step_names before
  pub kept : KeepsStored before after
