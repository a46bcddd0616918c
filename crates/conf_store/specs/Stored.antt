-- What the folder stands for: a configuration, or why it stands for none.
use Rattle.std.specs.Prelude.{ℕ, zero, suc, ◌+◌, List, Option, Some, None, Result, Ok, Err}
use Rattle.std.specs.FinMap.{get}
use Rattle.host_core.specs.Answers.{◌>>=◌}
use Rattle.host_core.specs.State.{Files}
use Rattle.conf_doc.specs.Reading.{document_of, json}
use Rattle.conf_doc.specs.Configuration.{tree}
use Rattle.conf_doc.specs.Shaping.{configuration}
use Rattle.conf_doc.specs.declared.configuration.Config.{Config}
use Rattle.patch_core.specs.Apply.{apply_plain}
use Rattle.patch_core.specs.Reading.{patch}
use Rattle.conf_store.specs.Files.{config_file, folded_file, last_step, step_name}
use Rattle.conf_store.specs.declared.errors.StoredWhy.{StoredWhy}
use Rattle.conf_store.specs.declared.errors.StoredWhy.TheVariants.{NoFile, BadJson, BadKind, BadShape, BadStep}

-- the value, or this why in the place of any fault
abbrev pub or_why : {A E : Type 0} → StoredWhy → Result A E → Result A StoredWhy
or_why why (Ok a) = Ok a
or_why why (Err e) = Err why

-- what is there, or why nothing is
abbrev pub or_none : {A : Type 0} → StoredWhy → Option A → Result A StoredWhy
or_none why None = Err why
or_none why (Some a) = Ok a

-- ---- a file of a configuration

-- the configuration that the bytes of a file hold
abbrev pub config_in : List ℕ → Result Config StoredWhy
config_in bytes =
    or_none BadJson (json bytes) >>= λ v.
    or_why BadKind (document_of v) >>= λ d.
    or_why BadShape (configuration d)

-- ---- step files

-- the configuration after the step of that number, whose file holds a patch
abbrev pub after_step : ℕ → List ℕ → Config → Result Config StoredWhy
after_step n bytes c =
    or_why (BadStep n) (patch bytes) >>= λ ops.
    or_why (BadStep n) (apply_plain ops (tree c)) >>= λ d.
    or_why (BadStep n) (configuration d)

-- the configuration where the file of that number is missing, or what comes of it and of those behind it
abbrev pub unless_missing : Option (List ℕ) → ℕ → (Config → Result Config StoredWhy)
    → Config → Result Config StoredWhy
unless_missing None n behind c = Ok c
unless_missing (Some bytes) n behind c = after_step n bytes c >>= behind

-- the configuration after the steps from number n on, up to the first that is missing; more is how
-- many numbers there are from n on
abbrev pub after_steps : (more n : ℕ) → Files → Config → Result Config StoredWhy
after_steps zero n files c = Ok c
after_steps (suc more) n files c =
    unless_missing (get files (step_name n)) n (after_steps more (n + 1) files) c

-- ---- the folder

-- the configuration of the one file and the steps
abbrev pub after_all_steps : Files → Result Config StoredWhy
after_all_steps files =
    or_none NoFile (get files config_file) >>= λ bytes.
    config_in bytes >>= λ c.
    after_steps last_step 1 files c

-- what the folded file holds where it is there, else the other
abbrev pub or_unfolded : Option (List ℕ) → Result Config StoredWhy → Result Config StoredWhy
or_unfolded None unfolded = unfolded
or_unfolded (Some bytes) unfolded = config_in bytes

-- the configuration that the files stand for
abbrev pub stored : Files → Result Config StoredWhy
stored files = or_unfolded (get files folded_file) (after_all_steps files)
