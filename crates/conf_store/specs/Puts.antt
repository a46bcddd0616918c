-- What putting a file does.
use Rattle.std.specs.Prelude.{◌≡◌, ◌⊎◌, ℕ, List, Some}
use Rattle.host_core.specs.State.{Files, State, settled, with_file}
use Rattle.conf_store.specs.Files.{without_scratch}

-- the files with this one besides, or in the place of one of its name, and no scratch file
abbrev pub put : List ℕ → List ℕ → Files → Files
put name bytes files = with_file name (Some bytes) (without_scratch files)

-- after a file was put nothing is pending
abbrev pub after_put : List ℕ → List ℕ → State → State
after_put name bytes s = record s { files = put name bytes s.files; pending = settled }

-- the same files, but for the scratch file
abbrev pub IsSame : Files → Files → Type 0
IsSame before after = without_scratch after ≡ without_scratch before

-- the files from before, or those with the file put, but for the scratch file
abbrev pub IsPutOrNot : List ℕ → List ℕ → Files → Files → Type 0
IsPutOrNot name bytes before after =
    IsSame before after ⊎ IsSame (with_file name (Some bytes) before) after
