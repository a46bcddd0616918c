-- Checkpoints of the old format, and their files put anew in format 2.
use Rattle.std.specs.Prelude.{◌≡◌, ◌≢◌, ℕ, List, true, Option, Some, None, option_and_then, option_map}
use Rattle.std.specs.FinMap.{get, keys}
use Rattle.std.specs.List.{filter_map}
use Rattle.std.specs.Result.{result_ok}
use Rattle.host_core.specs.State.{Files}
use Rattle.conf_doc.specs.Reading.{reading}
use Rattle.conf_doc.specs.declared.configuration.Config.{Config}
use Rattle.conf_store.specs.Puts.{IsPutOrNot, put}
use Rattle.checkpoints.specs.Changes.{KeepsStored}
use Rattle.checkpoints.specs.Formats.{config_of, number_held, point_text}
use Rattle.checkpoints.specs.Names.{is_good_name, point_file}
use Rattle.checkpoints.specs.Numbers.{number}
use Rattle.checkpoints.specs.Points.{held, points}

-- ---- what is put anew

-- the configuration that bytes of the old format are
abbrev pub old_held : List ℕ → Option Config
old_held bytes = option_and_then config_of (result_ok (reading bytes))

-- the configuration of the checkpoint of a name, where its file is of the old format
abbrev pub old_point : Files → List ℕ → Option Config
old_point files name = option_and_then old_held (get files (point_file name))

-- the name of a checkpoint, and the new text of its file
abbrev pub NewFile : Type 0
NewFile = List ℕ × List ℕ

-- of format 2, with the number 0
abbrev pub new_file : List ℕ → Config → NewFile
new_file name config = (name, point_text config 0)

-- those of the checkpoints of these names that are of the old format, in their order
abbrev pub new_files : Files → List (List ℕ) → List NewFile
new_files files names = filter_map (λ name. option_map (new_file name) (old_point files name)) names

-- those of all checkpoints of the old format, in order of their names
abbrev pub migration : Files → List NewFile
migration files = new_files files (keys (points files))

-- ---- one of them

-- The new text is of format 2, and it is that of the checkpoint as it is, with its number.
pub record IsDue (new : NewFile) (files : Files) : Type 0 where
  pub good : is_good_name new.0 ≡ true
  pub format : old_held new.1 ≡ None
  pub point : get (points files) new.0 ≡ Some (held new.1)
  pub number : number files new.0 ≡ number_held new.1

-- the checkpoints and their numbers are the same, and so is what the folder stands for
pub record KeepsPoints (before after : Files) : Type 0 where
  pub points : points after ≡ points before
  pub numbers : (name : List ℕ) → number after name ≡ number before name
  pub kept : KeepsStored before after

-- of all other names the same are of the old format
abbrev pub KeepsOtherFormats : List ℕ → Files → Files → Type 0
KeepsOtherFormats name before after =
    (other : List ℕ) → other ≢ name → old_point after other ≡ old_point before other

-- its file was put anew, and isn't of the old format
pub record IsRewritten (new : NewFile) (before after : Files) : Type 0 where
  pub files : after ≡ put (point_file new.0) new.1 before
  pub format : old_point after new.0 ≡ None
  pub formats : KeepsOtherFormats new.0 before after
  pub same : KeepsPoints before after

-- it was put anew or not
pub record IsRewrittenOrNot (new : NewFile) (before after : Files) : Type 0 where
  pub files : IsPutOrNot (point_file new.0) new.1 before after
  pub formats : KeepsOtherFormats new.0 before after
  pub same : KeepsPoints before after
