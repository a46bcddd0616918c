-- The checkpoints of a folder.
use Rattle.std.specs.Prelude.{ℕ, List, map, filter, Option, option_map}
use Rattle.std.specs.FinMap.{FinMap, entries, from_entries}
use Rattle.host_core.specs.Names.{name_cmp}
use Rattle.host_core.specs.State.{Files}
use Rattle.conf_doc.specs.declared.configuration.Config.{Config}
use Rattle.checkpoints.specs.Formats.{content}
use Rattle.checkpoints.specs.Names.{is_point_file, point_name}

-- what a checkpoint holds: a configuration, or None where its file is of neither format
abbrev pub Held : Type 0
Held = Option Config

-- the configuration that the bytes of a checkpoint's file hold
abbrev pub held : List ℕ → Held
held bytes = option_map (λ c. c.config) (content bytes)

-- checkpoints by their names, in the order of the names
abbrev pub Points : Type 0
Points = FinMap name_cmp Held

-- the checkpoint in a file with these bytes
abbrev pub point : List ℕ × List ℕ → List ℕ × Held
point file = (point_name file.0, held file.1)

-- the checkpoints among files: those in all files that are named like one
abbrev pub points : Files → Points
points files = from_entries (map point (filter (λ f. is_point_file f.0) (entries files)))
