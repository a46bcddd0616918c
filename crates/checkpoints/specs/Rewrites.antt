-- Checkpoints of the old format as the code keeps them.
use Rattle.std.specs.Prelude.{◌≡◌, ◌++◌, ◌∷◌, ℕ, List, [], Option, Some, None}
use Rattle.checkpoints.specs.Formats.{content}
use Rattle.checkpoints.specs.Migrations.{NewFile, old_held}
use Rattle.checkpoints.specs.declared.rewrites.Rewrite.{Rewrite}

-- its name and its text
abbrev pub rewrite_view : Rewrite → NewFile
rewrite_view r = (r.name, r.text.items)

-- with one more, where one was found
abbrev pub with_found : List NewFile → Option Rewrite → List NewFile
with_found all None = all
with_found all (Some r) = all ++ rewrite_view r ∷ []

-- text of format 2 that holds what these bytes do
pub record IsNewText (bytes text : List ℕ) : Type 0 where
  pub format : old_held text ≡ None
  pub holds : content text ≡ content bytes
