-- Changes of the folder's names, one settled after the other, and how they take the step files away.
use Rattle.std.specs.Prelude.{◌≡◌, ◌⊎◌, ℕ, List, false}
use Rattle.std.specs.FinMap.{get}
use Rattle.host_core.specs.State.{Files}
use Rattle.conf_store.specs.Files.{is_step_name, step_names}

-- the files with this change done
abbrev pub IsDone : (Files → Files) → Files → Files → Type 0
IsDone change before after = after ≡ change before

-- the files from before, or those with this change done
abbrev pub IsDoneOrNot : (Files → Files) → Files → Files → Type 0
IsDoneOrNot change before after = (after ≡ before) ⊎ (after ≡ change before)

-- all files but those of steps are as before
abbrev pub KeepsRest : Files → Files → Type 0
KeepsRest before after =
    (name : List ℕ) → is_step_name name ≡ false → get after name ≡ get before name

-- the step files that are left are these, and all other files are as before
pub record IsClearing (steps : List (List ℕ)) (before after : Files) : Type 0 where
  pub left : step_names after ≡ steps
  pub rest : KeepsRest before after
