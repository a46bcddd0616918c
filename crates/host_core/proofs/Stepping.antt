-- How a history goes on by one step.
use Rattle.std.proofs.Common.{◌≡◌, ℕ, List, [], ◌∷◌, ◌++◌, Option, Some, sym, ap, ◌∙◌, Vec}
use Rattle.std.specs.declared.alloc.Global.{Global}
use Rattle.std.specs.FinMap.{get}
use Rattle.host_core.specs.State as state
use Rattle.host_core.specs.State.{State, Files, with_file, after_write, after_listing}
use Rattle.host_core.specs.Steps.{History, moved_to, bytes_in, undone, pending_of, moments}
use Rattle.host_core.specs.declared.pending.Pending.{Pending}
use Rattle.host_core.specs.declared.pending.Pending.TheVariants.{Dirty, Listing}
use Rattle.host_core.specs.declared.pending.Undo.{Undo}
use Rattle.host_core.specs.declared.pending.Step.{Step}
use Rattle.host_core.specs.declared.pending.Step.TheVariants.{Write, List as Lists}
use Rattle.host_core.proofs.EntriesOfFiles.{content_back}

module _ (inputs : Files) (output : List ℕ) (restarts : List (List ℕ)) where
  abbrev pub state_in : Files → state.Pending → State
  state_in files pending = record { inputs = inputs; files = files; pending = pending; output = output; restarts = restarts }

  abbrev pub history_in : Files → Pending → List Step → History
  history_in files pending steps =
      let s = state_in files (pending_of pending files) in record { state = s; past = moments steps s }

  -- a file is written
  pub writes : (files new : Files) (pending after : Pending) (steps longer : List Step) (name again bytes : List ℕ) (content : Option (Vec ℕ Global))
      → bytes_in content ≡ get files name → new ≡ with_file name (Some bytes) files → after ≡ Dirty name → again ≡ name → longer ≡ Write pending again content ∷ steps
      → history_in new after longer ≡ moved_to (after_write name (Some bytes) (state_in files (pending_of pending files))) [] (history_in files pending steps)
  writes files new pending after steps longer name again bytes content had is dirties same step =
      (λ i. history_in (is i) (dirties i) (step i))
      ∙ ap (λ (f : Files). let s : History = record {
        state = state_in (with_file name (Some bytes) files) (state.dirty name);
        past = moments steps (state_in f (pending_of pending f)) ++ (state_in f (pending_of pending f), []) ∷ [];
      } in s)
      ((λ i. with_file (same i) (had i) (with_file name (Some bytes) files)) ∙ content_back name (Some bytes) files)

  -- the folder's names change
  pub lists : (files new : Files) (pending after : Pending) (steps longer : List Step) (undo : Undo) (change : Files → Files)
      → undone undo new ≡ files → new ≡ change files → pending_of pending files ≡ state.settled → after ≡ Listing undo → longer ≡ Lists ∷ steps
      → history_in new after longer ≡ moved_to (after_listing change (state_in files (pending_of pending files))) [] (history_in files pending steps)
  lists files new pending after steps longer undo change undoes is settles listed step =
      (λ i. history_in new (listed i) (step i))
      ∙ (λ i. let s : History = record {
        state = state_in new (state.listing (undoes i));
        past = moments steps (state_in (undoes i) state.settled) ++ (state_in (undoes i) state.settled, []) ∷ [];
      } in s)
      ∙ (λ i. let s : History = record {
        state = state_in (is i) (state.listing files);
        past = moments steps (state_in files (sym settles i)) ++ (state_in files (sym settles i), []) ∷ [];
      } in s)
