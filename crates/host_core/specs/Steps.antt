-- How a host in memory keeps its history: step by step back from the state that it is in.
use Rattle.std.specs.Prelude.{ℕ, ◌-◌, Bool, true, false, List, [], ◌∷◌, ◌++◌, length, take, drop, Option, Some, None, option_map, is_some, Vec}
use Rattle.std.specs.declared.alloc.Global.{Global}
use Rattle.std.specs.FinMap.{get}
use Rattle.host_core.specs.Crashes.{Moment}
use Rattle.host_core.specs.State as state
use Rattle.host_core.specs.State.{State, Files, with_file}
use Rattle.host_core.specs.declared.pending.Pending.{Pending}
use Rattle.host_core.specs.declared.pending.Pending.TheVariants.{Settled, Dirty, Listing}
use Rattle.host_core.specs.declared.pending.Undo.{Undo}
use Rattle.host_core.specs.declared.pending.Undo.TheVariants.{Same, Removed, Renamed}
use Rattle.host_core.specs.declared.pending.Step.{Step}
use Rattle.host_core.specs.declared.pending.Step.TheVariants.{Write, Settle, List as Lists, Print, Restart}

-- the bytes of a vector that may be missing
abbrev pub bytes_in : Option (Vec ℕ Global) → Option (List ℕ)
bytes_in = option_map (λ v. v.items)

-- the files before the change, of those after it
abbrev pub undone : Undo → Files → Files
undone Same now = now
undone (Removed name bytes) now = with_file name (Some bytes.items) now
undone (Renamed from to replaced) now =
    with_file from (get now to) (with_file to (bytes_in replaced) now)

-- what is pending of these files
abbrev pub pending_of : Pending → Files → state.Pending
pending_of Settled now = state.settled
pending_of (Dirty name) now = state.dirty name
pending_of (Listing undo) now = state.listing (undone undo now)

-- the folder's names are pending
abbrev pub is_listing : Pending → Bool
is_listing Settled = false
is_listing (Dirty name) = false
is_listing (Listing undo) = true

-- the files before what is pending
abbrev pub files_before : state.Pending → Files → Files
files_before state.settled now = now
files_before (state.dirty name) now = now
files_before (state.listing before) now = before

-- what was pending: this, or what is
abbrev pub pending_or : Option Pending → State → state.Pending
pending_or None s = s.pending
pending_or (Some pending) s = pending_of pending s.files

-- the state before the step
abbrev pub before : Step → State → State
before (Write pending name content) s =
    let files = with_file name (bytes_in content) s.files in
    record s { files = files; pending = pending_of pending files }
before (Settle pending) s = record s { pending = pending_of pending s.files }
before Lists s = record s { files = files_before s.pending s.files; pending = state.settled }
before (Print pending len) s =
    record s { pending = pending_or pending s; output = take len s.output }
before (Restart pending) s =
    record s { pending = pending_or pending s; restarts = take (length s.restarts - 1) s.restarts }

-- the bytes that the step printed
abbrev pub printed_by : Step → State → List ℕ
printed_by (Print pending len) s = drop len s.output
printed_by other s = []

-- the moments before a state, of the steps that led to it, the last step first
abbrev pub moments : List Step → State → List Moment
moments [] s = []
moments (step ∷ steps) s = moments steps (before step s) ++ (before step s, printed_by step s) ∷ []

-- whether the step tells what was pending before it whatever is pending now
abbrev pub tells_pending : Step → Bool
tells_pending (Write pending name content) = true
tells_pending (Settle pending) = true
tells_pending Lists = false
tells_pending (Print pending len) = is_some pending
tells_pending (Restart pending) = is_some pending

-- what is pending may become something else, and the moments stay
abbrev pub is_tied : Pending → List Step → Bool
is_tied (Listing undo) steps = true
is_tied other [] = true
is_tied other (step ∷ steps) = tells_pending step

-- ---- a state with its past

-- a state, and the moments before it, the first one first
pub record History : Type 0 where
  pub state : State
  pub past : List Moment

-- a history with nothing pending and no past
abbrev pub beginning : Files → Files → List ℕ → List (List ℕ) → History
beginning inputs files output restarts = record {
  state = record {
    inputs = inputs;
    files = files;
    pending = state.settled;
    output = output;
    restarts = restarts;
  };
  past = [];
}

-- only the state changes
abbrev pub with_state : (State → State) → History → History
with_state change h = record h { state = change h.state }

-- the history goes on with another state, to which it came while these bytes were printed
abbrev pub moved_to : State → List ℕ → History → History
moved_to state bytes h = record { state = state; past = h.past ++ (h.state, bytes) ∷ [] }
