-- What a host in memory holds, and what its calls change.
use Rattle.std.specs.Prelude.{◌≡◌, ◌⊎◌, ℕ, ◌/◌, ◌<◌, ◌≤◌, if◌then◌else◌, Bool, IsTrue, IsFalse, List, [], ◌∷◌, ◌++◌, length, take, map, Result, Ok, Err, Vec}
use Rattle.std.specs.declared.alloc.Global.{Global}
use Rattle.std.specs.FinMap as finmap
use Rattle.host_core.specs.Counts.{Counts, last_count, NoneFell}
use Rattle.host_core.specs.Crashes.{Left, Moment, LeftSince}
use Rattle.host_core.specs.State.{State, Files, settled, Grows}
use Rattle.host_core.specs.Faults.{is_faulty, raised, no_faults, input_fault, disk_fault, print_fault, service_fault}
use Rattle.host_core.specs.declared.faults.Faults.{Faults}

-- the state, the moments before it, the counts, and which calls fail
pub record MemoryHost : Type 0 where
  pub state : State
  -- the moments so far, the first one first
  pub past : List Moment
  pub counts : Counts
  pub faults : Faults
  -- the number of the next call
  pub calls : ℕ
  -- how often a call that has no other answer for it found no memory
  pub starved : ℕ

-- the files with these names and bytes; of a name that is given twice the first one counts
abbrev pub files_of : List (List ℕ × Vec ℕ Global) → Files
files_of pairs = finmap.from_entries (map (λ p. (p.0, p.1.items)) pairs)

-- a host with no calls so far
abbrev pub fresh : Files → Files → Faults → MemoryHost
fresh inputs files faults = record {
  state = record { inputs = inputs; files = files; pending = settled; output = []; restarts = [] };
  past = [];
  counts = no_faults;
  faults = faults;
  calls = 0;
  starved = 0;
}

-- the host with these faults, where the next call has the number 0
abbrev pub faulty_by : Faults → MemoryHost → MemoryHost
faulty_by faults m = record m { faults = faults; calls = 0 }

-- ---- its moments

-- how many there were
abbrev pub moment_of : MemoryHost → ℕ
moment_of m = length m.past

-- what a crash may have left at the moment of that number or a later one
abbrev pub left_of : MemoryHost → ℕ → Left → Type 0
left_of m t left = LeftSince m.state m.past t left

-- ---- what a call changes

-- one more call
abbrev pub called : MemoryHost → MemoryHost
called m = record m { calls = raised m.calls }

-- the state changes, and was the last one so far; these bytes are printed in between
abbrev pub moved_by : (State → State) → List ℕ → MemoryHost → MemoryHost
moved_by change bytes m =
    record m { state = change m.state; past = m.past ++ (m.state, bytes) ∷ [] }

-- the state changes in what is pending, with no moment in between
abbrev pub marked_by : (State → State) → MemoryHost → MemoryHost
marked_by change m = record m { state = change m.state }

-- a fault of the input
abbrev pub input_failed : MemoryHost → MemoryHost
input_failed m = record m { counts = input_fault m.counts }

-- a fault of the disk
abbrev pub disk_failed : MemoryHost → MemoryHost
disk_failed m = record m { counts = disk_fault m.counts }

-- a fault of the output
abbrev pub print_failed : MemoryHost → MemoryHost
print_failed m = record m { counts = print_fault m.counts }

-- a fault of a restart
abbrev pub service_failed : MemoryHost → MemoryHost
service_failed m = record m { counts = service_fault m.counts }

-- a call found no memory
abbrev pub starving : MemoryHost → MemoryHost
starving m = record m { starved = raised m.starved }

-- the first half of the bytes
abbrev pub half : List ℕ → List ℕ
half bytes = take (length bytes / 2) bytes

-- whether a fault has the number of the next call
abbrev pub next_fails : MemoryHost → Bool
next_fails m = is_faulty m.faults m.calls

-- a fault where the next call fails
abbrev pub failed_or_not : (MemoryHost → MemoryHost) → MemoryHost → MemoryHost
failed_or_not fault m = if next_fails m then fault m else m

-- A call without an answer for want of memory: it did its work, or a fault has its number and it did what a
-- failing call does, or it found no memory and did what is left then, as a fault.
abbrev pub Ends :
    {F : Type 0} → Result (Unit {0}) F → MemoryHost → MemoryHost
    → (work failing starved fault : MemoryHost → MemoryHost) → Type 0
Ends (Ok u) old new work failing starved fault =
    IsFalse (next_fails old) × (new ≡ called (work old))
Ends (Err e) old new work failing starved fault =
    (new ≡ called (starving (fault (starved old))))
    ⊎ (IsTrue (next_fails old) × (new ≡ called (fault (failing old))))

-- ---- what no call changes

-- the number is past, which at the last count it is for good
abbrev pub IsPast : ℕ → ℕ → Type 0
IsPast number next = (number < next) ⊎ (last_count ≤ next)

-- a fault has the number of a call between the two, or such a call found no memory
abbrev pub HasFault : MemoryHost → MemoryHost → Type 0
HasFault old new =
    ((number : ℕ) × (old.calls ≤ number) × IsPast number new.calls
    × IsTrue (is_faulty old.faults number))
    ⊎ IsPast old.starved new.starved

-- the same host later: a count rose only by a fault of its own or for want of memory
pub record GoesOn (old new : MemoryHost) : Type 0 where
  pub faults : new.faults ≡ old.faults
  pub state : Grows old.state new.state
  pub calls : old.calls ≤ new.calls
  pub starved : old.starved ≤ new.starved
  pub none_fell : NoneFell old.counts new.counts
  pub counts : (new.counts ≡ old.counts) ⊎ HasFault old new
