-- Changes of files alone: what is read after them, and what a crash leaves meanwhile.
use Rattle.std.specs.Prelude.{◌≡◌, Option, Some, None}
use Rattle.host_core.specs.Crashes.{Image, Left}
use Rattle.host_core.specs.State.{Files, State, settled}

-- a crash would undo nothing
abbrev pub IsSettled : State → Type 0
IsSettled s = s.pending ≡ settled

-- of a state after such changes: the files as they read and as a crash leaves them, and all else as before
pub record Leads (P : Files → Files → Type 0) (before after : State) : Type 0 where
  pub inputs : after.inputs ≡ before.inputs
  pub output : after.output ≡ before.output
  pub restarts : after.restarts ≡ before.restarts
  pub reads : P before.files after.files
  pub images : (files : Files) → Image after.pending after.files files → P before.files files

-- the same, of a host that may not tell its state
abbrev pub Changes : (Files → Files → Type 0) → Option State → Option State → Type 0
Changes P None new = new ≡ None
Changes P (Some s) new = (t : State) × (new ≡ Some t) × Leads P s t

-- what a crash leaves among such changes: files like that, and the output and restarts from before
pub record AreLeft (P : Files → Files → Type 0) (before : State) (left : Left) : Type 0 where
  pub files : P before.files left.files
  pub output : left.output ≡ before.output
  pub restarts : left.restarts ≡ before.restarts

-- Nothing is pending after such a change of the files, and all else is as before.
abbrev pub Settles : (Files → Files → Type 0) → Option State → Option State → Type 0
Settles P None new = new ≡ None
Settles P (Some s) new =
    (files : Files) × (new ≡ Some (record s { files = files; pending = settled })) × P s.files files
