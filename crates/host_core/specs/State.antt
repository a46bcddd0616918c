-- What a host tells of itself, when its calls may be made, and what they change.
use Rattle.std.specs.Prelude.{◌≡◌, ◌⊎◌, ℕ, List, [], ◌∷◌, ◌++◌, Option, Some, None, option_map, IsSome}
use Rattle.std.specs.FinMap.{FinMap, get, insert, remove, keys}
use Rattle.host_core.specs.Names.{name_cmp}

-- from names to bytes
abbrev pub Files : Type 0
Files = FinMap name_cmp (List ℕ)

-- what a crash may still undo
pub data Pending : Type 0 where
  -- nothing
  settled : Pending
  -- the bytes of the file of that name
  dirty : List ℕ → Pending
  -- the last change of the folder's names, from these files on
  listing : Files → Pending

-- a host's state: what it hands out, what may be undone, and what came out of it
pub record State : Type 0 where
  pub inputs : Files
  pub files : Files
  pub pending : Pending
  -- what was printed
  pub output : List ℕ
  -- the services whose restart was requested, the first one first
  pub restarts : List (List ℕ)

-- ---- what a host hands out

-- the bytes of a file, where it is there
abbrev pub file : State → List ℕ → Option (List ℕ)
file s name = get s.files name

-- the names of the files, in order
abbrev pub names : State → List (List ℕ)
names s = keys s.files

-- ---- when a call may be made

-- a file may be written and synced: nothing is pending, or the bytes of that file
abbrev pub CanWrite : List ℕ → State → Type 0
CanWrite name s = (s.pending ≡ settled) ⊎ (s.pending ≡ dirty name)

-- a file may get another name or none: nothing is pending, and the file is there
abbrev pub CanMove : List ℕ → State → Type 0
CanMove name s = (s.pending ≡ settled) × IsSome (file s name)

-- ---- files

-- the files with this content at the name, or with no file there
abbrev pub with_file : List ℕ → Option (List ℕ) → Files → Files
with_file name None files = remove files name
with_file name (Some bytes) files = insert files name bytes

-- the files where one has another name, at which none or another one stood before
abbrev pub rename : List ℕ → List ℕ → Files → Files
rename old new files = with_file new (get files old) (with_file old None files)

-- ---- what calls change

-- after a write: this content stands at the name, and may be undone
abbrev pub after_write : List ℕ → Option (List ℕ) → State → State
after_write name content s =
    record s { files = with_file name content s.files; pending = dirty name }

-- only what is pending is another
abbrev pub with_pending : Pending → State → State
with_pending pending s = record s { pending = pending }

-- after a change of the folder's names, which may be undone
abbrev pub after_listing : (Files → Files) → State → State
after_listing change s = record s { files = change s.files; pending = listing s.files }

-- the change of the folder's names is done or not, and may be undone either way
abbrev pub ListsOrNot : (Files → Files) → Option State → Option State → Type 0
ListsOrNot change old new =
    (new ≡ option_map (after_listing change) old)
    ⊎ (new ≡ option_map (after_listing (λ files. files)) old)

-- these bytes were appended to the output
abbrev pub printed : List ℕ → State → State
printed bytes s = record s { output = s.output ++ bytes }

-- a front of the bytes was printed
abbrev pub PrintsPart : List ℕ → Option State → Option State → Type 0
PrintsPart bytes old new =
    (part rest : List ℕ) × (bytes ≡ part ++ rest) × (new ≡ option_map (printed part) old)

-- the restart of that service was requested
abbrev pub after_restart : List ℕ → State → State
after_restart service s = record s { restarts = s.restarts ++ service ∷ [] }

-- ---- what no call changes

-- the one is a front of the other
abbrev pub IsFront : {A : Type 0} → List A → List A → Type 0
IsFront front whole = (rest : List _) × (whole ≡ front ++ rest)

-- the inputs stay, and what came out only grows
pub record Grows (old new : State) : Type 0 where
  pub inputs : new.inputs ≡ old.inputs
  pub output : IsFront old.output new.output
  pub restarts : IsFront old.restarts new.restarts
