-- What a command did step by step, told by what it printed alone.
use Rattle.std.specs.Prelude.{◌≡◌, ◌⊎◌, ◌<◌, ◌≤◌, ◌^◌, ℕ, suc, true, List, [], ◌∷◌, ◌++◌, length}
use Rattle.host_core.specs.State.{IsFront}
use Rattle.conf_doc.specs.Changes.{Fits}
use Rattle.move_core.specs.Operations.{plan_text}
use Rattle.move_core.specs.declared.moves.Move.{Move}
use Rattle.move_core.specs.declared.moves.Move.TheVariants.{Add, Remove, Replace, AddItem, RemoveItem}
use Rattle.checkpoints.specs.Names.{is_good_name}
use Rattle.change_apply.specs.Acknowledgements.{ack, acks}
use Rattle.operators.specs.Replies.{commits_line, reply_line}
use Rattle.sessions.specs.declared.replies.Reply.{Reply}
use Rattle.sessions.specs.declared.replies.Reply.TheVariants.{Applied}

-- What a move puts at its place is of the kind that stands there: a table, an entry or a value. What it removes stands
-- at no more than three names, and an item in a field.
abbrev pub FitsItsPlace : Move → Type 0
FitsItsPlace (Add path part) = Fits path part
FitsItsPlace (Remove path) = length path ≤ 3
FitsItsPlace (Replace path part) = Fits path part
FitsItsPlace (AddItem path i text) = length path ≡ 3
FitsItsPlace (RemoveItem path i) = length path ≡ 3

-- each of the moves does
abbrev pub FitTheirPlaces : List Move → Type 0
FitTheirPlaces [] = Unit {0}
FitTheirPlaces (m ∷ ms) = FitsItsPlace m × FitTheirPlaces ms

-- a text begins with so many whole acknowledgements, and not with one more
pub record AreAcknowledged (k : ℕ) (text : List ℕ) : Type 0 where
  pub rest : List ℕ
  pub begins : text ≡ acks k ++ rest
  pub no_more : ¬ IsFront (ack (suc k)) rest

-- the whole text of a plan was printed, and behind it so many whole acknowledgements
pub record IsPlanned (output : List ℕ) (ms : List Move) (k : ℕ) : Type 0 where
  pub fit : FitTheirPlaces ms
  -- as many moves as are counted in 64 bits
  pub few : length ms < 2 ^ 64
  pub rest : List ℕ
  pub begins : output ≡ plan_text ms ++ rest
  pub acknowledged : AreAcknowledged k rest

-- ---- several operators

-- the operator of a name, and what he is told
abbrev pub Told : Type 0
Told = List ℕ × Reply

-- each of them has a good name
abbrev pub HaveNames : List Told → Type 0
HaveNames [] = Unit {0}
HaveNames (t ∷ ts) = (is_good_name t.0 ≡ true) × HaveNames ts

-- the line of each
abbrev pub told_lines : List Told → List ℕ
told_lines [] = []
told_lines (t ∷ ts) = reply_line t.0 t.1 ++ told_lines ts

-- a move that is committed, before others
abbrev pub committed : Reply → List Move → List Move
committed (Applied m) ms = m ∷ ms
committed other ms = ms

-- the moves that are committed, in order
abbrev pub moves_told : List Told → List Move
moves_told [] = []
moves_told (t ∷ ts) = committed t.1 (moves_told ts)

-- all lines, and how many moves are committed
abbrev pub told_text : List Told → List ℕ
told_text told = told_lines told ++ commits_line (length (moves_told told))

-- all that operators are told was printed, and behind it so many whole acknowledgements
pub record IsOperated (output : List ℕ) (ms : List Move) (k : ℕ) : Type 0 where
  pub told : List Told
  pub named : HaveNames told
  pub moves : ms ≡ moves_told told
  pub fit : FitTheirPlaces ms
  pub rest : List ℕ
  pub begins : output ≡ told_text told ++ rest
  pub acknowledged : AreAcknowledged k rest

-- ---- whatever was printed

-- neither was printed: there is no move, and nothing is acknowledged
pub record IsUnplanned (output : List ℕ) (ms : List Move) (k : ℕ) : Type 0 where
  pub none : (other : List Move) → ¬ IsFront (plan_text other) output
  pub untold : (told : List Told) → HaveNames told → ¬ IsFront (told_text told) output
  pub empty : ms ≡ []
  pub nothing : k ≡ 0

-- the moves of a command that printed this, and how many of them are acknowledged
abbrev pub IsWork : List ℕ → List Move → ℕ → Type 0
IsWork output ms k = IsPlanned output ms k ⊎ (IsOperated output ms k ⊎ IsUnplanned output ms k)
