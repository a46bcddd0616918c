-- The text of a plan, and the first line at fault of one that is none.
use Rattle.std.specs.Prelude.{◌≡◌, ◌≢◌, ◌⊎◌, ℕ, ◌+◌, ◌<◌, ◌^◌, List, [], ◌++◌, length, codes, All, IfSome, IsUtf8}
use Rattle.conf_doc.specs.Changes.{Fits}
use Rattle.conf_doc.specs.Paths.{IsPath}
use Rattle.conf_doc.specs.Texts.{line_feed}
use Rattle.conf_doc.specs.WellFormed.{AreTexts, IsEntry, IsTable, IsValue}
use Rattle.conf_doc.specs.declared.parts.Part.{Part}
use Rattle.conf_doc.specs.declared.parts.Part.TheVariants as part
use Rattle.move_core.specs.Moves.{index, new_part, new_text, place}
use Rattle.move_core.specs.Operations.{count_line, plan_line, plan_lines, plan_text}
use Rattle.move_core.specs.declared.moves.Move.{Move}
use Rattle.plan_texts.specs.declared.errors.PlanError.{PlanError}
use Rattle.plan_texts.specs.declared.errors.PlanError.TheVariants.{BadPlan, Memory}

-- ---- moves

-- names rise, none is empty, and all texts are UTF-8
abbrev pub IsPart : Part → Type 0
IsPart (part.Table t) = IsTable t
IsPart (part.Entry e) = IsEntry e
IsPart (part.Value v) = IsValue v

-- more than any index of an item
abbrev pub index_end : ℕ
index_end = 2 ^ 64

-- a move as it stands in a plan: its place has one to three names, and its part fits the place; an item stands in a
-- field, and its index is a number of the machine
pub record IsMove (m : Move) : Type 0 where
  pub path : IsPath (place m)
  pub texts : AreTexts (place m)
  pub part : IfSome (new_part m) (λ p. Fits (place m) p × IsPart p)
  pub item : IfSome (index m) (λ i. (length (place m) ≡ 3) × (i < index_end))
  pub text : IfSome (new_text m) IsUtf8

-- ---- texts of plans

-- how long the text of a plan may be
abbrev pub most_bytes : ℕ
most_bytes = 4194304

-- more moves than any count tells
abbrev pub count_end : ℕ
count_end = 2 ^ 32

-- what may stand after the moves
abbrev pub done_line : List ℕ
done_line = codes "done" ++ line_feed

-- the text is that of the plan, and at most the line `done` after it
pub record IsPlanText (text : List ℕ) (ms : List Move) : Type 0 where
  pub count : length ms < count_end
  pub moves : All IsMove ms
  pub written : (text ≡ plan_text ms) ⊎ (text ≡ plan_text ms ++ done_line)

-- ---- faults

-- the text begins with the line
abbrev pub BeginsWith : List ℕ → List ℕ → Type 0
BeginsWith line text = (rest : List ℕ) × (text ≡ line ++ rest)

-- the text begins with the count n and the lines of the moves, and goes on with the rest
pub record Begins (text : List ℕ) (n : ℕ) (ms : List Move) (rest : List ℕ) : Type 0 where
  pub count : n < count_end
  pub moves : All IsMove ms
  pub written : text ≡ (count_line n ++ plan_lines 1 ms) ++ rest

-- no first line tells a count
pub record HasNoCount (text : List ℕ) (line : ℕ) : Type 0 where
  pub first : line ≡ 1
  pub none : (n : ℕ) → n < count_end → ¬ BeginsWith (count_line n) text

-- after the lines of the first moves the line of the next one is missing or otherwise written
pub record LacksMove (text : List ℕ) (line : ℕ) : Type 0 where
  pub count : ℕ
  pub moves : List Move
  pub rest : List ℕ
  pub begins : Begins text count moves rest
  pub more : length moves < count
  pub next : line ≡ length moves + 2
  pub none : (m : Move) → IsMove m → ¬ BeginsWith (plan_line (length moves + 1) m) rest

-- something other than `done` follows the lines of all moves
pub record HasOther (text : List ℕ) (line : ℕ) : Type 0 where
  pub moves : List Move
  pub rest : List ℕ
  pub begins : Begins text (length moves) moves rest
  pub next : line ≡ length moves + 2
  pub some : rest ≢ []
  pub other : ¬ BeginsWith done_line rest

-- something follows `done`
pub record HasMore (text : List ℕ) (line : ℕ) : Type 0 where
  pub moves : List Move
  pub rest : List ℕ
  pub begins : Begins text (length moves) moves (done_line ++ rest)
  pub next : line ≡ length moves + 3
  pub some : rest ≢ []

-- the first line that is missing, otherwise written, without its line feed, or too many
abbrev pub IsFirstFault : List ℕ → ℕ → Type 0
IsFirstFault text line =
    HasNoCount text line ⊎ (LacksMove text line ⊎ (HasOther text line ⊎ HasMore text line))

-- the text has that fault; want of memory says nothing of it
abbrev pub IsFaulty : List ℕ → PlanError → Type 0
IsFaulty text (BadPlan line) = IsFirstFault text line
IsFaulty text Memory = Unit {0}
