-- Moves as operations of a patch, and the text of a plan.
use Rattle.std.specs.Int.Digits.{digits_of}
use Rattle.std.specs.Prelude.{ℕ, zero, suc, ◌+◌, List, [], ◌∷◌, ◌++◌, codes, decimal, length, map}
use Rattle.host_core.specs.Characters.{decimal_base, digit_zero}
use Rattle.conf_doc.specs.Configuration.{part_tree}
use Rattle.conf_doc.specs.Document.{text}
use Rattle.conf_doc.specs.Texts.{compact, line_feed}
use Rattle.patch_core.specs.Operation.{Operation, add, remove, replace}
use Rattle.patch_core.specs.Writing.{operation_document}
use Rattle.move_core.specs.Moves.{Place}
use Rattle.move_core.specs.declared.moves.Move.{Move}
use Rattle.move_core.specs.declared.moves.Move.TheVariants.{Add, Remove, Replace, AddItem, RemoveItem}

-- an index in decimal (RFC 6901, section 4): `0`, or digits that don't begin with a 0
abbrev pub index_text : ℕ → List ℕ
index_text zero = digit_zero ∷ []
index_text (suc n) = map (λ d. digit_zero + d) (digits_of decimal_base (suc n))

-- the place that a move's operation names: the place that changes, and behind its names the index of an item
abbrev pub named_place : Move → Place
named_place (Add p part) = p
named_place (Remove p) = p
named_place (Replace p part) = p
named_place (AddItem p i item) = p ++ index_text i ∷ []
named_place (RemoveItem p i) = p ++ index_text i ∷ []

-- the operation that a move is
abbrev pub op : Move → Operation
op (Add p part) = add (named_place (Add p part)) (part_tree part)
op (Remove p) = remove (named_place (Remove p))
op (Replace p part) = replace (named_place (Replace p part)) (part_tree part)
op (AddItem p i item) = add (named_place (AddItem p i item)) (text item)
op (RemoveItem p i) = remove (named_place (RemoveItem p i))

-- a number and a space
abbrev pub number_text : ℕ → List ℕ
number_text i = decimal i ++ codes " "

-- a number, a space, and the compact text of the move's operation
abbrev pub plan_line : ℕ → Move → List ℕ
plan_line i m = number_text i ++ compact (operation_document (op m)) ++ line_feed

-- a line for each move, counted on from i
abbrev pub plan_lines : ℕ → List Move → List ℕ
plan_lines i [] = []
plan_lines i (m ∷ ms) = plan_line i m ++ plan_lines (suc i) ms

-- the word, and how many moves there are
abbrev pub count_line : ℕ → List ℕ
count_line n = codes "plan " ++ decimal n ++ line_feed

-- how many moves there are, then each with its number from 1
abbrev pub plan_text : List Move → List ℕ
plan_text ms = count_line (length ms) ++ plan_lines 1 ms
