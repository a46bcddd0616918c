-- One operation, read from its compact text.
use Rattle.std.specs.Prelude.{◌≡◌, ◌≤◌, ℕ, List, [], ◌∷◌, ◌++◌, codes, Option, Some, None}
use Rattle.conf_doc.specs.Sound.{IsSound}
use Rattle.conf_doc.specs.Texts.{compact}
use Rattle.patch_core.specs.Operation.{Operation}
use Rattle.patch_core.specs.Writing.{operation_document, most_value_levels, value_depth}

-- a list of one item, and a line feed
abbrev pub in_brackets : List ℕ → List ℕ
in_brackets text = codes "[" ++ text ++ codes "]\n"

-- the item of a list that has no other
abbrev pub only : {A : Type 0} → List A → Option A
only [] = None
only (a ∷ []) = Some a
only (a ∷ b ∷ rest) = None

-- where the text is the compact one of a sound operation, it is read as that operation
abbrev pub Reads : List ℕ → Option Operation → Type 0
Reads text o =
    (op : Operation) → IsSound (operation_document op) → value_depth op ≤ most_value_levels
    → text ≡ compact (operation_document op) → o ≡ Some op
