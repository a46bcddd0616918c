-- Keys of at most two parts.
use Rattle.std.specs.Prelude.{◌≡◌, ◌≤◌, ◌==◌, ◌||◌, ℕ, Bool, false, List, length}
use Rattle.std.specs.List.{ends_with, starts_with}
use Rattle.conf_check.specs.Rows.{IsShapeOf}
use Rattle.key_split.specs.Key.{key_parts}
use Rattle.yang_model.specs.ModelSets.{ModelSet}
use Rattle.yang_model.specs.declared.shapes.Shape.{Shape}

-- the key has at most two parts
abbrev pub HasFewParts : List ℕ → Type 0
HasFewParts key = length (key_parts key) ≤ 2

-- the text stands at the begin or at the end of the key
abbrev pub is_at_an_end : List ℕ → List ℕ → Bool
is_at_an_end key text =
    starts_with (λ a b. a == b) key text || ends_with (λ a b. a == b) key text

-- a list of at most two key leaves
abbrev pub IsShort : Shape → Type 0
IsShort shape = (shape.fixed ≡ false) × (length shape.keys ≤ 2)

-- each key that belongs to a shape of the table has at most two parts
abbrev pub AreKeysShort : ModelSet → List ℕ → Type 0
AreKeysShort models table =
    (key : List ℕ) (shape : Shape) → IsShapeOf models table key shape → HasFewParts key
