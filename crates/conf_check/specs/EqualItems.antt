-- How equal items of a leaf-list are found without memory.
use Rattle.std.specs.Prelude.{◌≡◌, ◌+◌, ◌*◌, ◌%◌, ℕ, Bool, true, false, List, [], ◌∷◌, get_or, length}
use Rattle.std.specs.Ordering.{nat_cmp, on, then_cmp}
use Rattle.std.specs.declared.cmp.Ordering.{Ordering}
use Rattle.std.specs.declared.cmp.Ordering.TheVariants.{Less}
use Rattle.host_core.specs.Names.{name_cmp}

-- how many slots there are
abbrev pub slot_count : ℕ
slot_count = 16384

-- what a slot is multiplied by before a byte
abbrev pub slot_factor : ℕ
slot_factor = 31

-- the slot of a text whose bytes so far have one
abbrev pub slot_from : ℕ → List ℕ → ℕ
slot_from n [] = n
slot_from n (b ∷ bs) = slot_from ((n * slot_factor + b) % slot_count) bs

-- the slot of a text
abbrev pub slot : List ℕ → ℕ
slot s = slot_from 0 s

-- the slot of a text is marked
abbrev pub IsMarked : List Bool → List ℕ → Type 0
IsMarked taken s = get_or taken (slot s) false ≡ true

-- the order of texts by their bytes, or first by their lengths
abbrev pub order : Bool → List ℕ → List ℕ → Ordering
order true = then_cmp (on length nat_cmp) name_cmp
order false = name_cmp

-- each text comes before the next one
abbrev pub IsRising : Bool → List (List ℕ) → Type 0
IsRising by_length [] = Unit {0}
IsRising by_length (s ∷ []) = Unit {0}
IsRising by_length (s ∷ t ∷ ts) = (order by_length s t ≡ Less) × IsRising by_length (t ∷ ts)
