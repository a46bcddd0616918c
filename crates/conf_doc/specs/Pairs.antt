-- Lists of pairs of a name and what it names, in the order of their names.
use Rattle.std.specs.Prelude.{ℕ, suc, List, [], ◌∷◌, if◌then◌else◌, filter, not, IsTrue, Option, Some, None, length, ◌==◌}
use Rattle.std.specs.FinMap as map
use Rattle.std.specs.List.{list_all}
use Rattle.std.specs.Option.{option_map_or}
use Rattle.std.specs.Ordering.{eq_by_cmp, is_lt}
use Rattle.host_core.specs.Names.{name_cmp}

-- the names rise by their bytes, so none comes twice
abbrev pub IsRising : {A : Type 0} → List (List ℕ × A) → Type 0
IsRising ps = IsTrue (map.is_sorted name_cmp ps)

-- no name is empty
abbrev pub AreNamed : {A : Type 0} → List (List ℕ × A) → Type 0
AreNamed ps = IsTrue (list_all (λ p. not (length p.0 == 0)) ps)

-- what a name names
abbrev pub find : {A : Type 0} → List ℕ → List (List ℕ × A) → Option A
find name ps = map.find name_cmp name ps

-- the pair in its place, or in the place of one of that name
abbrev pub put : {A : Type 0} → List ℕ → A → List (List ℕ × A) → List (List ℕ × A)
put name a ps = map.put name_cmp name a ps

-- the pairs of other names
abbrev pub without : {A : Type 0} → List ℕ → List (List ℕ × A) → List (List ℕ × A)
without name ps = filter (λ p. not (eq_by_cmp name_cmp name p.0)) ps

-- the pairs with a name's part set, or for None with no such name
abbrev pub set_part : {A : Type 0} → List ℕ → Option A → List (List ℕ × A) → List (List ℕ × A)
set_part name None ps = without name ps
set_part name (Some a) ps = put name a ps

-- what f makes of a name's part is set in its place, where there is one
abbrev pub change_part : {A : Type 0} → List ℕ → (A → A) → List (List ℕ × A) → List (List ℕ × A)
change_part name f ps = option_map_or (λ a. put name (f a) ps) (find name ps) ps

-- the first index from which no name is below that one; the length, where all are
abbrev pub first_from : {A : Type 0} → List ℕ → List (List ℕ × A) → ℕ
first_from name [] = 0
first_from name (p ∷ ps) = if is_lt (name_cmp p.0 name) then suc (first_from name ps) else 0
