-- Lists of pairs compared pair by pair, the name before what it names; a proper prefix comes first.
use Rattle.std.specs.Prelude.{ℕ, List, ◌++◌, Bool, ◌&&◌}
use Rattle.std.specs.declared.cmp.Ordering.{Ordering}
use Rattle.std.specs.Cmp.Lexicographic.{pointwise, slice_cmp}
use Rattle.std.specs.Hash as fed
use Rattle.std.specs.Hash.{HashWrites}
use Rattle.std.specs.Ordering.{ordering_then}
use Rattle.std.specs.Str.{bytes_eq}
use Rattle.host_core.specs.Names.{name_cmp}

-- the same name, and parts that E finds equal
abbrev pub pair_eq : {A : Type 0} → (A → A → Bool) → List ℕ × A → List ℕ × A → Bool
pair_eq E p q = bytes_eq p.0 q.0 && E p.1 q.1

-- as many pairs, each equal
abbrev pub pairs_eq : {A : Type 0} → (A → A → Bool) → List (List ℕ × A) → List (List ℕ × A) → Bool
pairs_eq E = pointwise (pair_eq E)

-- names by their bytes, then the parts by R
abbrev pub pair_cmp : {A : Type 0} → (A → A → Ordering) → List ℕ × A → List ℕ × A → Ordering
pair_cmp R p q = ordering_then (name_cmp p.0 q.0) (R p.1 q.1)

-- the first pair that differs decides, else the lengths do
abbrev pub pairs_cmp : {A : Type 0} → (A → A → Ordering)
    → List (List ℕ × A) → List (List ℕ × A) → Ordering
pairs_cmp R = slice_cmp (pair_cmp R)

-- what a hasher is fed: the length, then each name and what F feeds of its part
abbrev pub pairs_fed : {A : Type 0} → (A → HashWrites) → List (List ℕ × A) → HashWrites
pairs_fed F = fed.slice (λ p. fed.str p.0 ++ F p.1)
