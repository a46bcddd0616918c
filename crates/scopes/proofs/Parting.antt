-- The parts of a patch, scope after scope, and each operation after operation.
use Rattle.std.proofs.Common.{◌≡◌, ℕ, ◌+◌, ◌<◌, Bool, true, false, cond, ◌||◌, List, [], ◌∷◌, ◌++◌, map, filter, length, get_or, take, refl, sym, ap, ◌∙◌, arith}
use Rattle.std.proofs.lemmas.List.{append-nil, map-append, take_more}
use Rattle.std.proofs.lemmas.List.Elements.{filter-append}
use Rattle.std.proofs.lemmas.List.FromFn.{map-range_with_len_more}
use Rattle.std.specs.List.{list_any, range_with_len}
use Rattle.patch_core.specs.Operation.{Operation, operation_of}
use Rattle.patch_core.specs.declared.operations.Op.{Op}
use Rattle.scopes.specs.Scopes.{all_scopes, most_asics, scope_name}
use Rattle.scopes.specs.Splitting.{Part, below, is_in, is_under, operations_in, part_if_any, parts}
use Rattle.scopes.specs.declared.scope.Scope.{Scope}
use Rattle.scopes.specs.declared.scope.Scope.TheVariants.{Localhost, Asic}

-- the parts of some scopes
abbrev pub parts_among : List Scope → List Operation → List Part
parts_among scopes ops = map {B = Part} (λ scope. (scope, operations_in scope ops)) (filter (λ scope. list_any (is_in scope) ops) scopes)

-- localhost, and so many ASICs
abbrev pub first_scopes : ℕ → List Scope
first_scopes n = Localhost ∷ map Asic (range_with_len 0 n)

pub all_parts : (ops : List Operation) → parts_among (first_scopes most_asics) ops ≡ parts ops
unfolding all_scopes
all_parts ops = refl

one_part : (scope : Scope) (ops : List Operation) → parts_among (scope ∷ []) ops ≡ part_if_any scope ops
one_part scope ops = by (list_any (is_in scope) ops)
  where
    by : (b : Bool) → map {B = Part} (λ scope. (scope, operations_in scope ops)) (cond b (scope ∷ []) []) ≡ cond b ((scope, operations_in scope ops) ∷ []) []
    by true = refl
    by false = refl

-- before the first ASIC
pub first_part : (ops : List Operation) → [] ++ part_if_any Localhost ops ≡ parts_among (first_scopes 0) ops
first_part ops = sym (one_part Localhost ops)

-- and after one more
pub parts_more : (n : ℕ) (ops : List Operation)
    → parts_among (first_scopes n) ops ++ part_if_any (Asic n) ops ≡ parts_among (first_scopes (n + 1)) ops
parts_more n ops =
    ap (λ p. parts_among (first_scopes n) ops ++ p) (sym (one_part (Asic n) ops))
    ∙ sym (map-append {B = Part} (λ scope. (scope, operations_in scope ops)) (filter (λ scope. list_any (is_in scope) ops) (first_scopes n)) (filter (λ scope. list_any (is_in scope) ops) (Asic n ∷ [])))
    ∙ ap (map {B = Part} (λ scope. (scope, operations_in scope ops))) (sym (filter-append (λ scope. list_any (is_in scope) ops) (first_scopes n) (Asic n ∷ [])))
    ∙ ap (λ scopes. parts_among (Localhost ∷ scopes) ops) (sym (map-range_with_len_more Asic 0 n n (omega arith)))

-- ---- one part

none_under : (name : List ℕ) (ops : List Operation) → filter (is_under name) ops ≡ [] → list_any (is_under name) ops ≡ false
none_under name [] e = refl
none_under name (op ∷ ops) e = by (is_under name op) (none_under name ops) e
  where
    by : (b : Bool) → (filter (is_under name) ops ≡ [] → list_any (is_under name) ops ≡ false)
        → cond b (op ∷ filter (is_under name) ops) (filter (is_under name) ops) ≡ [] → (b || list_any (is_under name) ops) ≡ false
    by true rest e = absurd cc
    by false rest e = rest e

unmapped : {X Y : Type 0} (f : X → Y) (xs : List X) → map f xs ≡ [] → xs ≡ []
unmapped f [] e = refl
unmapped f (x ∷ xs) e = absurd cc

all_out : (name : List ℕ) (xs : List Operation) → list_any (is_under name) xs ≡ false → filter (is_under name) xs ≡ []
all_out name [] e = refl
all_out name (x ∷ xs) e = by (is_under name x) e (all_out name xs)
  where
    by : (b : Bool) → (b || list_any (is_under name) xs) ≡ false → (list_any (is_under name) xs ≡ false → filter (is_under name) xs ≡ [])
        → cond b (x ∷ filter (is_under name) xs) (filter (is_under name) xs) ≡ []
    by true e rest = absurd cc
    by false e rest = rest e

module _ (scope : Scope) (ops : List Operation) (before : List Part) (these : List Op) (is : map operation_of these ≡ operations_in scope ops) where
  -- without operations there is no part more
  pub no_part : these ≡ [] → before ≡ before ++ part_if_any scope ops
  no_part none =
      let empty = none_under (scope_name scope) ops (unmapped below (filter (is_in scope) ops) (sym is ∙ ap (map operation_of) none)) in
      sym (append-nil before) ∙ ap (λ b. before ++ cond b ((scope, operations_in scope ops) ∷ []) []) (sym empty)

  -- with some there is one
  pub one_part_more : (these ≡ [] → ⊥) → before ++ (scope, map operation_of these) ∷ [] ≡ before ++ part_if_any scope ops
  one_part_more some = ap (λ os. before ++ (scope, os) ∷ []) is ∙ by (list_any (is_in scope) ops) refl
    where
      by : (b : Bool) → list_any (is_in scope) ops ≡ b
          → before ++ (scope, operations_in scope ops) ∷ [] ≡ before ++ cond (list_any (is_in scope) ops) ((scope, operations_in scope ops) ∷ []) []
      by true any = ap (λ b. before ++ cond b ((scope, operations_in scope ops) ∷ []) []) (sym any)
      by false none = absurd (some (unmapped operation_of these (is ∙ ap (map below) (all_out (scope_name scope) ops none))))

-- ---- operation after operation

-- those under a name, below it
abbrev pub those_under : List ℕ → List Op → List Operation
those_under name ops = map below (filter (is_under name) (map operation_of ops))

module _ (name : List ℕ) (ops : List Op) (k : ℕ) (op : Op) (less : k < length ops) (is : op ≡ get_or ops k op) where
  one_more : those_under name (take (k + 1) ops) ≡ those_under name (take k ops) ++ those_under name (op ∷ [])
  one_more =
      ap (those_under name) (take_more ops k op less ∙ ap (λ o. take k ops ++ o ∷ []) (sym is))
      ∙ ap (λ xs. map below (filter (is_under name) xs)) (map-append operation_of (take k ops) (op ∷ []))
      ∙ ap (map below) (filter-append (is_under name) (map operation_of (take k ops)) (operation_of op ∷ []))
      ∙ map-append below (filter (is_under name) (map operation_of (take k ops))) (filter (is_under name) (operation_of op ∷ []))

  -- one more that is under it
  pub one_under : is_under name (operation_of op) ≡ true → those_under name (take (k + 1) ops) ≡ those_under name (take k ops) ++ below (operation_of op) ∷ []
  one_under under = one_more ∙ ap (λ b. those_under name (take k ops) ++ map below (cond b (operation_of op ∷ []) [])) under

  -- one more that isn't
  pub one_aside : is_under name (operation_of op) ≡ false → those_under name (take (k + 1) ops) ≡ those_under name (take k ops)
  one_aside aside =
      one_more ∙ ap (λ b. those_under name (take k ops) ++ map below (cond b (operation_of op ∷ []) [])) aside
      ∙ append-nil (those_under name (take k ops))
