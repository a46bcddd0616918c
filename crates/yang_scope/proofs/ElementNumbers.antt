-- The first element of a name, found by its number.
use Rattle.std.proofs.Common.{◌≡◌, ◌+◌, ℕ, suc, zero, Bool, true, false, cond, List, [], ◌∷◌, ◌++◌, length, length-append, append_assoc, add-zero, Option, Some, None, slice_get, option_and_then, option_map, refl, sym, ap, ◌∙◌, arith}
use Rattle.std.specs.List.{find}
use Rattle.std.proofs.lemmas.List.{append-nil}
use Rattle.std.specs.Option.{option_map_or}
use Rattle.std.specs.Str.{bytes_eq}
use Rattle.yang_text.specs.Declarations.{Declaration, argument}
use Rattle.yang_scope.specs.Paths.{is_named}
use Rattle.yang_scope.specs.Statements.{Entry, number_of_name, name_entry, each_from}
use Rattle.yang_scope.specs.Nodes.{node_entry}

behind : {X : Type 0} (ys : List X) (x : X) (xs : List X) (k : ℕ) → k ≡ length ys → slice_get (ys ++ x ∷ xs) k ≡ Some x
behind [] x xs zero is = refl
behind [] x xs (suc k) is = absurd (omega (arith, is))
behind (y ∷ ys) x xs zero is = absurd (omega (arith, is))
behind (y ∷ ys) x xs (suc k) is = behind ys x xs k (omega (arith, is))

one : {X : Type 0} (q : List ℕ) (a : Option (List ℕ)) (k : ℕ) (all : List X) (x : X) (rest : List Entry) (o : Option X)
    → slice_get all k ≡ Some x → option_and_then (slice_get all) (number_of_name q rest) ≡ o
    → option_and_then (slice_get all) (number_of_name q (name_entry k a ++ rest)) ≡ cond (option_map_or (bytes_eq q) a false) (Some x) o
one q None k all x rest o here later = later
one {X = X} q (Some name) k all x rest o here later = by (bytes_eq q name)
  where
    by : (b : Bool)
        → option_and_then (slice_get all) (option_map (λ (e : Entry). e.1) (cond {A = Option Entry} b (Some (name, k)) (find (λ (e : Entry). bytes_eq q e.0) rest)))
        ≡ cond {A = Option X} b (Some x) o
    by true = here
    by false = later

-- the names of elements, from a number on
abbrev pub entries : {X : Type 0} → (X → Declaration) → ℕ → List X → List Entry
entries stated k xs = each_from (λ i x. node_entry i (stated x)) k xs

pushed : {X : Type 0} (stated : X → Declaration) (k : ℕ) (xs : List X) (x : X) → entries stated k (xs ++ x ∷ []) ≡ entries stated k xs ++ node_entry (k + length xs) (stated x)
pushed stated k [] x = append-nil (node_entry k (stated x)) ∙ ap (λ n. node_entry n (stated x)) (sym (add-zero k))
pushed stated k (y ∷ xs) x =
    ap (λ es. node_entry k (stated y) ++ es) (pushed stated (suc k) xs x)
    ∙ sym (append_assoc (node_entry k (stated y)) (entries stated (suc k) xs) (node_entry (suc k + length xs) (stated x)))
    ∙ ap (λ n. (node_entry k (stated y) ++ entries stated (suc k) xs) ++ node_entry n (stated x)) (omega arith)

-- one element more
pub entries-push : {X : Type 0} (stated : X → Declaration) (xs : List X) (x : X) → entries stated 0 (xs ++ x ∷ []) ≡ entries stated 0 xs ++ node_entry (length xs) (stated x)
entries-push stated xs x = pushed stated 0 xs x ∙ ap (λ n. entries stated 0 xs ++ node_entry n (stated x)) (omega arith)

module _ {X : Type 0} (stated : X → Declaration) (q : List ℕ) where
  named-from : (ys xs : List X) (k : ℕ) → k ≡ length ys
      → option_and_then (slice_get (ys ++ xs)) (number_of_name q (entries stated k xs)) ≡ find (λ x. is_named q (stated x)) xs
  named-from ys [] k is = refl
  named-from ys (x ∷ xs) k is =
      one q (argument (stated x)) k (ys ++ x ∷ xs) x (entries stated (suc k) xs) (find (λ x. is_named q (stated x)) xs)
      (behind ys x xs k is)
      (ap (λ zs. option_and_then (slice_get zs) (number_of_name q (entries stated (suc k) xs))) (sym (append_assoc ys (x ∷ []) xs))
      ∙ named-from (ys ++ x ∷ []) xs (suc k) (omega (arith, is, length-append ys (x ∷ []))))

  -- the number of a name leads to the first element of that name
  pub named-at : (xs : List X) → option_and_then (slice_get xs) (number_of_name q (entries stated 0 xs)) ≡ find (λ x. is_named q (stated x)) xs
  named-at xs = named-from [] xs 0 refl
