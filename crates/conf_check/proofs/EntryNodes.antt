-- The entries of a table whose shape has a name, from one to the next.
use Rattle.std.proofs.Common.{◌≡◌, ◌+◌, ◌-◌, ◌<◌, ◌≤◌, cond, ℕ, zero, suc, Bool, true, false, List, [], ◌∷◌, ◌++◌, Some, None, length, slice_get, refl, sym, ap, ◌∙◌, arith, add-one}
use Rattle.conf_doc.specs.declared.configuration.Config.{Config}
use Rattle.yang_model.specs.ModelSets.{ModelSet}
use Rattle.xpath_part.specs.declared.nodes.Node.{Node}
use Rattle.conf_check.specs.Belongings.{Belongings}
use Rattle.conf_check.specs.ConfigTree.{entries_from, entry_node, is_shape_named, shaped_row}

some_same : {A : Type 0} (x y : A) → Some x ≡ Some y → x ≡ y
some_same x y e = cc

abbrev with_first : Bool → Node → List Node → List Node
with_first b x xs = cond b (x ∷ []) [] ++ xs

length_by : (b : Bool) (x : Node) (xs : List Node) (n : ℕ) → length xs ≤ n → length (with_first b x xs) ≤ suc n
length_by true x xs n le = omega arith
length_by false x xs n le = omega arith

module _ (models : ModelSet) (config : Config) (b : Belongings) (t : ℕ) (name : List ℕ) where
  abbrev pub E : ℕ → ℕ → List Node
  E k n = entries_from models config b t name k n

  abbrev pub named : ℕ → Bool
  named k = is_shape_named name (shaped_row models config b t k)

  abbrev node : ℕ → Node
  node k = entry_node t k

  pub here : (k n m : ℕ) → named k ≡ true → n ≡ suc m → slice_get (E k n) 0 ≡ Some (node k)
  here k n m is e = ap (λ n. slice_get (E k n) 0) e ∙ ap (λ b. slice_get (with_first b (node k) (E (suc k) m)) 0) is

  pub not_here : (k n m : ℕ) → named k ≡ false → n ≡ suc m → E k n ≡ E (k + 1) m
  not_here k n m is e = ap (E k) e ∙ ap (λ b. with_first b (node k) (E (suc k) m)) is ∙ ap (λ j. E j m) (sym (add-one k))

  pub length_within : (k n : ℕ) → length (E k n) ≤ n
  length_within k zero = omega arith
  length_within k (suc n) = length_by (named k) (node k) (E (suc k) n) n (length_within (suc k) n)

  -- an entry and the one behind it
  pub record Behind (k n i : ℕ) (x : Node) : Type 0 where
    pub within : x.key < k + n
    pub from : k ≤ x.key
    pub next : slice_get (E k n) (suc i) ≡ slice_get (E (suc x.key) (k + n - suc x.key)) 0

  behind_skip : (k n i j : ℕ) (x : Node) → slice_get (E k (suc n)) (suc j) ≡ slice_get (E (suc k) n) (suc i) → Behind (suc k) n i x → Behind k (suc n) j x
  behind_skip k n i j x e b =
      let m : suc k + n ≡ k + suc n = omega arith in
      record {
        within = omega (arith, b.within);
        from = omega (arith, b.from);
        next = e ∙ b.next ∙ ap (λ m. slice_get (E (suc (x.key)) (m - suc (x.key))) 0) m;
      }

  behind_by : (b : Bool) (k n i : ℕ) (x : Node) → named k ≡ b → slice_get (with_first b (node k) (E (suc k) n)) i ≡ Some x
      → ((i : ℕ) → slice_get (E (suc k) n) i ≡ Some x → Behind (suc k) n i x) → Behind k (suc n) i x
  behind_by false k n i x is at more = behind_skip k n i i x (ap (λ b. slice_get (with_first b (node k) (E (suc k) n)) (suc i)) is) (more i at)
  behind_by true k n zero x is at more =
      let same : node k ≡ x = some_same (node k) x at in
      let here : x.key ≡ k = ap (λ (m : Node). m.key) (sym same) in
      let m : k + suc n - suc k ≡ n = omega arith in
      record {
        within = omega arith;
        from = omega arith;
        next = ap (λ b. slice_get (with_first b (node k) (E (suc k) n)) 1) is ∙ rw (here, m) refl;
      }
  behind_by true k n (suc i) x is at more =
      behind_skip k n i (suc i) x (ap (λ b. slice_get (with_first b (node k) (E (suc k) n)) (suc (suc i))) is) (more i at)

  pub behind : (k n i : ℕ) (x : Node) → slice_get (E k n) i ≡ Some x → Behind k n i x
  behind k zero i x at = cc
  behind k (suc n) i x at = behind_by (named k) k n i x refl at (λ i. behind (suc k) n i x)

  pub entry_within : (n i : ℕ) (x : Node) → slice_get (E 0 n) i ≡ Some x → x.key < n
  entry_within n i x at = omega (arith, (behind 0 n i x at).within)

  pub entry_next : (n i : ℕ) (x : Node) → slice_get (E 0 n) i ≡ Some x
      → slice_get (E (x.key + 1) (n - (x.key + 1))) 0 ≡ slice_get (E 0 n) (i + 1)
  entry_next n i x at =
      let b = behind 0 n i x at in
      let m : n - (x.key + 1) ≡ 0 + n - suc x.key = omega arith in
      ap (λ k. slice_get (E k (n - (x.key + 1))) 0) (add-one x.key)
      ∙ ap (λ m. slice_get (E (suc x.key) m) 0) m
      ∙ sym b.next
      ∙ ap (slice_get (E 0 n)) (sym (add-one i))

  -- with none at a place, the first is behind it
  pub not_first : (n k : ℕ) → k < n → named k ≡ false → slice_get (E k (n - k)) 0 ≡ slice_get (E (k + 1) (n - (k + 1))) 0
  not_first n k lt is =
      let m : n - k ≡ suc (n - (k + 1)) = omega arith in
      ap (λ xs. slice_get xs 0) (not_here k (n - k) (n - (k + 1)) is m)

  pub is_first : (n k : ℕ) → k < n → named k ≡ true → slice_get (E k (n - k)) 0 ≡ Some (entry_node t k)
  is_first n k lt is =
      let m : n - k ≡ suc (n - (k + 1)) = omega arith in
      here k (n - k) (n - (k + 1)) is m

  pub none_left : (n k : ℕ) → n ≤ k → slice_get (E k (n - k)) 0 ≡ None
  none_left n k le =
      let m : n - k ≡ 0 = omega arith in
      ap (λ m. slice_get (E k m) 0) m
