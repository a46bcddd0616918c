-- From the names that a walk has passed to all names of its list.
use borrow.Author.Count.{below_more}
use Rattle.std.proofs.Common.{◌≡◌, ℕ, zero, suc, ◌+◌, ◌<◌, ◌≤◌, List, [], ◌∷◌, true, false, cond, map, length, slice_get, Option, Some, None, IsSome, Ordering, Less, Equal, Greater, is_eq, is_lt, refl, sym, ap, ◌∙◌, subst, arith}
use Rattle.std.specs.FinMap.Entries.{below_all}
use Rattle.std.specs.Ordering.{eq_by_cmp}
use Rattle.std.specs.Cmp.Lexicographic.{nat_list_cmp_total}
use Rattle.std.proofs.lemmas.Cmp.{tied_itself}
use Rattle.std.proofs.lemmas.Bool.{and_parts}
use Rattle.std.proofs.lemmas.Option.{slice_get_within}
use Rattle.host_core.specs.Names.{name_cmp}
use Rattle.conf_doc.specs.Pairs.{IsRising, find}
use Rattle.conf_doc.proofs.Edits.{same_name, turned}
use Rattle.conf_doc.proofs.Lists.{length-map}
use Rattle.move_core.specs.Kinds.{AreBefore}
use Rattle.gcu_requests.specs.TableWalks.{AreAt, AreBelow}

less_is : (c : Ordering) → is_lt c ≡ true → c ≡ Less
less_is Less e = refl
less_is Equal e = cc
less_is Greater e = cc

equal_is : (c : Ordering) → is_eq c ≡ true → c ≡ Equal
equal_is Less e = cc
equal_is Equal e = refl
equal_is Greater e = cc

pub same_Some : {A : Type 0} (x y : A) → Some x ≡ Some y → x ≡ y
same_Some x y e = cc

-- no name is before itself
pub never_before : (t u : List ℕ) → t ≡ u → name_cmp u t ≡ Less → ⊥
never_before t u same less =
    let tied : name_cmp u u ≡ Equal = tied_itself nat_list_cmp_total u in
    let here : name_cmp u u ≡ Less = subst (λ n. name_cmp u n ≡ Less) same less in
    absurd cc

not_turned : (x y : List ℕ) → name_cmp x y ≡ Less → name_cmp y x ≡ Less → ⊥
not_turned x y less back = let other : name_cmp y x ≡ Greater = turned x y Less less in absurd cc

module _ {A : Type 0} where
  -- where a name that is found stands
  key_at : (u : List ℕ) (ps : List (List ℕ × A)) → IsSome (find u ps)
      → (i : ℕ) × (slice_get (map (λ p. p.0) ps) i ≡ Some u)
  key_at u [] some = absurd cc
  key_at u (p ∷ ps) some =
      elim (eq_by_cmp name_cmp u p.0) as (λ b. eq_by_cmp name_cmp u p.0 ≡ b → IsSome (cond b (Some p.1) (find u ps))
      → (i : ℕ) × (slice_get (map (λ q. q.0) (p ∷ ps)) i ≡ Some u)) [
        | true ↦ λ e _. (zero, ap Some (sym (same_name u p.0 (equal_is _ e))))
        | false ↦ λ e there. let rest = key_at u ps there in (suc rest.0, rest.1)
      ] refl some

  -- a name that comes later is greater
  above : (x : List ℕ) (ps : List (List ℕ × A)) (name : List ℕ) (i : ℕ) → below_all name_cmp x ps ≡ true
      → slice_get (map (λ p. p.0) ps) i ≡ Some name → name_cmp x name ≡ Less
  above x [] name i below has = absurd cc
  above x (p ∷ ps) name zero below has =
      subst (λ n. name_cmp x n ≡ Less) (same_Some _ _ has) (less_is _ (and_parts _ _ below).0)
  above x (p ∷ ps) name (suc i) below has = above x ps name i (and_parts _ _ below).1 has

  -- a lesser name stands before
  earlier : (ps : List (List ℕ × A)) (i k : ℕ) (t u : List ℕ) → IsRising ps → slice_get (map (λ p. p.0) ps) i ≡ Some t
      → slice_get (map (λ p. p.0) ps) k ≡ Some u
      → name_cmp u t ≡ Less → k < i
  earlier [] i k t u rising at has less = absurd cc
  earlier (p ∷ ps) zero zero t u rising at has less =
      absurd (never_before t u (sym (same_Some _ _ at) ∙ same_Some _ _ has) less)
  earlier (p ∷ ps) zero (suc k) t u rising at has less =
      absurd (not_turned t u (subst (λ n. name_cmp n u ≡ Less) (same_Some _ _ at)
      (above p.0 ps u k (and_parts _ _ rising).0 has)) less)
  earlier (p ∷ ps) (suc i) zero t u rising at has less = omega arith
  earlier (p ∷ ps) (suc i) (suc k) t u rising at has less =
      omega (arith, earlier ps i k t u (and_parts _ _ rising).1 at has less)

  module _ (P : List ℕ → Type 0) (ps : List (List ℕ × A)) (i : ℕ) (before : AreBefore i P (map (λ p. p.0) ps)) where
    -- one more name
    pub one_more : (t : List ℕ) → slice_get (map (λ p. p.0) ps) i ≡ Some t → P t
        → AreBefore (i + 1) P (map (λ p. p.0) ps)
    one_more t at is j n below e =
        below_more (λ k. (m : List ℕ) → slice_get (map (λ p. p.0) ps) k ≡ Some m → P m) i
        (λ k less m f. before k m less f)
        (λ m f. subst P (same_Some t m (sym at ∙ f)) is) j below n e

    -- none is left
    pub all_passed : length ps ≤ i → AreAt P ps
    all_passed ended u some =
        let k = key_at u ps some in
        let within = slice_get_within (map (λ p. p.0) ps) k.0 u k.1 in
        before k.0 u (omega (arith, within, length-map (λ (p : List ℕ × A). p.0) ps, ended)) k.1

    -- those before the next one
    pub passed_below : (t : List ℕ) → IsRising ps → slice_get (map (λ p. p.0) ps) i ≡ Some t → AreBelow P ps t
    passed_below t rising at u less some =
        let k = key_at u ps some in before k.0 u (earlier ps i k.0 t u rising at k.1 less) k.1

-- what is so of each name that is found, and of those that aren't, is so of each
pub at_each : {A : Type 0} (P : List ℕ → Type 0) (ps : List (List ℕ × A)) (u : List ℕ) → (IsSome (find u ps) → P u)
    → (find u ps ≡ None → P u) → P u
at_each {A = A} P ps u there absent = by (find u ps) refl
  where
    by : (o : Option A) → find u ps ≡ o → P u
    by None e = absent e
    by (Some a) e = there (subst IsSome (sym e) refl)
