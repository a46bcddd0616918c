-- Lists of pairs are equal, ordered and hashed as lawfully as their parts are.
use Rattle.std.specs.Prelude.{◌≡◌, ℕ, List, Bool}
use Rattle.std.specs.declared.cmp.Ordering.{Ordering}
use Rattle.std.specs.Cmp.{IsEquivalence, IsPartialEquivalence, IsTotalOrder, and_equiv, and_per, both_tied, on_equiv, on_per, on_total, partial_equiv_from_equiv, then_total}
use Rattle.std.specs.Cmp.Lexicographic.{bytes_decides, lists_equiv, lists_per, lists_ties, lists_total, nat_list_cmp_total, nat_list_eq_equiv, texts_ties}
use Rattle.std.specs.Hash as fed
use Rattle.std.specs.Hash.{Alike, HashWrites, and-Alike, items_Alike, on_Alike, same_Alike}
use Rattle.std.specs.Ordering.{eq_by_cmp}
use Rattle.host_core.specs.Names.{name_cmp}
use Rattle.conf_doc.specs.Order.{pair_cmp, pairs_cmp, pairs_eq, pairs_fed}

module _ {A : Type 0} {E : A → A → Bool} where
  pub pairs_per : IsPartialEquivalence E → IsPartialEquivalence (pairs_eq E)
  pairs_per e =
      lists_per (and_per (on_per (λ p. p.0) (partial_equiv_from_equiv nat_list_eq_equiv))
      (on_per (λ p. p.1) e))

  pub pairs_equiv : IsEquivalence E → IsEquivalence (pairs_eq E)
  pairs_equiv e =
      lists_equiv (and_equiv (on_equiv (λ p. p.0) nat_list_eq_equiv) (on_equiv (λ p. p.1) e))

  pub pairs_tied : (R : A → A → Ordering) → ((x y : A) → E x y ≡ eq_by_cmp R x y)
      → (xs ys : List (List ℕ × A)) → pairs_eq E xs ys ≡ eq_by_cmp (pairs_cmp R) xs ys
  pairs_tied R tied =
      lists_ties (pair_cmp R) (λ p q.
      both_tied _ _ (name_cmp p.0 q.0) (R p.1 q.1) (texts_ties p.0 q.0) (tied p.1 q.1))

  pub pairs_alike : {F : A → HashWrites} → Alike E F → Alike (pairs_eq E) (pairs_fed F)
  pairs_alike alike =
      items_Alike (and-Alike (on_Alike (λ p. p.0) (same_Alike fed.str bytes_decides))
      (on_Alike (λ p. p.1) alike))

-- a total order of the parts gives one of the pairs
pub pairs_total : {A : Type 0} {R : A → A → Ordering} → IsTotalOrder R → IsTotalOrder (pairs_cmp R)
pairs_total order =
    lists_total (then_total (on_total (λ p. p.0) nat_list_cmp_total) (on_total (λ p. p.1) order))
