-- Of pairs of names and parts finitely many rising lists can be made.
use Rattle.std.proofs.Common.{◌≡◌, ◌⊎◌, inl, inr, Bool, true, false, cond, not, T, true≢false, List, [], ◌∷◌, ℕ, Option, Some, None, refl, sym, ap, subst, ◌∙◌}
use Rattle.std.specs.Cmp.{tied_itself}
use Rattle.std.specs.FinMap.Entries.{find-put, find-where_key, same_entries}
use Rattle.std.specs.List.{Contains}
use Rattle.std.specs.Ordering.{eq_by_cmp, is_eq}
use Rattle.std.specs.declared.cmp.Ordering.{Ordering}
use Rattle.std.specs.declared.cmp.Ordering.TheVariants.{Less, Equal, Greater}
use Rattle.host_core.specs.Names.{name_cmp}
use Rattle.conf_doc.specs.Pairs.{IsRising, find, put, without}
use Rattle.conf_doc.proofs.Edits.{rising_put, rising_without, same_name, same_Some, total}
use Rattle.move_lists.specs.Finite.{IsFinite}
use Rattle.move_lists.proofs.FiniteSets.{finite_either, finite_image, finite_one, finite_within}
use Rattle.move_lists.proofs.Members.{first_member, later_member, member_cases, no_member}

ordered_equal : (o : Ordering) → is_eq o ≡ true → o ≡ Equal
ordered_equal Less e = cc
ordered_equal Equal e = refl
ordered_equal Greater e = cc

same_by : (a b : List ℕ) → eq_by_cmp name_cmp a b ≡ true → a ≡ b
same_by a b e = same_name a b (ordered_equal (name_cmp a b) e)

test : (b : Bool) → b ≡ true → T b
test true e = tt
test false e = absurd (true≢false (sym e))

itself : (a : List ℕ) → eq_by_cmp name_cmp a a ≡ true
itself a = ap is_eq (tied_itself total a)

module _ {A : Type 0} where
  -- what a name names stands beside it
  pub found_member : (ps : List (List ℕ × A)) (n : List ℕ) (a : A) → find n ps ≡ Some a → Contains ps (n, a)
  found_member [] n a e = absurd (cc)
  found_member (p ∷ ps) n a e = by (found_member ps n a) (eq_by_cmp name_cmp n p.0) refl
    where
      by : (find n ps ≡ Some a → Contains ps (n, a)) → (b : Bool) → eq_by_cmp name_cmp n p.0 ≡ b → Contains (p ∷ ps) (n, a)
      by later true t =
          let part : p.1 ≡ a = same_Some p.1 a (sym (ap (λ b. cond b (Some p.1) (find n ps)) t) ∙ e) in
          let pair : p ≡ (n, a) = λ i. (sym (same_by n p.0 t) i, part i) in
          subst (Contains (p ∷ ps)) pair (first_member p ps)
      by later false t =
          later_member p ps (n, a) (later (sym (ap (λ b. cond b (Some p.1) (find n ps)) t) ∙ e))

  -- a rising list of pairs of another list
  pub record IsSelected (ps new : List (List ℕ × A)) : Type 0 where
    pub rising : IsRising new
    pub there : (n : List ℕ) (a : A) → find n new ≡ Some a → Contains ps (n, a)

  -- no other name is found but those that aren't left out
  found_without : (n m : List ℕ) (ps : List (List ℕ × A)) → find m (without n ps) ≡ cond (not (eq_by_cmp name_cmp n m)) (find m ps) None
  found_without n m ps = find-where_key name_cmp (λ k. not (eq_by_cmp name_cmp n k)) m alike ps
    where
      alike : (x : List ℕ) → name_cmp m x ≡ Equal → not (eq_by_cmp name_cmp n x) ≡ not (eq_by_cmp name_cmp n m)
      alike x e = ap (λ k. not (eq_by_cmp name_cmp n k)) (sym (same_name m x e))

  -- a pair put back where it was left out
  put_back : (n : List ℕ) (a : A) (ps : List (List ℕ × A)) → IsRising ps → find n ps ≡ Some a → ps ≡ put n a (without n ps)
  put_back n a ps rising e = same_entries name_cmp total same_name ps (put n a (without n ps)) (test _ rising) (test _ (rising_put (without n ps) n a (rising_without ps n rising))) same
    where
      same : (m : List ℕ) → find m ps ≡ find m (put n a (without n ps))
      same m = by (eq_by_cmp name_cmp m n) refl (eq_by_cmp name_cmp n m) refl
        where
          put_in : (b : Bool) → eq_by_cmp name_cmp m n ≡ b → find m (put n a (without n ps)) ≡ cond b (Some a) (find m (without n ps))
          put_in b t = find-put name_cmp total m n a (without n ps) ∙ ap (λ c. cond c (Some a) (find m (without n ps))) t

          by : (b : Bool) → eq_by_cmp name_cmp m n ≡ b → (c : Bool) → eq_by_cmp name_cmp n m ≡ c → find m ps ≡ find m (put n a (without n ps))
          by true t c s = ap (λ k. find k ps) (same_by m n t) ∙ e ∙ sym (put_in true t)
          by false t true s = absurd (true≢false (sym (subst (λ k. eq_by_cmp name_cmp k n ≡ true) (same_by n m s) (itself n)) ∙ t))
          by false t false s = sym (put_in false t ∙ found_without n m ps ∙ ap (λ c. cond (not c) (find m ps) None) s)

  module _ (p : List ℕ × A) (ps : List (List ℕ × A)) where
    -- it has the first pair, or is of the rest
    selected_cases : (new : List (List ℕ × A)) → IsSelected (p ∷ ps) new
        → ((old : List (List ℕ × A)) × IsSelected ps old × (new ≡ put p.0 p.1 old)) ⊎ IsSelected ps new
    selected_cases new is = by (find p.0 new) refl
      where
        -- what is found and isn't the first pair is in the rest
        others : (n : List ℕ) (a : A) → find n new ≡ Some a → (p ≡ (n, a) → Contains ps (n, a)) → Contains ps (n, a)
        others n a f first = of (member_cases p ps (n, a) (is.there n a f))
          where
            of : (p ≡ (n, a)) ⊎ Contains ps (n, a) → Contains ps (n, a)
            of (inl same) = first same
            of (inr h) = h

        not_left_out : (n : List ℕ) (a : A) → find n (without p.0 new) ≡ Some a → Contains ps (n, a)
        not_left_out n a f = of (eq_by_cmp name_cmp p.0 n) refl
          where
            seen : (b : Bool) → eq_by_cmp name_cmp p.0 n ≡ b → cond (not b) (find n new) None ≡ Some a
            seen b t = sym (found_without p.0 n new ∙ ap (λ c. cond (not c) (find n new) None) t) ∙ f

            of : (b : Bool) → eq_by_cmp name_cmp p.0 n ≡ b → Contains ps (n, a)
            of true t = let h = seen true t in absurd (cc)
            of false t =
                others n a (seen false t)
                (λ same. absurd (true≢false (sym (subst (λ k. eq_by_cmp name_cmp p.0 k ≡ true) (ap (λ q. q.0) same) (itself p.0)) ∙ t)))

        by : (o : Option A) → find p.0 new ≡ o
            → ((old : List (List ℕ × A)) × IsSelected ps old × (new ≡ put p.0 p.1 old)) ⊎ IsSelected ps new
        by None e = inr (record { rising = is.rising; there = λ n a f. others n a f (none n a f) })
          where
            none : (n : List ℕ) (a : A) → find n new ≡ Some a → p ≡ (n, a) → Contains ps (n, a)
            none n a f same = let h = sym e ∙ ap (λ q. find q.0 new) same ∙ f in absurd (cc)
        by (Some w) e = of (member_cases p ps (p.0, w) (is.there p.0 w e))
          where
            one : Contains ps (p.0, w) → (n : List ℕ) (a : A) → find n new ≡ Some a → p ≡ (n, a) → Contains ps (n, a)
            one h n a f same =
                let name : p.0 ≡ n = ap (λ q. q.0) same in
                let part : w ≡ a = same_Some w a (sym e ∙ ap (λ k. find k new) name ∙ f) in
                subst (Contains ps) (λ i. (name i, part i)) h

            of : (p ≡ (p.0, w)) ⊎ Contains ps (p.0, w)
                → ((old : List (List ℕ × A)) × IsSelected ps old × (new ≡ put p.0 p.1 old)) ⊎ IsSelected ps new
            of (inl same) = inl (
              without p.0 new,
              record { rising = rising_without new p.0 is.rising; there = not_left_out },
              put_back p.0 p.1 new is.rising (e ∙ ap (λ q. Some q.1) (sym same)),
            )
            of (inr h) = inr (record { rising = is.rising; there = λ n a f. others n a f (one h n a f) })

  -- there are finitely many
  pub finite_selected : (ps : List (List ℕ × A)) → IsFinite (IsSelected ps)
  finite_selected [] = finite_within (IsSelected []) (λ new. new ≡ []) none (finite_one [])
    where
      none : (new : List (List ℕ × A)) → IsSelected [] new → new ≡ []
      none [] is = refl
      none (q ∷ qs) is =
          absurd (no_member _ (is.there q.0 q.1 (ap (λ b. cond b (Some q.1) (find q.0 qs)) (itself q.0))))
  finite_selected (p ∷ ps) =
      finite_within (IsSelected (p ∷ ps)) (λ new. ((old : List (List ℕ × A)) × IsSelected ps old × (new ≡ put p.0 p.1 old)) ⊎ IsSelected ps new)
      (selected_cases p ps)
      (finite_either (λ new. (old : List (List ℕ × A)) × IsSelected ps old × (new ≡ put p.0 p.1 old)) (IsSelected ps)
      (finite_image (IsSelected ps) (put p.0 p.1) (finite_selected ps)) (finite_selected ps))
