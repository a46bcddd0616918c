-- Pairs whose names rise are told by what is found among them.
use Rattle.std.proofs.Common.{◌≡◌, ◌↔◌, ℕ, List, [], ◌∷◌, true, false, cond, Option, Some, None, Less, Equal, Greater, refl, sym, ap, ◌∙◌, subst}
use Rattle.std.specs.Ordering.{eq_by_cmp}
use Rattle.std.proofs.lemmas.Bool.{and_parts}
use Rattle.host_core.specs.Names.{name_cmp}
use Rattle.conf_doc.specs.Pairs.{IsRising, find}
use Rattle.conf_doc.proofs.Edits.{find_at, find_gap, less, same_name, turned}
use Rattle.move_gen.proofs.Walks.{same_by}

module _ {A : Type 0} where
  same_Some : (x y : A) → Some x ≡ Some y → x ≡ y
  same_Some x y e = cc

  nowhere : (o : Option A) (x : A) → o ≡ None → o ≡ Some x → ⊥
  nowhere o x none some = cc

  first_found : (p : List ℕ × A) (ps : List (List ℕ × A)) → IsRising (p ∷ ps) → find p.0 (p ∷ ps) ≡ Some p.1
  first_found p ps rising = find_at (p ∷ ps) p.0 0 rising refl

  -- the first name occurs once
  first_gone : (p : List ℕ × A) (ps : List (List ℕ × A)) → IsRising (p ∷ ps) → find p.0 ps ≡ None
  first_gone p [] rising = refl
  first_gone p (q ∷ qs) rising = let h = and_parts _ _ rising in find_gap (q ∷ qs) p.0 0 h.1 (less _ (and_parts _ _ h.0).0)

  -- what is found behind the first pairs
  behind : (p q : List ℕ × A) (ps qs : List (List ℕ × A)) (f : List ℕ) (v : A) → p.0 ≡ q.0 → IsRising (p ∷ ps)
      → (find f (p ∷ ps) ≡ Some v → find f (q ∷ qs) ≡ Some v) → find f ps ≡ Some v → find f qs ≡ Some v
  behind p q ps qs f v first rising alike there =
      elim (eq_by_cmp name_cmp f p.0) as (λ b. eq_by_cmp name_cmp f p.0 ≡ b → find f qs ≡ Some v) [
        | true ↦ λ e. absurd (nowhere _ v (first_gone p ps rising) (subst (λ n. find n ps ≡ Some v) (same_by f p.0 e) there))
        | false ↦ λ e.
            let other : eq_by_cmp name_cmp f q.0 ≡ false = subst (λ n. eq_by_cmp name_cmp f n ≡ false) first e in
            sym (ap (λ b. cond b (Some q.1) (find f qs)) other) ∙ alike (ap (λ b. cond b (Some p.1) (find f ps)) e ∙ there)
      ] refl

  pub same_pairs : (ps qs : List (List ℕ × A)) → IsRising ps → IsRising qs → ((f : List ℕ) (v : A) → (find f ps ≡ Some v) ↔ (find f qs ≡ Some v)) → ps ≡ qs
  same_pairs [] [] ps_rise qs_rise alike = refl
  same_pairs [] (q ∷ qs) ps_rise qs_rise alike = absurd (nowhere None q.1 refl ((alike q.0 q.1).1 (first_found q qs qs_rise)))
  same_pairs (p ∷ ps) [] ps_rise qs_rise alike = absurd (nowhere None p.1 refl ((alike p.0 p.1).0 (first_found p ps ps_rise)))
  same_pairs (p ∷ ps) (q ∷ qs) ps_rise qs_rise alike =
      elim (name_cmp p.0 q.0) as (λ o. name_cmp p.0 q.0 ≡ o → p ∷ ps ≡ q ∷ qs) [
        | Less ↦ λ e. absurd (nowhere _ p.1 (find_gap (q ∷ qs) p.0 0 qs_rise e) ((alike p.0 p.1).0 (first_found p ps ps_rise)))
        | Equal ↦ λ e.
            let first = same_name p.0 q.0 e in
            let part : p.1 ≡ q.1 =
            same_Some p.1 q.1 (sym ((alike p.0 p.1).0 (first_found p ps ps_rise)) ∙ ap (λ n. find n (q ∷ qs)) first ∙ first_found q qs qs_rise) in
            let rest = same_pairs ps qs (and_parts _ _ ps_rise).1 (and_parts _ _ qs_rise).1
            (λ f v. (behind p q ps qs f v first ps_rise (alike f v).0, behind q p qs ps f v (sym first) qs_rise (alike f v).1)) in
            λ i. (first i, part i) ∷ rest i
        | Greater ↦ λ e. absurd (nowhere _ q.1 (find_gap (p ∷ ps) q.0 0 ps_rise (turned p.0 q.0 Greater e)) ((alike q.0 q.1).1 (first_found q qs qs_rise)))
      ] refl
