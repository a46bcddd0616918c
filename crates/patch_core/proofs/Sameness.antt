-- The test of two documents tells whether they are equal.
use Rattle.std.specs.Prelude.{◌≡◌, ℕ, Bool, true, false, ◌&&◌, List, [], ◌∷◌, nat_eq, IsTrue, ◌↔◌}
use Rattle.std.proofs.Common.{refl, sym, ap, subst}
use Rattle.std.proofs.lemmas.Bool.{eq-eqb}
use Rattle.std.specs.Cmp.Lexicographic.{pointwise, same_text}
use Rattle.conf_doc.specs.Document.{Document, text, list, object, Items, no_items, item, Members, no_members, member}
use Rattle.patch_core.specs.Same.{same, same_items, same_members}

both : (a b : Bool) → a ≡ true → b ≡ true → (a && b) ≡ true
both true b p q = q
both false b p q = absurd cc

first : (a b : Bool) → (a && b) ≡ true → a ≡ true
first true b h = refl
first false b h = absurd cc

second : (a b : Bool) → (a && b) ≡ true → b ≡ true
second true b h = h
second false b h = absurd cc

text_itself : (s : List ℕ) → pointwise nat_eq s s ≡ true
text_itself [] = refl
text_itself (b ∷ bs) = both _ _ (eq-eqb b b refl) (text_itself bs)

mutual
  same_itself : (d : Document) → same d d ≡ true
  same_itself (text s) = text_itself s
  same_itself (list ds) = items_itself ds
  same_itself (object ms) = members_itself ms

  items_itself : (ds : Items) → same_items ds ds ≡ true
  items_itself no_items = refl
  items_itself (item d ds) = both _ _ (same_itself d) (items_itself ds)

  members_itself : (ms : Members) → same_members ms ms ≡ true
  members_itself no_members = refl
  members_itself (member k d ms) = both _ _ (text_itself k) (both _ _ (same_itself d) (members_itself ms))

mutual
  same_tells : (d e : Document) → same d e ≡ true → d ≡ e
  same_tells (text s) (text t) h = ap text (same_text s t (sym h))
  same_tells (text s) (list es) h = absurd cc
  same_tells (text s) (object ns) h = absurd cc
  same_tells (list ds) (text t) h = absurd cc
  same_tells (list ds) (list es) h = ap list (items_tell ds es h)
  same_tells (list ds) (object ns) h = absurd cc
  same_tells (object ms) (text t) h = absurd cc
  same_tells (object ms) (list es) h = absurd cc
  same_tells (object ms) (object ns) h = ap object (members_tell ms ns h)

  items_tell : (ds es : Items) → same_items ds es ≡ true → ds ≡ es
  items_tell no_items no_items h = refl
  items_tell no_items (item e es) h = absurd cc
  items_tell (item d ds) no_items h = absurd cc
  items_tell (item d ds) (item e es) h = λ i. item (same_tells d e (first _ _ h) i) (items_tell ds es (second _ _ h) i)

  members_tell : (ms ns : Members) → same_members ms ns ≡ true → ms ≡ ns
  members_tell no_members no_members h = refl
  members_tell no_members (member l e ns) h = absurd cc
  members_tell (member k d ms) no_members h = absurd cc
  members_tell (member k d ms) (member l e ns) h =
      let rest = second (pointwise nat_eq k l) _ h in
      λ i. member (same_text k l (sym (first (pointwise nat_eq k l) _ h)) i) (same_tells d e (first (same d e) _ rest) i) (members_tell ms ns (second (same d e) _ rest) i)

pub same_decided : (b : Bool) (d e : Document) → IsTrue b ↔ (d ≡ e) → b ≡ same d e
same_decided true d e h = sym (subst (λ (x : Document). same d x ≡ true) (h.0 refl) (same_itself d))
same_decided false d e h =
    elim (same d e) as (λ s. same d e ≡ s → false ≡ s) [
      | true ↦ λ is. absurd (true_of_false (h.1 (same_tells d e is)))
      | false ↦ λ is. refl
    ] refl
  where
    true_of_false : IsTrue false → ⊥
    true_of_false p = cc

pub same_is_equal : (d e : Document) → IsTrue (same d e) ↔ (d ≡ e)
same_is_equal d e = (same_tells d e, λ is. subst (λ (x : Document). same d x ≡ true) is (same_itself d))
