-- Whether names rise, whatever they name.
use Rattle.std.proofs.Common.{◌≡◌, ℕ, true, ◌&&◌, List, [], ◌∷◌, map, Less, is_lt, String, Global, string_bytes, refl, ap, ◌∙◌}
use Rattle.std.specs.FinMap as finite
use Rattle.std.specs.FinMap.Entries.{below_all}
use Rattle.std.specs.List.{AllByRecursion}
use Rattle.std.specs.List.Sorted.{IsStrictlySortedBy}
use Rattle.std.specs.Map.{keys_of}
use Rattle.std.specs.String.{string_cmp}
use Rattle.std.proofs.lemmas.Bool.{and_from}
use Rattle.host_core.specs.Names.{name_cmp}
use Rattle.conf_doc.specs.Pairs.{IsRising}
use Rattle.conf_doc.proofs.Lists.{map-map}

-- names that are the keys of a sorted map rise
module _ {A V : Type 0} where
  below_keys : (k : String Global) (x : List ℕ) (ps : List (List ℕ × A)) (es : List (String Global × V)) → x ≡ string_bytes k → map (λ p. p.0) ps ≡ map string_bytes (keys_of es) → AllByRecursion (λ y. string_cmp k y ≡ Less) (keys_of es) → below_all name_cmp x ps ≡ true
  below_keys k x [] es is names above = refl
  below_keys k x (p ∷ ps) [] is names above = cc
  below_keys k x (p ∷ ps) (e ∷ es) is names above =
      let first : p.0 ≡ string_bytes e.0 = cc in
      let others : map (λ p. p.0) ps ≡ map string_bytes (keys_of es) = cc in
      (λ i. is_lt (name_cmp (is i) (first i)) && below_all name_cmp x ps) ∙ ap (λ c. is_lt c && below_all name_cmp x ps) above.0 ∙ below_keys k x ps es is others above.1

  pub rising_keys : (ps : List (List ℕ × A)) (es : List (String Global × V)) → map (λ p. p.0) ps ≡ map string_bytes (keys_of es) → IsStrictlySortedBy string_cmp (keys_of es) → IsRising ps
  unfolding IsStrictlySortedBy
  rising_keys [] es names sorted = refl
  rising_keys (p ∷ ps) [] names sorted = cc
  rising_keys (p ∷ ps) (e ∷ es) names sorted =
      let first : p.0 ≡ string_bytes e.0 = cc in
      let others : map (λ p. p.0) ps ≡ map string_bytes (keys_of es) = cc in
      and_from _ _ (below_keys e.0 p.0 ps es first others sorted.0) (rising_keys ps es others sorted.1)

-- rising is a matter of the names
module _ {A B : Type 0} where
  below_names : (x : List ℕ) (ps : List (List ℕ × A)) (qs : List (List ℕ × B)) → map (λ p. p.0) ps ≡ map (λ q. q.0) qs → below_all name_cmp x ps ≡ below_all name_cmp x qs
  below_names x [] [] names = refl
  below_names x [] (q ∷ qs) names = cc
  below_names x (p ∷ ps) [] names = cc
  below_names x (p ∷ ps) (q ∷ qs) names =
      let first : p.0 ≡ q.0 = cc in
      let others : map (λ p. p.0) ps ≡ map (λ q. q.0) qs = cc in
      λ i. is_lt (name_cmp x (first i)) && below_names x ps qs others i

  pub is_sorted-names : (ps : List (List ℕ × A)) (qs : List (List ℕ × B)) → map (λ p. p.0) ps ≡ map (λ q. q.0) qs → finite.is_sorted name_cmp ps ≡ finite.is_sorted name_cmp qs
  is_sorted-names [] [] names = refl
  is_sorted-names [] (q ∷ qs) names = cc
  is_sorted-names (p ∷ ps) [] names = cc
  is_sorted-names (p ∷ ps) (q ∷ qs) names =
      let first : p.0 ≡ q.0 = cc in
      let others : map (λ p. p.0) ps ≡ map (λ q. q.0) qs = cc in
      ap (λ x. below_all name_cmp x ps && finite.is_sorted name_cmp ps) first ∙ (λ i. below_names q.0 ps qs others i && is_sorted-names ps qs others i)

-- pairs whose parts f changes
pub rising-map : {A B : Type 0} (f : A → B) (ps : List (List ℕ × A)) → IsRising ps → IsRising (map {B = List ℕ × B} (λ p. (p.0, f p.1)) ps)
rising-map {B = B} f ps rising = is_sorted-names _ ps (map-map (λ (q : List ℕ × B). q.0) (λ p. (p.0, f p.1)) ps) ∙ rising
