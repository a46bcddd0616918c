-- The text of some entries tells them all.
use Rattle.std.proofs.Common.{◌≡◌, ◌≤◌, ◌+◌, ◌-◌, ◌||◌, ℕ, zero, suc, Bool, true, false, nat_eq, List, [], ◌∷◌, ◌++◌, Some, drop, slice_get, refl, sym, ap, ◌∙◌, append_assoc, append-nil, arith}
use Rattle.std.specs.List.{list_any}
use Rattle.conf_doc.specs.Joined.{end_mark, item_mark, field_mark, IsPlain, ArePlain, IsPlainValue, ArePlainFields, ArePlainEntries, IsJoined, ended, joined_items, joined_value, joined_field, joined_fields, joined_entry, joined_entries, segment}
use Rattle.conf_doc.specs.declared.configuration.Value.{Value}
use Rattle.conf_doc.specs.declared.configuration.Value.TheVariants.{Text, List as Listed}
use Rattle.conf_doc.proofs.Lists.{take_more}

or_rest : (a b : Bool) → (a || b) ≡ false → b ≡ false
or_rest true b h = cc
or_rest false b h = h

plain_rest : (b : ℕ) (t : List ℕ) → IsPlain (b ∷ t) → IsPlain t
plain_rest b t h = or_rest (nat_eq b end_mark) (list_any (λ c. nat_eq c end_mark) t) h

-- where two texts end, and what follows
cut : (t u x y : List ℕ) → IsPlain t → IsPlain u → t ++ end_mark ∷ x ≡ u ++ end_mark ∷ y → (t ≡ u) × (x ≡ y)
cut [] [] x y h k e = let rest : x ≡ y = cc in (refl, rest)
cut [] (zero ∷ u) x y h k e = absurd cc
cut [] (suc c ∷ u) x y h k e = absurd cc
cut (zero ∷ t) [] x y h k e = absurd cc
cut (suc b ∷ t) [] x y h k e = absurd cc
cut (b ∷ t) (c ∷ u) x y h k e =
    let first : b ≡ c = cc in
    let left : t ++ end_mark ∷ x ≡ u ++ end_mark ∷ y = cc in
    let rest = cut t u x y (plain_rest b t h) (plain_rest c u k) left in
    (λ i. first i ∷ rest.0 i, rest.1)

-- what stands behind an ended text
behind : (t x : List ℕ) → ended t ++ x ≡ t ++ end_mark ∷ x
behind t x = append_assoc t (end_mark ∷ []) x

ended_cut : (t u x y : List ℕ) → IsPlain t → IsPlain u → ended t ++ x ≡ ended u ++ y → (t ≡ u) × (x ≡ y)
ended_cut t u x y h k e = cut t u x y h k (sym (behind t x) ∙ e ∙ behind u y)

behind_item : (t : List ℕ) (ts : List (List ℕ)) (x : List ℕ) → joined_items (t ∷ ts) ++ x ≡ item_mark ∷ (ended t ++ (joined_items ts ++ x))
behind_item t ts x = ap (λ s. item_mark ∷ s) (append_assoc (ended t) (joined_items ts) x)

items_cut : (ts us : List (List ℕ)) (x y : List ℕ) → ArePlain ts → ArePlain us → joined_items ts ++ end_mark ∷ x ≡ joined_items us ++ end_mark ∷ y → (ts ≡ us) × (x ≡ y)
items_cut [] [] x y h k e = let rest : x ≡ y = cc in (refl, rest)
items_cut [] (u ∷ us) x y h k e = absurd (let other : end_mark ∷ x ≡ item_mark ∷ (ended u ++ (joined_items us ++ end_mark ∷ y)) = e ∙ behind_item u us (end_mark ∷ y) in cc)
items_cut (t ∷ ts) [] x y h k e = absurd (let other : item_mark ∷ (ended t ++ (joined_items ts ++ end_mark ∷ x)) ≡ end_mark ∷ y = sym (behind_item t ts (end_mark ∷ x)) ∙ e in cc)
items_cut (t ∷ ts) (u ∷ us) x y h k e =
    let whole : item_mark ∷ (ended t ++ (joined_items ts ++ end_mark ∷ x)) ≡ item_mark ∷ (ended u ++ (joined_items us ++ end_mark ∷ y)) =
    sym (behind_item t ts (end_mark ∷ x)) ∙ e ∙ behind_item u us (end_mark ∷ y) in
    let left : ended t ++ (joined_items ts ++ end_mark ∷ x) ≡ ended u ++ (joined_items us ++ end_mark ∷ y) = cc in
    let first = ended_cut t u _ _ h.0 k.0 left in
    let rest = items_cut ts us x y h.1 k.1 first.1 in
    (λ i. first.0 i ∷ rest.0 i, rest.1)

value_cut : (v w : Value) (x y : List ℕ) → IsPlainValue v → IsPlainValue w → joined_value v ++ x ≡ joined_value w ++ y → (v ≡ w) × (x ≡ y)
value_cut (Text t) (Text u) x y h k e =
    let left : ended t ++ x ≡ ended u ++ y = cc in
    let both = ended_cut t u x y h k left in
    (ap Text both.0, both.1)
value_cut (Text t) (Listed us) x y h k e = absurd cc
value_cut (Listed ts) (Text u) x y h k e = absurd cc
value_cut (Listed ts) (Listed us) x y h k e =
    let left : ended (joined_items ts) ++ x ≡ ended (joined_items us) ++ y = cc in
    let both = items_cut ts us x y h k (sym (behind (joined_items ts) x) ∙ left ∙ behind (joined_items us) y) in
    (ap Listed both.0, both.1)

behind_field : (f : List ℕ × Value) (fs : List (List ℕ × Value)) (x : List ℕ) → joined_fields (f ∷ fs) ++ x ≡ field_mark ∷ (ended f.0 ++ (joined_value f.1 ++ (joined_fields fs ++ x)))
behind_field f fs x =
    append_assoc (joined_field f) (joined_fields fs) x
    ∙ ap (λ s. field_mark ∷ s) (append_assoc (ended f.0) (joined_value f.1) (joined_fields fs ++ x))

fields_cut : (fs gs : List (List ℕ × Value)) (x y : List ℕ) → ArePlainFields fs → ArePlainFields gs → joined_fields fs ++ end_mark ∷ x ≡ joined_fields gs ++ end_mark ∷ y → (fs ≡ gs) × (x ≡ y)
fields_cut [] [] x y h k e = let rest : x ≡ y = cc in (refl, rest)
fields_cut [] (g ∷ gs) x y h k e = absurd (let other : end_mark ∷ x ≡ field_mark ∷ (ended g.0 ++ (joined_value g.1 ++ (joined_fields gs ++ end_mark ∷ y))) = e ∙ behind_field g gs (end_mark ∷ y) in cc)
fields_cut (f ∷ fs) [] x y h k e = absurd (let other : field_mark ∷ (ended f.0 ++ (joined_value f.1 ++ (joined_fields fs ++ end_mark ∷ x))) ≡ end_mark ∷ y = sym (behind_field f fs (end_mark ∷ x)) ∙ e in cc)
fields_cut (f ∷ fs) (g ∷ gs) x y h k e =
    let whole : field_mark ∷ (ended f.0 ++ (joined_value f.1 ++ (joined_fields fs ++ end_mark ∷ x))) ≡ field_mark ∷ (ended g.0 ++ (joined_value g.1 ++ (joined_fields gs ++ end_mark ∷ y))) =
    sym (behind_field f fs (end_mark ∷ x)) ∙ e ∙ behind_field g gs (end_mark ∷ y) in
    let left : ended f.0 ++ (joined_value f.1 ++ (joined_fields fs ++ end_mark ∷ x)) ≡ ended g.0 ++ (joined_value g.1 ++ (joined_fields gs ++ end_mark ∷ y)) = cc in
    let name = ended_cut f.0 g.0 _ _ h.0.0 k.0.0 left in
    let value = value_cut f.1 g.1 _ _ h.0.1 k.0.1 name.1 in
    let rest = fields_cut fs gs x y h.1 k.1 value.1 in
    (λ i. (name.0 i, value.0 i) ∷ rest.0 i, rest.1)

behind_entry : (e : List ℕ × List (List ℕ × Value)) (x : List ℕ) → joined_entry e ++ x ≡ e.0 ++ end_mark ∷ (joined_fields e.1 ++ end_mark ∷ x)
behind_entry e x =
    append_assoc (ended e.0) (ended (joined_fields e.1)) x
    ∙ behind e.0 (ended (joined_fields e.1) ++ x)
    ∙ ap (λ s. e.0 ++ end_mark ∷ s) (behind (joined_fields e.1) x)

some_entry : (t x : List ℕ) → t ++ end_mark ∷ x ≡ [] → ⊥
some_entry [] x e = cc
some_entry (b ∷ t) x e = cc

entries_cut : (es fs : List (List ℕ × List (List ℕ × Value))) → ArePlainEntries es → ArePlainEntries fs → joined_entries es ≡ joined_entries fs → es ≡ fs
entries_cut [] [] h k e = refl
entries_cut [] (f ∷ fs) h k e = absurd (some_entry f.0 _ (sym (behind_entry f (joined_entries fs)) ∙ sym e))
entries_cut (d ∷ es) [] h k e = absurd (some_entry d.0 _ (sym (behind_entry d (joined_entries es)) ∙ e))
entries_cut (d ∷ es) (f ∷ fs) h k e =
    let key = cut d.0 f.0 _ _ h.0.0 k.0.0 (sym (behind_entry d (joined_entries es)) ∙ e ∙ behind_entry f (joined_entries fs)) in
    let fields = fields_cut d.1 f.1 _ _ h.0.1 k.0.1 key.1 in
    λ i. (key.0 i, fields.0 i) ∷ entries_cut es fs h.1 k.1 fields.1 i

-- entries are the same where their texts are
pub same_entries : (es fs : List (List ℕ × List (List ℕ × Value))) (t u : List ℕ) → IsJoined es t → IsJoined fs u → t ≡ u → es ≡ fs
same_entries es fs t u one two e = entries_cut es fs one.plain two.plain (sym one.joined ∙ e ∙ two.joined)

-- one more item
pub joined_items-more : (ts : List (List ℕ)) (t : List ℕ) → joined_items (ts ++ t ∷ []) ≡ joined_items ts ++ item_mark ∷ ended t
joined_items-more [] t = append-nil (item_mark ∷ ended t)
joined_items-more (u ∷ ts) t = ap (λ s. (item_mark ∷ ended u) ++ s) (joined_items-more ts t) ∙ sym (append_assoc (item_mark ∷ ended u) (joined_items ts) (item_mark ∷ ended t))

pub plain_more : (ts : List (List ℕ)) (t : List ℕ) → ArePlain ts → IsPlain t → ArePlain (ts ++ t ∷ [])
plain_more [] t h k = (k, tt)
plain_more (u ∷ ts) t h k = (h.0, plain_more ts t h.1 k)

-- one more field
pub joined_fields-more : (fs : List (List ℕ × Value)) (f : List ℕ × Value) → joined_fields (fs ++ f ∷ []) ≡ joined_fields fs ++ joined_field f
joined_fields-more [] f = append-nil (joined_field f)
joined_fields-more (g ∷ fs) f = ap (λ s. joined_field g ++ s) (joined_fields-more fs f) ∙ sym (append_assoc (joined_field g) (joined_fields fs) (joined_field f))

pub plain_fields-more : (fs : List (List ℕ × Value)) (f : List ℕ × Value) → ArePlainFields fs → IsPlain f.0 × IsPlainValue f.1 → ArePlainFields (fs ++ f ∷ [])
plain_fields-more [] f h k = (k, tt)
plain_fields-more (g ∷ fs) f h k = (h.0, plain_fields-more fs f h.1 k)

-- one more entry
pub joined_entries-more : (es : List (List ℕ × List (List ℕ × Value))) (e : List ℕ × List (List ℕ × Value)) → joined_entries (es ++ e ∷ []) ≡ joined_entries es ++ joined_entry e
joined_entries-more [] e = append-nil (joined_entry e)
joined_entries-more (f ∷ es) e = ap (λ s. joined_entry f ++ s) (joined_entries-more es e) ∙ sym (append_assoc (joined_entry f) (joined_entries es) (joined_entry e))

pub plain_entries-more : (es : List (List ℕ × List (List ℕ × Value))) (e : List ℕ × List (List ℕ × Value)) → ArePlainEntries es → IsPlain e.0 × ArePlainFields e.1 → ArePlainEntries (es ++ e ∷ [])
plain_entries-more [] e h k = (k, tt)
plain_entries-more (f ∷ es) e h k = (h.0, plain_entries-more es e h.1 k)

module _ {A : Type 0} where
  pub slice_get_drop : (n i : ℕ) (xs : List A) → slice_get (drop n xs) i ≡ slice_get xs (n + i)
  slice_get_drop zero i xs = let same : i ≡ 0 + i = omega arith in ap (slice_get xs) same
  slice_get_drop (suc n) i [] = refl
  slice_get_drop (suc n) i (x ∷ xs) = let same : suc (n + i) ≡ suc n + i = omega arith in slice_get_drop n i xs ∙ ap (slice_get (x ∷ xs)) same

  -- one more item from an index on
  pub segment_more : (xs : List A) (from i : ℕ) (x : A) → from ≤ i → slice_get xs i ≡ Some x → segment from (i + 1 - from) xs ≡ segment from (i - from) xs ++ x ∷ []
  segment_more xs from i x above is =
      let next : i + 1 - from ≡ (i - from) + 1 = omega arith in
      let there : from + (i - from) ≡ i = omega arith in
      ap (λ n. segment from n xs) next
      ∙ take_more (drop from xs) (i - from) x (slice_get_drop from (i - from) xs ∙ ap (slice_get xs) there ∙ is)
