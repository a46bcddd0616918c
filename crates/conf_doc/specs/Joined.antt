-- One text of some entries with their keys. A byte that no key, no name and no text of them has ends each of these.
use Rattle.std.specs.Prelude.{◌≡◌, ℕ, List, [], ◌∷◌, ◌++◌, false, nat_eq, map, take, drop}
use Rattle.std.specs.List.{list_any}
use Rattle.conf_doc.specs.declared.configuration.Value.{Value}
use Rattle.conf_doc.specs.declared.configuration.Value.TheVariants.{Text, List as Listed}

-- what ends a key, a name, a text, the items of a list, and the fields of an entry
abbrev pub end_mark : ℕ
end_mark = 0

-- what a text begins with: the letter T
abbrev pub text_mark : ℕ
text_mark = 84

-- what an item of a list begins with: the letter I
abbrev pub item_mark : ℕ
item_mark = 73

-- what a field begins with: the letter F
abbrev pub field_mark : ℕ
field_mark = 70

-- the text lacks the byte that ends texts
abbrev pub IsPlain : List ℕ → Type 0
IsPlain t = list_any (λ b. nat_eq b end_mark) t ≡ false

-- each of the texts does
abbrev pub ArePlain : List (List ℕ) → Type 0
ArePlain [] = Unit {0}
ArePlain (t ∷ ts) = IsPlain t × ArePlain ts

-- the text of a value does, or those of its list
abbrev pub IsPlainValue : Value → Type 0
IsPlainValue (Text t) = IsPlain t
IsPlainValue (Listed ts) = ArePlain ts

-- each name and each value does
abbrev pub ArePlainFields : List (List ℕ × Value) → Type 0
ArePlainFields [] = Unit {0}
ArePlainFields (f ∷ fs) = (IsPlain f.0 × IsPlainValue f.1) × ArePlainFields fs

-- each key, and each entry's names and values do
abbrev pub ArePlainEntries : List (List ℕ × List (List ℕ × Value)) → Type 0
ArePlainEntries [] = Unit {0}
ArePlainEntries (e ∷ es) = (IsPlain e.0 × ArePlainFields e.1) × ArePlainEntries es

-- a text and its end
abbrev pub ended : List ℕ → List ℕ
ended t = t ++ end_mark ∷ []

-- the items of a list, one after another
abbrev pub joined_items : List (List ℕ) → List ℕ
joined_items [] = []
joined_items (t ∷ ts) = (item_mark ∷ ended t) ++ joined_items ts

-- a text behind its mark, or the items behind the byte that ends texts
abbrev pub joined_value : Value → List ℕ
joined_value (Text t) = text_mark ∷ ended t
joined_value (Listed ts) = end_mark ∷ ended (joined_items ts)

-- a name and its value, behind their mark
abbrev pub joined_field : List ℕ × Value → List ℕ
joined_field f = field_mark ∷ (ended f.0 ++ joined_value f.1)

-- the fields of an entry, one after another
abbrev pub joined_fields : List (List ℕ × Value) → List ℕ
joined_fields [] = []
joined_fields (f ∷ fs) = joined_field f ++ joined_fields fs

-- a key and its entry's fields
abbrev pub joined_entry : List ℕ × List (List ℕ × Value) → List ℕ
joined_entry e = ended e.0 ++ ended (joined_fields e.1)

-- the entries, one after another
abbrev pub joined_entries : List (List ℕ × List (List ℕ × Value)) → List ℕ
joined_entries [] = []
joined_entries (e ∷ es) = joined_entry e ++ joined_entries es

-- the keys of entries, with no fields
abbrev pub bare : List (List ℕ × List (List ℕ × Value)) → List (List ℕ × List (List ℕ × Value))
bare es = map (λ e. (e.0, [])) es

-- the text of entries, of which it tells all
pub record IsJoined (es : List (List ℕ × List (List ℕ × Value))) (t : List ℕ) : Type 0 where
  pub joined : t ≡ joined_entries es
  pub plain : ArePlainEntries es

-- so many items of a list from an index on
abbrev pub segment : {A : Type 0} → ℕ → ℕ → List A → List A
segment from count xs = take count (drop from xs)
