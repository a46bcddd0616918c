-- The texts of an entry, and sets of texts.
use Rattle.std.specs.Prelude.{◌≡◌, ◌⊎◌, ℕ, true, List, [], ◌∷◌, Some, map, slice_get}
use Rattle.std.specs.BTreeSet.{contains_text}
use Rattle.std.specs.List.{Contains}
use Rattle.conf_doc.specs.declared.configuration.Entry.{Entry}
use Rattle.conf_doc.specs.declared.configuration.Value.{Value}
use Rattle.conf_doc.specs.declared.configuration.Value.TheVariants.{Text, List as Listed}
use Rattle.key_split.specs.Key.{key_parts}
use Rattle.ref_index.specs.declared.text_sets.TextSet.{TextSet}

-- the text of a field, or its items
abbrev pub texts_of_value : Value → List (List ℕ)
texts_of_value (Text t) = t ∷ []
texts_of_value (Listed ts) = ts

-- some field has the text
pub record HasFieldText (fields : Entry) (s : List ℕ) : Type 0 where
  pub field : ℕ
  pub value : Value
  pub there : slice_get (map (λ f. f.1) fields) field ≡ Some value
  pub has : Contains (texts_of_value value) s

-- a part of the key is the text, or some field has it
abbrev pub HasText : List ℕ → Entry → List ℕ → Type 0
HasText key fields s = Contains (key_parts key) s ⊎ HasFieldText fields s

-- the text is in the set
abbrev pub Has : TextSet → List ℕ → Type 0
Has set s = contains_text set.texts s ≡ true

-- no text of an entry is in the set
abbrev pub HasNoneOf : TextSet → List ℕ → Entry → Type 0
HasNoneOf set key fields = (s : List ℕ) → HasText key fields s → ¬ Has set s
