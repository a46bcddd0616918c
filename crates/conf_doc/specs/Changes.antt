-- Places in a configuration, and what a change at one makes of it.
use Rattle.std.specs.Prelude.{◌≡◌, ℕ, List, [], ◌∷◌, length, Option, Some, None, option_map, option_and_then, IsSome}
use Rattle.conf_doc.specs.Pairs.{find, put, without, change_part}
use Rattle.conf_doc.specs.declared.configuration.Config.{Config}
use Rattle.conf_doc.specs.declared.configuration.Entry.{Entry}
use Rattle.conf_doc.specs.declared.configuration.Value.{Value}
use Rattle.conf_doc.specs.declared.parts.Part.{Part}
use Rattle.conf_doc.specs.declared.parts.Part.TheVariants as part

-- the entry of a table at a key
abbrev pub entry_at : Config → List ℕ → List ℕ → Option Entry
entry_at c t k = option_and_then (find k) (find t c)

-- the value of a field there
abbrev pub value_at : Config → List ℕ → List ℕ → List ℕ → Option Value
value_at c t k f = option_and_then (find f) (entry_at c t k)

-- what stands at a place: a table, an entry or a value for one, two or three names
abbrev pub part_at : Config → List (List ℕ) → Option Part
part_at c [] = None
part_at c (t ∷ []) = option_map part.Table (find t c)
part_at c (t ∷ k ∷ []) = option_and_then (λ table. option_map part.Entry (find k table)) (find t c)
part_at c (t ∷ k ∷ f ∷ []) =
    option_and_then (λ table.
    option_and_then (λ entry. option_map part.Value (find f entry)) (find k table)) (find t c)
part_at c (t ∷ k ∷ f ∷ n ∷ ns) = None

-- something stands at the place
abbrev pub HasPlace : Config → List (List ℕ) → Type 0
HasPlace c names = IsSome (part_at c names)

-- what stands one name above is there; above a table it is the configuration
abbrev pub HasParent : Config → List (List ℕ) → Type 0
HasParent c [] = ⊥
HasParent c (t ∷ []) = Unit {0}
HasParent c (t ∷ k ∷ []) = HasPlace c (t ∷ [])
HasParent c (t ∷ k ∷ f ∷ ns) = HasPlace c (t ∷ k ∷ [])

-- a table for one name, an entry for two, a value for three
abbrev pub Fits : List (List ℕ) → Part → Type 0
Fits names (part.Table t) = length names ≡ 1
Fits names (part.Entry e) = length names ≡ 2
Fits names (part.Value v) = length names ≡ 3

-- the configuration with a part at a place, or with nothing there
abbrev pub with_part : Config → List (List ℕ) → Option Part → Config
with_part c (t ∷ []) None = without t c
with_part c (t ∷ []) (Some (part.Table table)) = put t table c
with_part c (t ∷ k ∷ []) None = change_part t (without k) c
with_part c (t ∷ k ∷ []) (Some (part.Entry entry)) = change_part t (put k entry) c
with_part c (t ∷ k ∷ f ∷ []) None = change_part t (change_part k (without f)) c
with_part c (t ∷ k ∷ f ∷ []) (Some (part.Value v)) = change_part t (change_part k (put f v)) c
with_part c names part = c
