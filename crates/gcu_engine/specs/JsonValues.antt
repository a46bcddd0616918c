-- What is said of JSON values (RFC 8259, 4 to 7): texts, arrays, and objects by the names of their members.
use Rattle.std.specs.Prelude.{◌≡◌, ◌≢◌, ⊤, ℕ, ◌<◌, List, [], ◌∷◌, length, Some, None}
use Rattle.std.specs.List.{Contains}
use Rattle.std.specs.Option.{MatchOption}
use Rattle.serde_json.specs.Data.{Data, string, array, object, Items, no_items, item, Members}
use Rattle.serde_json.specs.Find.{get}

-- the value is a text
abbrev pub IsText : Data → List ℕ → Type 0
IsText d s = d ≡ string s

-- the value is a text that isn't empty
abbrev pub IsName : Data → List ℕ → Type 0
IsName d name = IsText d name × (0 < length name)

-- each item is what Is says, in order
abbrev pub AreItems : {A : Type 0} → (Data → A → Type 0) → Items → List A → Type 0
AreItems Is no_items [] = ⊤
AreItems Is (item d ds) (x ∷ xs) = Is d x × AreItems Is ds xs
AreItems Is ds xs = ⊥

-- the value is an array of such items
abbrev pub IsList : {A : Type 0} → (Data → A → Type 0) → Data → List A → Type 0
IsList Is d xs = (ds : Items) × (d ≡ array ds) × AreItems Is ds xs

-- the value is an object, and each of its members has one of these names
abbrev pub IsObject : List (List ℕ) → Data → Type 0
IsObject names d =
    ((ms : Members) × (d ≡ object ms)) × ((name : List ℕ) → get name d ≢ None → Contains names name)

-- the member of that name is there, and is what Is says
abbrev pub HasMember : {A : Type 0} → (Data → A → Type 0) → List ℕ → Data → A → Type 0
HasMember Is name d x = (e : Data) × (get name d ≡ Some e) × Is e x

-- the member of that name is a list; where there is no such member, the list is empty
abbrev pub HasList : {A : Type 0} → (Data → A → Type 0) → List ℕ → Data → List A → Type 0
HasList Is name d xs = MatchOption (get name d) (xs ≡ []) (λ e. IsList Is e xs)
