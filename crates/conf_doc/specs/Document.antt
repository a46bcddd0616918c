-- A JSON document (RFC 8259, section 3) of texts, lists and maps.
use Rattle.std.specs.Prelude.{ℕ, suc, ◌+◌, max, List, [], ◌∷◌, length}

mutual
  -- a text, a list or a map
  pub data Document : Type 0 where
    text : List ℕ → Document
    list : Items → Document
    object : Members → Document

  -- documents one after another
  pub data Items : Type 0 where
    no_items : Items
    item : Document → Items → Items

  -- each a name and what it names
  pub data Members : Type 0 where
    no_members : Members
    member : List ℕ → Document → Members → Members

-- items as a plain list
abbrev pub documents : Items → List Document
documents no_items = []
documents (item d ds) = d ∷ documents ds

-- a plain list as items
abbrev pub items_of : List Document → Items
items_of [] = no_items
items_of (d ∷ ds) = item d (items_of ds)

-- members as pairs
abbrev pub pairs : Members → List (List ℕ × Document)
pairs no_members = []
pairs (member k d ms) = (k, d) ∷ pairs ms

-- pairs as members
abbrev pub members_of : List (List ℕ × Document) → Members
members_of [] = no_members
members_of (m ∷ ms) = member m.0 m.1 (members_of ms)

abbrev mutual
  -- one for each node, and the bytes of every text and name
  pub weight : Document → ℕ
  weight (text s) = suc (length s)
  weight (list ds) = suc (items_weight ds)
  weight (object ms) = suc (members_weight ms)

  -- what the items weigh together
  pub items_weight : Items → ℕ
  items_weight no_items = 0
  items_weight (item d ds) = weight d + items_weight ds

  -- what the members weigh together, with their names
  pub members_weight : Members → ℕ
  members_weight no_members = 0
  members_weight (member k d ms) = length k + weight d + members_weight ms

abbrev mutual
  -- how deep lists and maps nest; a text adds nothing
  pub depth : Document → ℕ
  depth (text s) = 0
  depth (list ds) = suc (items_depth ds)
  depth (object ms) = suc (members_depth ms)

  -- how deep the deepest item nests
  pub items_depth : Items → ℕ
  items_depth no_items = 0
  items_depth (item d ds) = max (depth d) (items_depth ds)

  -- how deep the deepest member nests
  pub members_depth : Members → ℕ
  members_depth no_members = 0
  members_depth (member k d ms) = max (depth d) (members_depth ms)

-- how deep serde_json reads
abbrev pub deepest : ℕ
deepest = 127
