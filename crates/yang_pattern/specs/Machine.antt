-- Machines that read a text place by place, and the texts that they take.
use Rattle.std.specs.Prelude.{◌≡◌, ◌↔◌, ◌⊎◌, ℕ, suc, ◌<◌, Bool, false, IsTrue, List, [], ◌∷◌, ◌++◌, length}
use Rattle.yang_pattern.specs.declared.sets.Places.{Places}
use Rattle.yang_pattern.specs.declared.fragments.Place.{Place}
use Rattle.yang_pattern.specs.declared.fragments.Fragment.{Fragment}
use Rattle.yang_pattern.specs.declared.symbols.Quantifier.{Quantifier}
use Rattle.yang_pattern.specs.Symbols.{Allows, Repeated}
use Rattle.yang_pattern.specs.PlaceSets.{contains, place_at}

-- Places are numbered from 0. A text begins at a place of `first`, goes on from a place to one that
-- may follow it, and ends at a place of `last`; each place reads one character. `empty` says whether
-- the empty text is taken.
pub record Machine : Type 0 where
  pub count : ℕ
  pub first : ℕ → Bool
  pub follow : ℕ → ℕ → Bool
  pub last : ℕ → Bool
  pub reads : ℕ → ℕ → Bool
  pub empty : Bool

-- what may be read after the place p
abbrev pub After : Machine → ℕ → List ℕ → Type 0
After m p [] = IsTrue (m.last p)
After m p (c ∷ u) =
    (q : ℕ) × (q < m.count) × IsTrue (m.follow p q) × IsTrue (m.reads q c) × After m q u

-- what may be read where the places of a set come next, and `ended` says whether the text may end
abbrev pub From : Machine → (ℕ → Bool) → Bool → List ℕ → Type 0
From m next ended [] = IsTrue ended
From m next ended (c ∷ u) =
    (q : ℕ) × (q < m.count) × IsTrue (next q) × IsTrue (m.reads q c) × After m q u

-- the texts that a machine takes
abbrev pub Takes : Machine → List ℕ → Type 0
Takes m u = From m m.first m.empty u

-- the machine of places, where r says which characters the symbol of a token accepts
abbrev pub machine_from : (ℕ → ℕ → Bool) → List Place → Places → Bool → Machine
machine_from r places first empty = record {
  count = length places;
  first = λ q. contains first q;
  follow = λ p q. contains (place_at places p).follow q;
  last = λ p. (place_at places p).last;
  reads = λ q c. r (place_at places q).token c;
  empty = empty;
}

-- the machine of a fragment
abbrev pub machine_of : (ℕ → ℕ → Bool) → Fragment → Machine
machine_of r f = machine_from r f.places.items f.first f.empty

-- a text of the one and then a text of the other
abbrev pub Both : (List ℕ → Type 0) → (List ℕ → Type 0) → List ℕ → Type 0
Both P Q u = (x : List ℕ) × (y : List ℕ) × (u ≡ x ++ y) × P x × Q y

-- as often as a quantifier allows, a text of P
abbrev pub Times : (List ℕ → Type 0) → Quantifier → List ℕ → Type 0
Times P quantifier u = (n : ℕ) × Allows quantifier n × Repeated P n u

-- the texts that a fragment takes
abbrev pub texts_of : (ℕ → ℕ → Bool) → Fragment → List ℕ → Type 0
texts_of r f = Takes (machine_of r f)

-- a fragment takes the texts of a language
abbrev pub HasLanguage : Fragment → ((ℕ → ℕ → Bool) → List ℕ → Type 0) → Type 0
HasLanguage f language = (r : ℕ → ℕ → Bool) (u : List ℕ) → Takes (machine_of r f) u ↔ language r u

-- one character, which the symbol of a token accepts
abbrev pub OneOf : ℕ → (ℕ → ℕ → Bool) → List ℕ → Type 0
OneOf token r u = (c : ℕ) × (u ≡ c ∷ []) × IsTrue (r token c)

-- one or more texts of P, one after another
abbrev pub SomeOf : (List ℕ → Type 0) → List ℕ → Type 0
SomeOf P u = (n : ℕ) × Repeated P (suc n) u

-- the empty text, or one of P
abbrev pub OrNothing : (List ℕ → Type 0) → List ℕ → Type 0
OrNothing P u = (u ≡ []) ⊎ P u

-- a text of P or one of Q
abbrev pub Either : (List ℕ → Type 0) → (List ℕ → Type 0) → List ℕ → Type 0
Either P Q u = P u ⊎ Q u

-- the texts behind a character are those that may come next
abbrev pub IsStep : (ℕ → ℕ → Bool) → Fragment → (ℕ → Bool) → ℕ → (ℕ → Bool) → Bool → Type 0
IsStep r f before c next ended =
    (u : List ℕ) → From (machine_of r f) next ended u ↔ From (machine_of r f) before false (c ∷ u)
