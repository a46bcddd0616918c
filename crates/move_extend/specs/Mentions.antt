-- The texts of an entry, and whether one of them is a part of a key.
use Rattle.std.specs.Prelude.{◌≡◌, ◌⊎◌, ℕ, List, [], ◌∷◌, Some, map, slice_get, Contains, IsTrue}
use Rattle.conf_check.specs.Wants.{Want, IsWantAt, want_of}
use Rattle.conf_check.specs.Rows.{IsEntryAt}
use Rattle.conf_check.specs.declared.want_iter.WantAt.{WantAt}
use Rattle.conf_check.specs.declared.want_iter.WantPlace.{WantPlace}
use Rattle.conf_doc.specs.declared.configuration.Entry.{Entry}
use Rattle.conf_doc.specs.declared.configuration.Table.{Table}
use Rattle.conf_doc.specs.declared.configuration.Value.{Value}
use Rattle.conf_doc.specs.declared.configuration.Value.TheVariants.{Text, List as Listed}
use Rattle.key_split.specs.Key.{key_parts}
use Rattle.move_core.specs.declared.moves.Move.{Move}
use Rattle.move_extend.specs.Found.{GivenByOne}
use Rattle.move_extend.specs.Referrers.{GivesRemovals, IsBroken, removal_of}
use Rattle.move_extend.specs.declared.changes.Change.{Change}
use Rattle.move_extend.specs.declared.mentions.Gone.{Gone}

-- the text of a field, or its items
abbrev pub texts_of_value : Value → List (List ℕ)
texts_of_value (Text t) = t ∷ []
texts_of_value (Listed ts) = ts

-- a field of that value has the text
abbrev pub HasTextAt : Entry → List ℕ → ℕ → Value → Type 0
HasTextAt fields s i value =
    (slice_get (map (λ f. f.1) fields) i ≡ Some value) × Contains (texts_of_value value) s

-- some field has the text
pub record HasFieldText (fields : Entry) (s : List ℕ) : Type 0 where
  pub field : ℕ
  pub value : Value
  pub has : HasTextAt fields s field value

-- a part of the key is the text, or some field has it
abbrev pub HasText : List ℕ → Entry → List ℕ → Type 0
HasText key fields s = Contains (key_parts key) s ⊎ HasFieldText fields s

-- one of the texts is that of an entry
pub record Mentions (parts : List (List ℕ)) (key : List ℕ) (fields : Entry) : Type 0 where
  pub text : List ℕ
  pub part : Contains parts text
  pub has : HasText key fields text

-- the texts that are given with a table
abbrev pub texts_of : Gone → List (List ℕ)
texts_of gone = map (λ p. p.now) gone.parts.now

-- a key that the table loses may have the text as a part
abbrev pub MayHave : Gone → List ℕ → Type 0
MayHave gone s = IsTrue gone.is_whole ⊎ Contains (texts_of gone) s

-- an entry has such a text
pub record MayMention (gone : Gone) (key : List ℕ) (fields : Entry) : Type 0 where
  pub text : List ℕ
  pub may : MayHave gone text
  pub has : HasText key fields text

-- what is wanted of a table, and broken, is one of the texts
abbrev pub BreaksPartsOnly : Change → List ℕ → List (List ℕ) → Type 0
BreaksPartsOnly c t parts =
    (at : WantPlace) (w : Want) → IsWantAt c.models.now c.cur.now at w
    → IsBroken c.models.now c.next.now t w → Contains parts w.text

-- what is wanted of a table that loses keys, and broken, is such a text
abbrev pub BreaksOnly : Change → Gone → Type 0
BreaksOnly c gone =
    (at : WantPlace) (w : Want) → IsWantAt c.models.now c.cur.now at w
    → IsBroken c.models.now c.next.now gone.table.now w → MayHave gone w.text

-- it is the removal of what has that want, which is broken
abbrev pub IsRemovalOf : Change → List ℕ → WantAt → Move → Type 0
IsRemovalOf c t at x =
    IsBroken c.models.now c.next.now t (want_of at.want) × (x ≡ removal_of c.cur.now at)

-- the place of some broken want is removed
abbrev pub GivesOfChange : Change → List ℕ → Move → Type 0
GivesOfChange c t = GivesRemovals c.models.now c.cur.now c.next.now t

-- the place of a broken want of that entry is removed
pub record GivesOfEntry (c : Change) (t u k : List ℕ) (x : Move) : Type 0 where
  pub given : GivesRemovals c.models.now c.cur.now c.next.now t x
  pub at : IsEntryAt c.cur.now u k given.at.table given.at.key

-- of some entry of a table
abbrev pub GivesOfTable : Change → List ℕ → List ℕ × Table → Move → Type 0
GivesOfTable c t table = GivenByOne (GivesOfEntry c t table.0) (map (λ e. e.0) table.1)
