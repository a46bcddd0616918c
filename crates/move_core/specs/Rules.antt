-- The five rules that a move is judged by.
use Rattle.std.specs.Prelude.{◌≡◌, ◌⊎◌, ℕ, List, [], ◌∷◌, ◌++◌, Option, Some, Contains}
use Rattle.conf_doc.specs.Changes.{HasPlace}
use Rattle.conf_doc.specs.Pairs.{find}
use Rattle.conf_doc.specs.declared.configuration.Config.{Config}
use Rattle.move_core.specs.Extensions.{ChangesFor, HasRequired, rule_entry}
use Rattle.move_core.specs.Moves.{Place, Agree}
use Rattle.move_core.specs.Rulebook.{Rulebook}
use Rattle.move_core.specs.declared.moves.Move.{Move}
use Rattle.move_core.specs.declared.moves.Move.TheVariants.{Add, Remove, Replace, AddItem, RemoveItem}
use Rattle.move_core.specs.declared.settings.CreateOnly.{CreateOnly}
use Rattle.move_core.specs.declared.settings.Required.{Required}
use Rattle.move_core.specs.declared.settings.Settings.{Settings}

-- the second place is the first one or lies below it
abbrev pub IsAtOrBelow : Place → Place → Type 0
IsAtOrBelow p q = (rest : Place) × (q ≡ p ++ rest)

-- the place, of an item with its index, is the move's or lies below it, in the configuration after the move; of an
-- item that is added it is that item's, and where one is removed none is
abbrev pub IsNewPlace : Move → Place → Option ℕ → Type 0
IsNewPlace (Add path part) p item = IsAtOrBelow path p
IsNewPlace (Remove path) p item = IsAtOrBelow path p
IsNewPlace (Replace path part) p item = IsAtOrBelow path p
IsNewPlace (AddItem path i text) p item = (p ≡ path) × (item ≡ Some i)
IsNewPlace (RemoveItem path i) p item = ⊥

-- the same in the configuration before the move; of an item that is removed it is that item's, and where one is
-- added none is
abbrev pub IsOldPlace : Move → Place → Option ℕ → Type 0
IsOldPlace (Add path part) p item = IsAtOrBelow path p
IsOldPlace (Remove path) p item = IsAtOrBelow path p
IsOldPlace (Replace path part) p item = IsAtOrBelow path p
IsOldPlace (AddItem path i text) p item = ⊥
IsOldPlace (RemoveItem path i) p item = (p ≡ path) × (item ≡ Some i)

-- each want of next at or below the move's place is satisfied in cur, and each of cur in next; of an item's move the
-- wants of that item are meant
pub record HasNoDependency (book : Rulebook) (cur next : Config) (m : Move) : Type 0 where
  pub new :
      (p : Place) (item : Option ℕ) (w : book.Want) → IsNewPlace m p item
      → book.HasWant next p item w → book.IsSatisfied cur w
  pub old :
      (p : Place) (item : Option ℕ) (w : book.Want) → IsOldPlace m p item
      → book.HasWant cur p item w → book.IsSatisfied next w

-- each table without keys in next is in cur, without keys there too
abbrev pub EmptiesNoTable : Config → Config → Type 0
EmptiesNoTable cur next = (t : List ℕ) → find t next ≡ Some [] → find t cur ≡ Some []

-- where an entry is in both, each create-only field of its table is absent in both or equal in both
abbrev pub KeepsCreateOnly : Settings → Config → Config → Type 0
KeepsCreateOnly settings cur next =
    (c : CreateOnly) (k : List ℕ) → Contains settings.create_only c
    → HasPlace cur (c.table ∷ k ∷ []) → HasPlace next (c.table ∷ k ∷ [])
    → Agree cur next (c.table ∷ k ∷ c.field ∷ [])

-- where a requiring place for a key changes and the rule's entry of that key is in both, the rule's field
-- has the required value in both
abbrev pub KeepsRequired : Settings → Config → Config → Type 0
KeepsRequired settings cur next =
    (r : Required) (k : List ℕ) → Contains settings.required r → ChangesFor r k cur next
    → HasPlace cur (rule_entry r k) → HasPlace next (rule_entry r k)
    → HasRequired r k cur × HasRequired r k next

-- the rule of a kind lets the move from cur to next pass: 1 full, 2 no dependency, 3 no empty table,
-- 4 create-only, 5 required
abbrev pub Passes : Rulebook → ℕ → Config → Config → Move → Type 0
Passes book kind cur next m =
    ((kind ≡ 1) × book.IsValid next)
    ⊎ (((kind ≡ 2) × HasNoDependency book cur next m)
    ⊎ (((kind ≡ 3) × EmptiesNoTable cur next)
    ⊎ (((kind ≡ 4) × KeepsCreateOnly book.settings cur next)
    ⊎ ((kind ≡ 5) × KeepsRequired book.settings cur next))))
