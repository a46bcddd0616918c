-- The moves that may be listed at a place, and lists that take them.
use Rattle.std.specs.Prelude.{◌≡◌, ◌⊎◌, ◌<◌, ℕ, List, [], ◌∷◌, Some, IsSomeAnd, length, slice_get, Contains}
use Rattle.conf_doc.specs.Changes.{part_at, HasPlace}
use Rattle.conf_doc.specs.declared.configuration.Config.{Config}
use Rattle.conf_doc.specs.declared.parts.Part.{Part}
use Rattle.move_core.specs.Extensions.{required_part}
use Rattle.move_core.specs.Moves.{Place, list_at}
use Rattle.move_core.specs.declared.moves.Move.{Move}
use Rattle.move_core.specs.declared.moves.Move.TheVariants.{Add, Remove, Replace, AddItem, RemoveItem}
use Rattle.move_core.specs.declared.settings.Required.{Required}
use Rattle.plan_check.specs.declared.here.Here.{Here}

-- what is so of one of some items and the move
pub record IsOfOne {A : Type 0} (P : A → Move → Type 0) (xs : List A) (m : Move) : Type 0 where
  pub item : A
  pub there : Contains xs item
  pub is : P item m

-- the new list has what the old one has, and all that is as P says
pub record Takes (P : Move → Type 0) (old new : List Move) : Type 0 where
  pub kept : (m : Move) → Contains old m → Contains new m
  pub all : (m : Move) → P m → Contains new m

-- the part is put at the place
abbrev pub IsPut : Place → Part → Move → Type 0
IsPut p x m = (m ≡ Replace p x) ⊎ (m ≡ Add p x)

-- what is put there is goal's
pub record IsGoalsAt (h : Here) (p : Place) (m : Move) : Type 0 where
  pub part : Part
  pub there : part_at h.goal.now p ≡ Some part
  pub puts : IsPut p part m

-- an item of cur's list goes
pub record RemovesItemAt (h : Here) (p : Place) (m : Move) : Type 0 where
  pub i : ℕ
  pub there : IsSomeAnd (list_at h.cur.now p) (λ items. i < length items)
  pub move : m ≡ RemoveItem p i

-- an item of goal's list comes
pub record AddsItemAt (h : Here) (p : Place) (m : Move) : Type 0 where
  pub i : ℕ
  pub text : List ℕ
  pub there : IsSomeAnd (list_at h.goal.now p) (λ items. slice_get items i ≡ Some text)
  pub move : m ≡ AddItem p i text

-- one of these, or the place goes
abbrev pub IsPlainAt : Here → Place → Move → Type 0
IsPlainAt h p m =
    (IsGoalsAt h p m ⊎ RemovesItemAt h p m) ⊎ (AddsItemAt h p m ⊎ (m ≡ Remove p))

-- so of a field among those
abbrev pub IsFieldIn : Here → List ℕ → List ℕ → List (List ℕ) → Move → Type 0
IsFieldIn h t k = IsOfOne (λ f. IsPlainAt h (t ∷ k ∷ f ∷ []))

-- so of a field that the configuration has in an entry
pub record IsFieldOf (h : Here) (c : Config) (t k : List ℕ) (m : Move) : Type 0 where
  pub field : List ℕ
  pub there : HasPlace c (t ∷ k ∷ field ∷ [])
  pub is : IsPlainAt h (t ∷ k ∷ field ∷ []) m

-- a rule's field in that table gets the required value at the key
abbrev pub GivesRequired : List ℕ → List ℕ → Required → Move → Type 0
GivesRequired t k r m = (r.table ≡ t) × IsPut (t ∷ k ∷ r.field ∷ []) (required_part r) m

-- one of those rules' fields
abbrev pub GivesSome : List ℕ → List ℕ → List Required → Move → Type 0
GivesSome t k = IsOfOne (GivesRequired t k)

-- one of these at an entry, at a field that the configuration has in it, or at a rule's field
abbrev pub IsInEntry : Here → Config → List ℕ → List ℕ → Move → Type 0
IsInEntry h c t k m =
    IsFieldOf h c t k m
    ⊎ (IsPlainAt h (t ∷ k ∷ []) m ⊎ GivesSome t k h.ctx.now.settings.required m)
