-- Where moves stand that may precede a move.
use Rattle.std.specs.Prelude.{◌≡◌, ◌⊎◌, ◌↔◌, ◌<◌, ℕ, List, [], ◌∷◌, Option, Some, IfSome, IsTrue, length, slice_get, Contains}
use Rattle.conf_check.specs.Acceptance.{keys_of}
use Rattle.conf_check.specs.Wants.{Want, want_of}
use Rattle.conf_check.specs.declared.want_iter.WantAt.{WantAt}
use Rattle.conf_doc.specs.declared.configuration.Config.{Config}
use Rattle.key_split.specs.Key.{key_parts}
use Rattle.move_core.specs.Contexts.{item_at}
use Rattle.move_core.specs.Extensions.{as_in_goal, rule_field}
use Rattle.move_core.specs.Moves.{Place, index, place}
use Rattle.move_core.specs.Services.{table_of}
use Rattle.move_core.specs.declared.moves.Move.{Move}
use Rattle.move_core.specs.declared.settings.Required.{Required}
use Rattle.move_core.specs.declared.settings.Requiring.{Requiring}
use Rattle.plan_check.specs.Backwards.{Leads}
use Rattle.plan_check.specs.Candidates.{IsInEntry, IsOfOne, IsPlainAt}
use Rattle.plan_check.specs.WantsAt.{AreWantsAt}
use Rattle.plan_check.specs.declared.preceding.Sought.{Sought}

-- the place is in the table, and at the key where one is given
abbrev pub IsIn : Place → List ℕ → Option (List ℕ) → Type 0
IsIn p t key = (table_of p ≡ t) × IfSome key (λ k. slice_get p 1 ≡ Some k)

-- or it is the table's
abbrev pub IsNear : Place → List ℕ → Option (List ℕ) → Type 0
IsNear p t key = (table_of p ≡ t) × IfSome key (λ k. (length p < 2) ⊎ (slice_get p 1 ≡ Some k))

-- a key, where one is given, has the text as that part
abbrev pub MayHave : Option (List ℕ) → ℕ → List ℕ → Type 0
MayHave key n s = IfSome key (λ k. slice_get (key_parts k) n ≡ Some s)

-- a want is for the table and the key
abbrev pub IsWantedIn : Want → List ℕ → Option (List ℕ) → Type 0
IsWantedIn w t key = (w.target.table ≡ t) × MayHave key w.target.part w.text

-- a place there requires a rule's value for the entry
abbrev pub IsRequiringIn : Requiring → List ℕ → List ℕ → Option (List ℕ) → Type 0
IsRequiringIn q named t key = (q.table ≡ t) × MayHave key q.part named

-- a place there requires a value in the rule's field that stands at the place
pub record IsRequiredIn (r : Required) (p : Place) (t : List ℕ) (key : Option (List ℕ))
    : Type 0 where
  pub named : List ℕ
  pub is : p ≡ rule_field r named
  pub requiring : Requiring
  pub there : Contains r.requiring requiring
  pub in_it : IsRequiringIn requiring named t key

-- a want of what the sought move names, its item or no item, is for the table and the key
abbrev pub IsWantedFor : Sought → WantAt → List ℕ → Option (List ℕ) → Type 0
IsWantedFor s a t key =
    IsWantedIn (want_of a.want) t key
    × (item_at s.here.now.cur.now (place s.mv.now) a.item ≡ index s.mv.now)

-- some want at its place is so
pub record HasWanted (s : Sought) (t : List ℕ) (key : Option (List ℕ)) : Type 0 where
  pub at : WantAt
  pub there : Contains s.wants.now at
  pub is : IsWantedFor s at t key

-- a rule requires the value of the sought move's place there
pub record HasRequiring (s : Sought) (t : List ℕ) (key : Option (List ℕ)) : Type 0 where
  pub rule : Required
  pub there : Contains s.here.now.ctx.now.settings.required rule
  pub is : IsRequiredIn rule (place s.mv.now) t key

-- the wants are those at the place of the move
abbrev pub AreWanted : Sought → Type 0
AreWanted s =
    AreWantsAt s.here.now.ctx.now.models s.here.now.cur.now (place s.mv.now) s.wants.now

-- it is known whether the move makes its place as in goal
abbrev pub KnowsGoal : Sought → Type 0
KnowsGoal s =
    IsTrue s.is_goals ↔ (s.mv.now ≡ as_in_goal s.here.now.goal.now (place s.mv.now))

-- a move at the key or at a field that the configuration has there, which leads to the sought one
abbrev pub IsAtKey : Sought → Config → List ℕ → List ℕ → Move → Type 0
IsAtKey s c t k m = IsInEntry s.here.now c t k m × Leads s.here.now m s.mv.now

-- at one of those keys
abbrev pub IsInKeys : Sought → Config → List ℕ → List (List ℕ) → Move → Type 0
IsInKeys s c t = IsOfOne (IsAtKey s c t)

-- at a key of the table in the configuration, or at the table itself
abbrev pub IsInTable : Sought → Config → List ℕ → Move → Type 0
IsInTable s c t m = IsInKeys s c t (keys_of t c) m ⊎ IsPlainAt s.here.now (t ∷ []) m

-- so, and it leads to the sought one
abbrev pub IsAtTable : Sought → Config → List ℕ → Move → Type 0
IsAtTable s c t m = IsInTable s c t m × Leads s.here.now m s.mv.now

-- in one of those tables
abbrev pub IsInTables : Sought → Config → List (List ℕ) → Move → Type 0
IsInTables s c = IsOfOne (IsAtTable s c)
