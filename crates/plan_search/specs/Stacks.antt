-- The stack of a search as a list, the last configuration first.
use Rattle.std.specs.Prelude.{◌≡◌, ℕ, ◌+◌, List, [], ◌∷◌, Option, None, Some, reverse, map, length}
use Rattle.conf_doc.specs.declared.configuration.Config.{Config}
use Rattle.move_core.specs.declared.moves.Generated.{Generated}
use Rattle.move_core.specs.declared.moves.Move.{Move}
use Rattle.move_lists.specs.declared.firsts.First.{First}
use Rattle.plan_search.specs.declared.searching.Kept.{Kept}
use Rattle.plan_search.specs.declared.searching.Kept.TheVariants.{Nothing, Offers, Firsts}
use Rattle.plan_search.specs.declared.stacks.Frame.{Frame}
use Rattle.plan_search.specs.declared.stacks.Stack.{Stack}

-- a configuration, how many parts of its list were made, and the moves of the last one that are left to
-- try, in order
pub record Spot : Type 0 where
  pub config : Config
  pub parts : ℕ
  pub rest : List Move

-- what a frame says
abbrev pub spot : Frame → Spot
spot f = record { config = f.config; parts = f.parts; rest = reverse f.rest.items }

-- the configurations of the stack
abbrev pub spots : Stack → List Spot
spots s = map spot (reverse s.frames.items)

-- these configurations alone
abbrev pub configs_of : List Spot → List Config
configs_of ss = map (λ s. s.config) ss

-- the moves that lead to them
abbrev pub taken : Stack → List Move
taken s = reverse s.moves.items

-- all but the first
abbrev pub but_first : {X : Type 0} → List X → List X
but_first [] = []
but_first (x ∷ xs) = xs

-- ---- the last configuration

-- something holds of it
abbrev pub OfTop : (Spot → Type 0) → List Spot → Type 0
OfTop P [] = ⊥
OfTop P (s ∷ ss) = P s

-- it is this one
abbrev pub IsTop : List Spot → Config → Type 0
IsTop ss c = OfTop (λ s. s.config ≡ c) ss

-- something holds of it and a value
abbrev pub AtTop : {X : Type 0} → (Config → X → Type 0) → List Spot → X → Type 0
AtTop P ss x = OfTop (λ s. P s.config x) ss

-- what is kept is of it: what the first part of its list is made from, or what the later ones are
abbrev pub IsKept
    : (Config → List Generated → Type 0) → (Config → List First → Type 0)
    → List Spot → Kept → Type 0
IsKept AreOffers AreFirsts ss Nothing = Unit {0}
IsKept AreOffers AreFirsts ss (Offers os) = AtTop AreOffers ss os
IsKept AreOffers AreFirsts ss (Firsts fs) = AtTop AreFirsts ss fs

-- no move of its part is left there
abbrev pub IsSpent : List Spot → Type 0
IsSpent ss = OfTop (λ s. s.rest ≡ []) ss

-- a configuration that nothing was asked at
abbrev pub new_spot : Config → Spot
new_spot c = record { config = c; parts = 0; rest = [] }

-- a configuration with the rest of a part
abbrev pub rest_spot : Spot → List Move → Spot
rest_spot s rest = record { config = s.config; parts = s.parts; rest = rest }

-- a configuration with one part more
abbrev pub next_spot : Spot → List Move → Spot
next_spot s moves = record { config = s.config; parts = s.parts + 1; rest = moves }

-- the next move of the last configuration was taken, or it has none left
abbrev pub IsAfterTop : List Spot → List Spot → Option Move → Type 0
IsAfterTop [] new r = ⊥
IsAfterTop (s ∷ ss) new None = (s.rest ≡ []) × (new ≡ s ∷ ss)
IsAfterTop (s ∷ ss) new (Some m) =
    (rest : List Move) × (s.rest ≡ m ∷ rest) × (new ≡ rest_spot s rest ∷ ss)

-- the last configuration has the moves of one part more
abbrev pub HasMore : List Spot → List Spot → List Move → Type 0
HasMore [] new moves = ⊥
HasMore (s ∷ ss) new moves = new ≡ next_spot s moves ∷ ss

-- how many moves are left of the part at the last configuration
abbrev pub rest_length : List Spot → ℕ
rest_length [] = 0
rest_length (s ∷ ss) = length s.rest
