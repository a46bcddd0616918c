-- Lists gone through beside longer ones.
use Rattle.std.specs.Prelude.{◌≡◌, ◌⊎◌, List, [], ◌∷◌, Bool, true, false, if◌then◌else◌}

module _ {V E : Type 0} (on : E → V → Bool) where
  -- the items of the first are on items of the second, in their order
  abbrev pub is_within : List V → List E → Bool
  is_within [] es = true
  is_within (v ∷ vs) [] = false
  is_within (v ∷ vs) (e ∷ es) = if on e v then is_within vs es else is_within (v ∷ vs) es

-- the second is the first without some items, of each of which D holds
abbrev pub IsLeft : {V : Type 0} → (V → Type 0) → List V → List V → Type 0
IsLeft D [] new = new ≡ []
IsLeft {V = V} D (v ∷ old) new =
    (D v × IsLeft D old new) ⊎ ((rest : List V) × (new ≡ v ∷ rest) × IsLeft D old rest)
