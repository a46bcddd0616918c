-- How far typedefs lead, kept for all of them.
use Rattle.std.specs.Prelude.{◌≡◌, ℕ, suc, ◌+◌, List, [], ◌∷◌, option_and_then, slice_get, unwrap_or}
use Rattle.yang_scope.specs.Meanings.{base_within}
use Rattle.yang_scope.specs.Modules.{Module}
use Rattle.yang_scope.specs.declared.meanings.Meaning.{Meaning}
use Rattle.yang_scope.specs.declared.meanings.Meaning.TheVariants.{Ends, Goes, Nothing}

-- what is kept for the typedef at a place of a module
abbrev pub link_at : List (List Meaning) → ℕ → ℕ → Meaning
link_at links m place =
    unwrap_or (option_and_then (λ row. slice_get row place) (slice_get links m)) Nothing

-- what is kept for the typedef that a meaning is
abbrev pub link_behind : List (List Meaning) → Meaning → Meaning
link_behind links (Ends base) = Ends base
link_behind links (Goes m place) = link_at links m place
link_behind links Nothing = Nothing

-- each typedef has what stands so many typedefs behind it
pub record IsBehind (modules : List Module) (count : ℕ) (links : List (List Meaning)) : Type 0 where
  pub behind :
      (m place most : ℕ)
      → base_within modules (count + most) (Goes m place)
      ≡ base_within modules most (link_at links m place)

-- what a function gives of each element and its place
abbrev pub map_from : {X Y : Type 0} → (ℕ → X → Y) → ℕ → List X → List Y
map_from f place [] = []
map_from f place (x ∷ xs) = f place x ∷ map_from f (suc place) xs
