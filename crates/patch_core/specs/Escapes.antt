-- A `~` and what stands behind it, as a part of a pointer is read from the left.
use Rattle.std.specs.Prelude.{◌≡◌, ◌++◌, ℕ, List, ◌∷◌, option_map}
use Rattle.host_core.specs.Characters.{tilde}
use Rattle.patch_core.specs.Tokens.{token_of}

-- a `~` before a text, of which after is left, is read as what the token gained
abbrev pub Escapes : (text after old new : List ℕ) → Type 0
Escapes text after old new =
    (code : List ℕ) × (new ≡ old ++ code)
    × (token_of (tilde ∷ text) ≡ option_map (λ bs. code ++ bs) (token_of after))
