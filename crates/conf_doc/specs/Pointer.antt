-- JSON Pointer (RFC 6901, sections 3 and 4): from tokens to text.
use Rattle.std.specs.Prelude.{◌≡◌, ℕ, List, [], ◌∷◌, codes, flat_map, if◌then◌else◌, ◌==◌}
use Rattle.host_core.specs.Characters.{slash, tilde}

-- in a token `~` is written `~0` and `/` is written `~1`
abbrev pub escape : ℕ → List ℕ
escape b =
    if b == tilde then codes "~0"
    else (if b == slash then codes "~1" else b ∷ [])

-- a token with each character escaped
abbrev pub escaped : List ℕ → List ℕ
escaped token = flat_map escape token

-- each token behind a `/`
abbrev pub pointer : List (List ℕ) → List ℕ
pointer tokens = flat_map (λ token. slash ∷ escaped token) tokens

-- the text is the pointer with these tokens
abbrev pub IsPointer : List ℕ → List (List ℕ) → Type 0
IsPointer text tokens = text ≡ pointer tokens
