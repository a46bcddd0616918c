-- JSON Pointer (RFC 6901, sections 3 and 4): from text to tokens. It undoes `pointer`, by a law.
use Rattle.std.specs.Prelude.{ℕ, List, [], ◌∷◌, ◌==◌, if◌then◌else◌, Option, Some, None, option_map, option_and_then, Result, Ok, Err}
use Rattle.std.specs.List.{slice_split}
use Rattle.host_core.specs.Characters.{digit_one, digit_zero, slash, tilde}
use Rattle.patch_core.specs.Operation.{Tokens}
use Rattle.patch_core.specs.declared.errors.PointerError.{PointerError}
use Rattle.patch_core.specs.declared.errors.PointerError.TheVariants.{Malformed, Memory}

-- a character in front
abbrev pub in_front : ℕ → Option (List ℕ) → Option (List ℕ)
in_front b rest = option_map (λ bs. b ∷ bs) rest

-- the token that a part between slashes spells: `~0` is `~`, and `~1` is `/`; a `~` before
-- anything else spells none
abbrev pub token_of : List ℕ → Option (List ℕ)
token_of [] = Some []
token_of (b ∷ []) = if b == tilde then None else Some (b ∷ [])
token_of (b ∷ c ∷ bs) =
    if b == tilde then (
    if c == digit_zero then in_front tilde (token_of bs)
    else if c == digit_one then in_front slash (token_of bs)
    else None)
    else in_front b (token_of (c ∷ bs))

-- the tokens that the parts spell, if each spells one
abbrev pub tokens_of_parts : List (List ℕ) → Option Tokens
tokens_of_parts [] = Some []
tokens_of_parts (part ∷ parts) =
    option_and_then (λ token. option_map (λ more. token ∷ more) (tokens_of_parts parts))
    (token_of part)

-- the parts of a text between its slashes
abbrev pub parts_of : List ℕ → List (List ℕ)
parts_of text = slice_split (λ b. b == slash) text

-- nothing, or a `/` before each token
abbrev pub tokens : List ℕ → Option Tokens
tokens [] = Some []
tokens (b ∷ bs) = if b == slash then tokens_of_parts (parts_of bs) else None

-- a text without tokens is malformed
abbrev pub or_malformed : {A : Type 0} → Option A → Result A PointerError
or_malformed None = Err Malformed
or_malformed (Some a) = Ok a

-- the fault that an error tells, or none for want of memory
abbrev pub pointer_fault : PointerError → Option PointerError
pointer_fault Malformed = Some Malformed
pointer_fault Memory = None
