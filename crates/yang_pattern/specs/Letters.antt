-- How the letters of a text are read, character by character.
use Rattle.std.specs.Prelude.{ℕ, ◌==◌, ◌&&◌, not, Bool, true, false, List, [], ◌∷◌, Option, Some, None, option_map, option_and_then, if◌then◌else◌}
use Rattle.host_core.specs.Characters.{backslash}
use Rattle.yang_pattern.specs.declared.letters.Letter.{Letter}
use Rattle.yang_pattern.specs.Escapes.{escaped_character}

-- a character, which may stand behind a backslash
abbrev pub letter_of : Bool → ℕ → Option Letter
letter_of true c = option_map (λ d. record { character = d; escaped = true }) (escaped_character c)
letter_of false c = Some (record { character = c; escaped = false })

-- the letters of a text, which may begin behind a backslash
abbrev pub letters_from : Bool → List ℕ → Option (List Letter)
letters_from after [] = if after then None else Some []
letters_from after (c ∷ cs) =
    if c == backslash && not after then letters_from true cs
    else option_and_then
    (λ l. option_map (λ ls. l ∷ ls) (letters_from false cs))
    (letter_of after c)
