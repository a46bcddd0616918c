-- The tokens of a list of letters.
use Rattle.std.specs.Prelude.{ℕ, ◌==◌, ◌||◌, ◌&&◌, not, Bool, true, false, List, [], ◌∷◌, ◌++◌, Option, Some, None, option_map, option_and_then, option_to_list, if◌then◌else◌}
use Rattle.host_core.specs.Characters.{bar, carriage_return, close_brace, close_bracket, close_parenthesis, full_stop, line_feed, open_brace, open_bracket, open_parenthesis, plus, question_mark, star}
use Rattle.yang_pattern.specs.declared.letters.Letter.{Letter}
use Rattle.yang_pattern.specs.declared.symbols.Quantifier.TheVariants.{OneOrMore, AtLeast, Between}
use Rattle.yang_pattern.specs.declared.symbols.Token.{Token}
use Rattle.yang_pattern.specs.declared.symbols.Token.TheVariants.{Open, Close, Bar, Times, Symbol}
use Rattle.yang_pattern.specs.declared.classes.Item.{Item}
use Rattle.yang_pattern.specs.declared.classes.Item.TheVariants.{Start}
use Rattle.yang_pattern.specs.declared.counts.OpenCount.{OpenCount}
use Rattle.yang_pattern.specs.declared.counts.OpenCount.TheVariants.{First}
use Rattle.yang_pattern.specs.declared.tokens.Mode.{Mode}
use Rattle.yang_pattern.specs.declared.tokens.Mode.TheVariants.{Outside, Class, Count}
use Rattle.yang_pattern.specs.declared.tokens.Step.{Step}
use Rattle.yang_pattern.specs.Classes.{class_with, class_close}
use Rattle.yang_pattern.specs.Counts.{count_with, count_close}

-- the symbol of one character
abbrev pub single : ℕ → Bool × List (ℕ × ℕ)
single c = (false, (c, c) ∷ [])

-- the symbol of `.`: all characters but line feed and carriage return
abbrev pub any : Bool × List (ℕ × ℕ)
any = (true, (line_feed, line_feed) ∷ (carriage_return, carriage_return) ∷ [])

-- a character that is a token
abbrev pub token_at : ℕ → Token
token_at c =
    if c == open_parenthesis then Open
    else if c == close_parenthesis then Close
    else if c == bar then Bar
    else if c == star then Times (AtLeast 0)
    else if c == plus then Times OneOrMore
    else if c == question_mark then Times (Between 0 1)
    else if c == full_stop then Symbol any
    else Symbol (single c)

-- a letter that opens something and is no token yet
abbrev pub begins : Mode → Option Step
begins mode = Some (record { mode = mode; token = None })

-- a letter that ends a token
abbrev pub ends : Token → Option Step
ends token = Some (record { mode = Outside; token = Some token })

-- a letter outside classes and braces
abbrev pub outside : Letter → Option Step
outside l =
    if l.escaped then ends (Symbol (single l.character))
    else if l.character == open_bracket then begins (Class (false, [], Start))
    else if l.character == open_brace then begins (Count (First None))
    else if l.character == close_bracket || l.character == close_brace then None
    else ends (token_at l.character)

-- a letter in a class
abbrev pub in_class : Bool × List (ℕ × ℕ) × Item → Letter → Option Step
in_class k l =
    if l.character == close_bracket && not l.escaped
    then option_map (λ y. record { mode = Outside; token = Some (Symbol y) }) (class_close k)
    else option_map (λ n. record { mode = Class n; token = None }) (class_with k l)

-- a letter in braces
abbrev pub in_count : OpenCount → Letter → Option Step
in_count k l =
    if l.character == close_brace && not l.escaped
    then option_map (λ q. record { mode = Outside; token = Some (Times q) }) (count_close k)
    else option_map (λ n. record { mode = Count n; token = None }) (count_with k l)

-- one letter
abbrev pub advance : Mode → Letter → Option Step
advance Outside l = outside l
advance (Class k) l = in_class k l
advance (Count k) l = in_count k l

-- whether the letters may end
abbrev pub lex_end : Mode → Option (List Token)
lex_end Outside = Some []
lex_end (Class k) = None
lex_end (Count k) = None

-- all letters
abbrev pub lex : Mode → List Letter → Option (List Token)
lex m [] = lex_end m
lex m (l ∷ ls) =
    option_and_then
    (λ step. option_map (λ ts. option_to_list step.token ++ ts) (lex step.mode ls))
    (advance m l)
