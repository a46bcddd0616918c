-- The tokens of a text, byte by byte.
use Rattle.std.specs.Prelude.{◌≡◌, ℕ, ◌==◌, ◌||◌, List, [], ◌∷◌, ◌++◌, Option, Some, None, option_map, option_and_then, if◌then◌else◌}
use Rattle.std.specs.Option.{option_to_list}
use Rattle.host_core.specs.Characters.{close_bracket, close_parenthesis, colon, double_quote, equals, exclamation_mark, full_stop, less_than, more_than, open_bracket, open_parenthesis, single_quote, slash}
use Rattle.xpath_part.specs.Words.{is_blank, is_digit, is_name_start, is_name_byte, name_token, prefixed_token, literal_token, number_token}
use Rattle.xpath_part.specs.declared.lexing.Mode.{Mode}
use Rattle.xpath_part.specs.declared.lexing.Mode.TheVariants.{Between, Dot, Exclamation, Less as LessThan, More as MoreThan, Name as InName, Colon, Local, Literal as InLiteral, Number as InNumber}
use Rattle.xpath_part.specs.declared.lexing.Growth.{Growth}
use Rattle.xpath_part.specs.declared.lexing.Growth.TheVariants.{Within, Whole, Ends, Bad}
use Rattle.xpath_part.specs.declared.symbols.Token.{Token}
use Rattle.xpath_part.specs.declared.symbols.Token.TheVariants.{Sign as Signed}
use Rattle.xpath_part.specs.declared.symbols.Sign.{Sign}
use Rattle.xpath_part.specs.declared.symbols.Sign.TheVariants.{Slash, Open, Close, OpenBracket, CloseBracket, Compare, Up, Stay}
use Rattle.xpath_part.specs.declared.comparisons.Cmp.TheVariants.{Equal, Differ, Less, AtMost, More, AtLeast}

-- a token ends before a byte
abbrev pub ends : Option Token → Growth
ends None = Bad
ends (Some t) = Ends (Some t)

-- a token ends with a byte
abbrev pub whole : Option Token → Growth
whole None = Bad
whole (Some t) = Whole t

-- `/`, `(`, `)`, `[`, `]` and `=`
abbrev pub sign_of : ℕ → Option Sign
sign_of b =
    if b == slash then Some Slash
    else if b == open_parenthesis then Some Open
    else if b == close_parenthesis then Some Close
    else if b == open_bracket then Some OpenBracket
    else if b == close_bracket then Some CloseBracket
    else if b == equals then Some (Compare Equal)
    else None

-- a dot, an exclamation mark, `<`, `>`, a quote, a digit or what begins a name
abbrev pub begin_longer : ℕ → Growth
begin_longer b =
    if b == full_stop then Within Dot
    else if b == exclamation_mark then Within Exclamation
    else if b == less_than then Within LessThan
    else if b == more_than then Within MoreThan
    else if b == single_quote || b == double_quote then Within (InLiteral b [])
    else if is_digit b then Within (InNumber (b ∷ []))
    else if is_name_start b then Within (InName (b ∷ []))
    else Bad

abbrev begin_sign : ℕ → Option Sign → Growth
begin_sign b None = begin_longer b
begin_sign b (Some s) = Whole (Signed s)

-- a byte behind a token
abbrev pub begin : ℕ → Growth
begin b = if is_blank b then Within Between else begin_sign b (sign_of b)

abbrev alone : Option Sign → Growth
alone None = Bad
alone (Some s) = Ends (Some (Signed s))

-- a byte behind a sign that another one may follow
abbrev pub pair : ℕ → ℕ → Sign → Option Sign → Growth
pair b second both one = if b == second then Whole (Signed both) else alone one

-- a byte behind what has been read of a token
abbrev pub grow : Mode → ℕ → Growth
grow Between b = Ends None
grow Dot b = pair b full_stop Up (Some Stay)
grow Exclamation b = pair b equals (Compare Differ) None
grow LessThan b = pair b equals (Compare AtMost) (Some (Compare Less))
grow MoreThan b = pair b equals (Compare AtLeast) (Some (Compare More))
grow (InName s) b =
    if is_name_byte b then Within (InName (s ++ b ∷ []))
    else if b == colon then Within (Colon s)
    else ends (name_token s)
grow (Colon p) b = if is_name_start b then Within (Local p (b ∷ [])) else Bad
grow (Local p s) b =
    if is_name_byte b then Within (Local p (s ++ b ∷ [])) else ends (prefixed_token p s)
grow (InLiteral q s) b =
    if b == q then whole (literal_token s) else Within (InLiteral q (s ++ b ∷ []))
grow (InNumber ds) b =
    if is_digit b then Within (InNumber (ds ++ b ∷ [])) else ends (number_token ds)

-- what is left at the end
abbrev pub finish : Mode → Growth
finish Between = Ends None
finish Dot = Ends (Some (Signed Stay))
finish Exclamation = Bad
finish LessThan = Ends (Some (Signed (Compare Less)))
finish MoreThan = Ends (Some (Signed (Compare More)))
finish (InName s) = ends (name_token s)
finish (Colon p) = Bad
finish (Local p s) = ends (prefixed_token p s)
finish (InLiteral q s) = Bad
finish (InNumber ds) = ends (number_token ds)

-- what is read, where no byte is left over
abbrev pub settled : Growth → Option (List Token × Mode)
settled (Within m) = Some ([], m)
settled (Whole t) = Some (t ∷ [], Between)
settled (Ends o) = None
settled Bad = None

-- what is read once a byte that may be left over is read too
abbrev pub behind : ℕ → Growth → Option (List Token × Mode)
behind b (Within m) = settled (Within m)
behind b (Whole t) = settled (Whole t)
behind b (Ends o) = option_map (λ p. (option_to_list o ++ p.0, p.1)) (settled (begin b))
behind b Bad = None

-- the tokens that have ended with a byte, and what has been read of the next one
abbrev pub advance : Mode → ℕ → Option (List Token × Mode)
advance m b = behind b (grow m b)

-- the tokens and the mode go on by what a byte brings
abbrev pub Advances : Option (List Token × Mode) → List Token → List Token → Mode → Type 0
Advances None old new m = ⊥
Advances (Some p) old new m = (new ≡ old ++ p.0) × (m ≡ p.1)

-- the last token, if any, where the text may end
abbrev pub left_over : Growth → Option (List Token)
left_over (Within m) = None
left_over (Whole t) = None
left_over (Ends o) = Some (option_to_list o)
left_over Bad = None

-- the tokens of a text behind what has been read
abbrev pub lex_from : Mode → List ℕ → Option (List Token)
lex_from m [] = left_over (finish m)
lex_from m (b ∷ bs) =
    option_and_then (λ p. option_map (λ ts. p.0 ++ ts) (lex_from p.1 bs)) (advance m b)

-- the tokens of a text, where it has some
abbrev pub lex : List ℕ → Option (List Token)
lex s = lex_from Between s
