-- An expression from its tokens, one after another, and from its text.
use Rattle.std.specs.Prelude.{ℕ, ◌+◌, ◌-◌, List, [], ◌∷◌, nat_lt, Option, Some, None, option_map, option_and_then, if◌then◌else◌}
use Rattle.xpath_part.specs.Expression.{Expression}
use Rattle.xpath_part.specs.Following.{slash, up, stay, comparison, word, literal, number}
use Rattle.xpath_part.specs.Lexing.{lex}
use Rattle.xpath_part.specs.Nesting.{fresh, opened, predicate_of, closed, left_group, left_predicate}
use Rattle.xpath_part.specs.Phases.{value_of}
use Rattle.xpath_part.specs.declared.nesting.Frame.{Frame}
use Rattle.xpath_part.specs.declared.nesting.Opened.{Opened}
use Rattle.xpath_part.specs.declared.nesting.Opened.TheVariants.{Nested, Flat}
use Rattle.xpath_part.specs.declared.nesting.Closed.{Closed}
use Rattle.xpath_part.specs.declared.nesting.Closed.TheVariants.{Value, Flat as FlatEnd}
use Rattle.xpath_part.specs.declared.phases.Phase.{Phase}
use Rattle.xpath_part.specs.declared.reading.Reader.{Reader}
use Rattle.xpath_part.specs.declared.symbols.Sign.{Sign}
use Rattle.xpath_part.specs.declared.symbols.Sign.TheVariants.{Slash, Open, Close, OpenBracket, CloseBracket, Compare, Up, Stay}
use Rattle.xpath_part.specs.declared.symbols.Token.{Token}
use Rattle.xpath_part.specs.declared.symbols.Token.TheVariants.{Sign as Signed, Name, Literal, Number}

-- a reader in a phase, where there is one
abbrev pub reader_at : Option Phase → List Frame → ℕ → Option Reader
reader_at None frames depth = None
reader_at (Some p) frames depth = Some (record { phase = p; frames = frames; depth = depth })

-- a reader behind what opens
abbrev pub entered_by : Option Opened → List Frame → ℕ → Option Reader
entered_by None frames depth = None
entered_by (Some (Nested f)) frames depth =
    Some (record { phase = fresh; frames = f ∷ frames; depth = depth + 1 })
entered_by (Some (Flat p)) frames depth =
    Some (record { phase = p; frames = frames; depth = depth + 1 })

-- so many parentheses and brackets may be open at once
abbrev pub most_nested : ℕ
most_nested = 32

-- one more parenthesis or bracket is open
abbrev pub entered : Option Opened → List Frame → ℕ → Option Reader
entered o frames depth = if nat_lt depth most_nested then entered_by o frames depth else None

-- the last nesting ends with a value
abbrev pub popped : Expression → List Frame → ℕ → Option Reader
popped e [] depth = None
popped e (f ∷ frames) depth = reader_at (left_group f e) frames (depth - 1)

-- a parenthesis closes
abbrev pub left : Option Closed → List Frame → ℕ → Option Reader
left None frames depth = None
left (Some (Value e)) frames depth = popped e frames depth
left (Some (FlatEnd p)) frames depth = reader_at (Some p) frames (depth - 1)

-- the last predicate ends with a value
abbrev pub popped_bracket : Expression → List Frame → ℕ → Option Reader
popped_bracket e [] depth = None
popped_bracket e (f ∷ frames) depth = reader_at (left_predicate f e) frames (depth - 1)

-- a bracket closes
abbrev pub left_bracket : Option Expression → List Frame → ℕ → Option Reader
left_bracket None frames depth = None
left_bracket (Some e) frames depth = popped_bracket e frames depth

-- one sign
abbrev pub read_sign : Sign → Reader → Option Reader
read_sign Slash r = reader_at (slash r.phase) r.frames r.depth
read_sign Up r = reader_at (up r.phase) r.frames r.depth
read_sign Stay r = reader_at (stay r.phase) r.frames r.depth
read_sign (Compare c) r = reader_at (comparison r.phase c) r.frames r.depth
read_sign Open r = entered (opened r.phase) r.frames r.depth
read_sign OpenBracket r =
    entered (option_map (λ f. Nested f) (predicate_of r.phase)) r.frames r.depth
read_sign Close r = left (closed r.phase) r.frames r.depth
read_sign CloseBracket r = left_bracket (value_of r.phase) r.frames r.depth

-- one token
abbrev pub read : Token → Reader → Option Reader
read (Signed s) r = read_sign s r
read (Name prefix name) r = reader_at (word r.phase prefix name) r.frames r.depth
read (Literal s) r = reader_at (literal r.phase s) r.frames r.depth
read (Number n) r = reader_at (number r.phase n) r.frames r.depth

abbrev finish_in : List Frame → Phase → Option Expression
finish_in [] p = value_of p
finish_in (f ∷ frames) p = None

-- the end, where no nesting is open
abbrev pub finish : Reader → Option Expression
finish r = finish_in r.frames r.phase

-- tokens behind what has been read
abbrev pub run : List Token → Reader → Option Expression
run [] r = finish r
run (t ∷ ts) r = option_and_then (λ next. run ts next) (read t r)

-- all tokens
abbrev pub parse : List Token → Option Expression
parse ts = run ts (record { phase = fresh; frames = []; depth = 0 })

-- the expression that a text spells, where it spells one
abbrev pub read_expression : List ℕ → Option Expression
read_expression s = option_and_then parse (lex s)
