-- The tokens of a text, byte by byte.
use Rattle.std.specs.Prelude.{ℕ, ◌+◌, ◌==◌, ◌&&◌, not, List, [], ◌∷◌, ◌++◌, Option, Some, None, option_to_list, slice_index_or, if◌then◌else◌}
use Rattle.host_core.specs.Characters.{backslash, close_brace, double_quote, line_feed, open_brace, semicolon, single_quote, slash, star}
use Rattle.yang_text.specs.Bytes.{is_blank, is_escapable, ends_word}
use Rattle.yang_text.specs.declared.lexing.Kind.{Kind}
use Rattle.yang_text.specs.declared.lexing.Kind.TheVariants as kinds
use Rattle.yang_text.specs.declared.lexing.Token.{Token}
use Rattle.yang_text.specs.declared.lexing.Mode.{Mode}
use Rattle.yang_text.specs.declared.lexing.Mode.TheVariants.{Outside, Word, Line, Opens, Block, Skip, Single, Double, Escape}
use Rattle.yang_text.specs.declared.lexing.Window.{Window}
use Rattle.yang_text.specs.declared.lexing.Step.{Step}

-- no token yet
abbrev pub quiet : Mode → Step
quiet mode = record { mode = mode; token = None }

-- a token, and nothing left open
abbrev pub brings : Kind → ℕ → ℕ → ℕ → Step
brings kind line start end = record {
  mode = Outside;
  token = Some (record { kind = kind; line = line; start = start; end = end });
}

-- a token of one byte
abbrev pub sign : Kind → Window → Step
sign kind w = brings kind w.line w.at (w.at + 1)

-- a fault at this byte
abbrev pub blames : Mode → Window → Step
blames mode w = record {
  mode = mode;
  token = Some (record { kind = kinds.Bad; line = w.line; start = w.at; end = w.at + 1 });
}

-- a byte of a word
abbrev pub word : ℕ → Window → Step
word start w =
    if ends_word w.next w.later then brings kinds.Word w.line start (w.at + 1)
    else quiet (Word start)

-- a byte that is no white space and none of the signs of one byte
abbrev pub outside_signs : Window → Step
outside_signs w =
    if (w.byte == slash && w.next == slash) then quiet Line
    else (if (w.byte == slash && w.next == star) then quiet (Opens w.line)
    else (if (w.byte == star && w.next == slash) then blames Skip w
    else word w.at w))

-- a byte outside words, comments and quotes
abbrev pub outside : Window → Step
outside w =
    if is_blank w.byte then quiet Outside
    else (if w.byte == semicolon then sign kinds.Semicolon w
    else (if w.byte == open_brace then sign kinds.Open w
    else (if w.byte == close_brace then sign kinds.Close w
    else (if w.byte == double_quote then quiet (Double w.line (w.at + 1))
    else (if w.byte == single_quote then quiet (Single w.line (w.at + 1))
    else outside_signs w)))))

-- a byte of a comment up to the end of the line
abbrev pub in_line : Window → Step
in_line w = if w.byte == line_feed then quiet Outside else quiet Line

-- a byte of a comment in stars
abbrev pub in_block : ℕ → Window → Step
in_block line w = if (w.byte == star && w.next == slash) then quiet Skip else quiet (Block line)

-- a byte in single quotes
abbrev pub in_single : ℕ → ℕ → Window → Step
in_single line start w =
    if w.byte == single_quote then brings kinds.Single line start w.at
    else quiet (Single line start)

-- a byte in double quotes
abbrev pub in_double : ℕ → ℕ → Window → Step
in_double line start w =
    if w.byte == double_quote then brings kinds.Double line start w.at
    else (if not (w.byte == backslash) then quiet (Double line start)
    else (if is_escapable w.next then quiet (Escape line start)
    else blames (Double line start) w))

-- what one byte brings
abbrev pub advance : Mode → Window → Step
advance Outside w = outside w
advance (Word start) w = word start w
advance Line w = in_line w
advance (Opens line) w = quiet (Block line)
advance (Block line) w = in_block line w
advance Skip w = quiet Outside
advance (Single line start) w = in_single line start w
advance (Double line start) w = in_double line start w
advance (Escape line start) w = quiet (Double line start)

-- a fault at that place
abbrev pub bad_at : ℕ → ℕ → Option Token
bad_at line at = Some (record { kind = kinds.Bad; line = line; start = at; end = at })

-- a comment or quote that the end of the text leaves open
abbrev pub open_fault : Mode → ℕ → Option Token
open_fault Outside at = None
open_fault (Word start) at = None
open_fault Line at = None
open_fault (Opens line) at = bad_at line at
open_fault (Block line) at = bad_at line at
open_fault Skip at = None
open_fault (Single line start) at = bad_at line at
open_fault (Double line start) at = bad_at line at
open_fault (Escape line start) at = bad_at line at

-- lines are counted by line feeds
abbrev pub next_line : ℕ → ℕ → ℕ
next_line line byte = if byte == line_feed then line + 1 else line

-- the first of the bytes with its place, as if line feeds followed the text
abbrev pub window : ℕ → ℕ → List ℕ → Window
window at line bytes = record {
  at = at;
  line = line;
  byte = slice_index_or bytes 0 line_feed;
  next = slice_index_or bytes 1 line_feed;
  later = slice_index_or bytes 2 line_feed;
}

-- the tokens of the rest of a text
unfoldable pub lex : Mode → ℕ → ℕ → List ℕ → List Token
lex mode at line [] = option_to_list (open_fault mode at)
lex mode at line (b ∷ bs) = let step = advance mode (window at line (b ∷ bs)) in
    option_to_list step.token ++ lex step.mode (at + 1) (next_line line b) bs

-- the tokens of a text
abbrev pub tokens : List ℕ → List Token
tokens text = lex Outside 0 1 text
