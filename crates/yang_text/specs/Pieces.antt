-- How a text is made of pieces (RFC 7950, sections 6.1.1 to 6.1.3): white space, comments, words, quoted texts
-- and signs.
use Rattle.std.specs.Prelude.{◌≡◌, ◌≢◌, ◌⊎◌, ◌+◌, ◌==◌, ◌&&◌, ℕ, Bool, true, false, List, [], ◌∷◌, ◌++◌, length, slice_index_or, if◌then◌else◌, Option, Some, None, option_to_list}
use Rattle.host_core.specs.Characters.{backslash, close_brace, double_quote, line_feed, open_brace, semicolon, single_quote, slash, star}
use Rattle.yang_text.specs.Bytes.{is_blank, is_escapable, ends_word}
use Rattle.yang_text.specs.declared.lexing.Kind.{Kind}
use Rattle.yang_text.specs.declared.lexing.Kind.TheVariants as kinds
use Rattle.yang_text.specs.declared.lexing.Token.{Token}

-- a piece of a text
pub data Piece : Type 0 where
  -- a byte of white space
  blank : ℕ → Piece
  -- `//` and the rest of the line
  line_comment : List ℕ → Piece
  -- what stands between `/*` and `*/`
  block_comment : List ℕ → Piece
  -- an unquoted run
  word : List ℕ → Piece
  -- what stands between single quotes
  single : List ℕ → Piece
  -- what stands between double quotes
  double : List ℕ → Piece
  -- a semicolon and the braces
  end_sign : Piece
  open_sign : Piece
  close_sign : Piece

-- the bytes of a piece
abbrev pub spelling : Piece → List ℕ
spelling (blank b) = b ∷ []
spelling (line_comment c) = slash ∷ slash ∷ c
spelling (block_comment c) = slash ∷ star ∷ (c ++ star ∷ slash ∷ [])
spelling (word w) = w
spelling (single c) = single_quote ∷ (c ++ single_quote ∷ [])
spelling (double c) = double_quote ∷ (c ++ double_quote ∷ [])
spelling end_sign = semicolon ∷ []
spelling open_sign = open_brace ∷ []
spelling close_sign = close_brace ∷ []

-- the bytes of all pieces
abbrev pub text_of : List Piece → List ℕ
text_of [] = []
text_of (p ∷ ps) = spelling p ++ text_of ps

-- no byte is that one
abbrev pub Lacks : ℕ → List ℕ → Type 0
Lacks c [] = Unit {0}
Lacks c (b ∷ bs) = ((b == c) ≡ false) × Lacks c bs

-- the line ends here, or the text does
abbrev pub EndsLine : List ℕ → Type 0
EndsLine [] = Unit {0}
EndsLine (b ∷ bs) = b ≡ line_feed

-- no `*/` begins in a comment, which a star follows
abbrev pub IsComment : List ℕ → Type 0
IsComment [] = Unit {0}
IsComment (b ∷ c) = ((b == star && slice_index_or c 0 star == slash) ≡ false) × IsComment c

-- an unquoted run doesn't go on with these bytes: a byte of another kind, a comment sign, or the end
abbrev pub ends_run : List ℕ → Bool
ends_run bytes = ends_word (slice_index_or bytes 0 line_feed) (slice_index_or bytes 1 line_feed)

-- an unquoted run goes on as far as it can
abbrev pub IsRun : List ℕ → List ℕ → Type 0
IsRun [] after = ends_run after ≡ true
IsRun (b ∷ w) after = (ends_run (b ∷ (w ++ after)) ≡ false) × IsRun w after

-- in double quotes, perhaps behind a backslash: no quote but behind one, and only the four escapes
abbrev pub IsQuotable : Bool → List ℕ → Type 0
IsQuotable false [] = Unit {0}
IsQuotable true [] = ⊥
IsQuotable true (b ∷ bs) = (is_escapable b ≡ true) × IsQuotable false bs
IsQuotable false (b ∷ bs) =
    ((b ≡ backslash) × IsQuotable true bs)
    ⊎ (((b == backslash) ≡ false) × ((b == double_quote) ≡ false) × IsQuotable false bs)

-- the piece may stand before these bytes
abbrev pub IsFit : Piece → List ℕ → Type 0
IsFit (blank b) after = is_blank b ≡ true
IsFit (line_comment c) after = Lacks line_feed c × EndsLine after
IsFit (block_comment c) after = IsComment c
IsFit (word w) after = (w ≢ []) × IsRun w after
IsFit (single c) after = Lacks single_quote c
IsFit (double c) after = IsQuotable false c
IsFit end_sign after = Unit {0}
IsFit open_sign after = Unit {0}
IsFit close_sign after = Unit {0}

-- each piece may stand before the next ones
abbrev pub AreFit : List Piece → Type 0
AreFit [] = Unit {0}
AreFit (p ∷ ps) = IsFit p (text_of ps) × AreFit ps

-- the text is made of these pieces
pub record IsMadeOf (text : List ℕ) (ps : List Piece) : Type 0 where
  pub bytes : text ≡ text_of ps
  pub fit : AreFit ps

-- a token of that kind
abbrev pub token : Kind → ℕ → ℕ → ℕ → Option Token
token kind line start end = Some (record { kind = kind; line = line; start = start; end = end })

-- the token that a piece at a position is, where it is one
abbrev pub token_of : Piece → ℕ → ℕ → Option Token
token_of (blank b) at line = None
token_of (line_comment c) at line = None
token_of (block_comment c) at line = None
token_of (word w) at line = token kinds.Word line at (at + length w)
token_of (single c) at line = token kinds.Single line (at + 1) (at + 1 + length c)
token_of (double c) at line = token kinds.Double line (at + 1) (at + 1 + length c)
token_of end_sign at line = token kinds.Semicolon line at (at + 1)
token_of open_sign at line = token kinds.Open line at (at + 1)
token_of close_sign at line = token kinds.Close line at (at + 1)

-- how many lines end in the bytes
abbrev pub feeds : List ℕ → ℕ
feeds [] = 0
feeds (b ∷ bs) = (if b == line_feed then 1 else 0) + feeds bs

-- the tokens of pieces from a position and a line on
abbrev pub tokens_of : ℕ → ℕ → List Piece → List Token
tokens_of at line [] = []
tokens_of at line (p ∷ ps) =
    option_to_list (token_of p at line)
    ++ tokens_of (at + length (spelling p)) (line + feeds (spelling p)) ps
