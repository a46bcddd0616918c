-- What tokens hold.
use Rattle.std.specs.Prelude.{ℕ, ◌==◌, ◌≤◌, Bool, true, false, List, [], ◌∷◌, length, slice_range, if◌then◌else◌}
use Rattle.std.specs.Str.{IsCharBoundary}
use Rattle.host_core.specs.Characters.{backslash}
use Rattle.yang_text.specs.Bytes.{escape_meaning}
use Rattle.yang_text.specs.declared.lexing.Kind.{Kind}
use Rattle.yang_text.specs.declared.lexing.Kind.TheVariants.{Word, Single, Double, Semicolon, Open, Close, Bad}
use Rattle.yang_text.specs.declared.lexing.Token.{Token}

-- the token lies in the text
pub record IsWithin (text : List ℕ) (token : Token) : Type 0 where
  pub rising : token.start ≤ token.end
  pub within : token.end ≤ length text

-- the bytes of the token
abbrev pub bytes_of : List ℕ → Token → List ℕ
bytes_of text token = slice_range text token.start token.end

-- what stands in double quotes means, perhaps behind a backslash
abbrev pub unescape : Bool → List ℕ → List ℕ
unescape after [] = []
unescape true (b ∷ bs) = escape_meaning b ∷ unescape false bs
unescape false (b ∷ bs) = if b == backslash then unescape true bs else b ∷ unescape false bs

-- what the bytes of a token of that kind stand for
abbrev pub content_by : Kind → List ℕ → List ℕ
content_by Word bytes = bytes
content_by Single bytes = bytes
content_by Double bytes = unescape false bytes
content_by Semicolon bytes = []
content_by Open bytes = []
content_by Close bytes = []
content_by Bad bytes = []

-- the text that a word or a quoted text stands for
abbrev pub content : List ℕ → Token → List ℕ
content text token = content_by token.kind (bytes_of text token)

-- the token begins and ends between characters
pub record IsCut (text : List ℕ) (token : Token) : Type 0 where
  pub rising : token.start ≤ token.end
  pub start : IsCharBoundary text token.start
  pub end : IsCharBoundary text token.end
