-- How tokens spell statements (RFC 7950, sections 6.1.3 and 6.3).
use Rattle.std.specs.Prelude.{◌≡◌, ◌≢◌, ◌⊎◌, ◌<◌, ◌+◌, ℕ, true, List, [], ◌∷◌, ◌++◌, Option, Some, None, IsUtf8}
use Rattle.host_core.specs.Characters.{plus}
use Rattle.yang_text.specs.Bytes.{is_keyword}
use Rattle.yang_text.specs.Declarations.{Declaration, declare, Block, no_more, more, block_of}
use Rattle.yang_text.specs.Limits.{most_open}
use Rattle.yang_text.specs.Pieces.{Piece, IsMadeOf, tokens_of}
use Rattle.yang_text.specs.Texts.{bytes_of, content}
use Rattle.yang_text.specs.declared.lexing.Kind.TheVariants.{Word, Single, Double, Semicolon, Open, Close}
use Rattle.yang_text.specs.declared.lexing.Token.{Token}

-- the token is this word
pub record IsWord (text : List ℕ) (t : Token) (word : List ℕ) : Type 0 where
  pub kind : t.kind ≡ Word
  pub word_is : bytes_of text t ≡ word

-- the token is a quoted text that stands for this one
pub record IsQuoted (text : List ℕ) (t : Token) (part : List ℕ) : Type 0 where
  pub kind : (t.kind ≡ Single) ⊎ (t.kind ≡ Double)
  pub content_is : content text t ≡ part

-- quoted parts, joined by plus signs
abbrev mutual
  -- a part, and more of them
  pub AreParts : List ℕ → List ℕ → List Token → Type 0
  AreParts text a [] = ⊥
  AreParts text a (t ∷ ts) =
      (part rest : List ℕ) × (a ≡ part ++ rest) × IsQuoted text t part × AreMoreParts text rest ts

  -- a plus sign and further parts, or none
  pub AreMoreParts : List ℕ → List ℕ → List Token → Type 0
  AreMoreParts text a [] = a ≡ []
  AreMoreParts text a (t ∷ ts) = IsWord text t (plus ∷ []) × AreParts text a ts

-- no argument, a word, or quoted parts
abbrev pub IsArgument : List ℕ → Option (List ℕ) → List Token → Type 0
IsArgument text None ts = ts ≡ []
IsArgument text (Some a) ts = ((t : Token) × (ts ≡ t ∷ []) × IsWord text t a) ⊎ AreParts text a ts

-- the token is a keyword on that line, from start to before end
pub record IsName (text : List ℕ) (t : Token) (keyword : List ℕ) (line start end : ℕ) : Type 0 where
  pub word : IsWord text t keyword
  pub form : is_keyword keyword ≡ true
  pub line_is : t.line ≡ line
  pub start_is : t.start ≡ start
  pub end_is : t.end ≡ end

-- statements under that many open braces
abbrev mutual
  -- a keyword, an argument, and a semicolon or a block in braces
  pub IsStatement : List ℕ → ℕ → Declaration → List Token → Type 0
  IsStatement text depth (declare k a l s e b) ts =
      (t : Token) × (args rest : List Token) × (ts ≡ t ∷ (args ++ rest))
      × IsName text t k l s e × IsArgument text a args
      × (((b ≡ no_more) × ((end : Token) × (rest ≡ end ∷ []) × (end.kind ≡ Semicolon)))
      ⊎ ((opening : Token) × (inner : List Token) × (closing : Token)
      × (rest ≡ opening ∷ (inner ++ closing ∷ []))
      × (opening.kind ≡ Open) × (closing.kind ≡ Close)
      × (depth < most_open) × AreStatements text (depth + 1) b inner))

  -- statements one after another
  pub AreStatements : List ℕ → ℕ → Block → List Token → Type 0
  AreStatements text depth no_more ts = ts ≡ []
  AreStatements text depth (more d b) ts =
      (xs ys : List Token) × (ts ≡ xs ++ ys)
      × IsStatement text depth d xs × AreStatements text depth b ys

-- the text spells these statements, at least one: it is made of pieces whose tokens spell them
pub record Spells (text : List ℕ) (ds : List Declaration) : Type 0 where
  pub characters : IsUtf8 text
  pub some : ds ≢ []
  pub pieces : List Piece
  pub made : IsMadeOf text pieces
  pub statements : AreStatements text 0 (block_of ds) (tokens_of 0 1 pieces)
