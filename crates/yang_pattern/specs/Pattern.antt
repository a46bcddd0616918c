-- Patterns: branches of pieces of atoms (RFC 7950, section 9.4.5), and the texts that they match.
use Rattle.std.specs.Prelude.{◌≡◌, ℕ, ◌+◌, ◌*◌, max, ◌⊎◌, Bool, IsTrue, List, [], ◌∷◌, ◌++◌}
use Rattle.yang_pattern.specs.declared.symbols.Quantifier.{Quantifier}
use Rattle.yang_pattern.specs.declared.symbols.Token.{Token}
use Rattle.yang_pattern.specs.declared.symbols.Token.TheVariants.{Open, Close, Bar, Times, Symbol}
use Rattle.yang_pattern.specs.Symbols.{accepts, Allows, factor, Repeated}

mutual
  -- one branch, or branches and one more
  pub data Branches : Type 0 where
    one : Branch → Branches
    or : Branches → Branch → Branches

  -- no piece, or a branch and one piece more
  pub data Branch : Type 0 where
    none : Branch
    followed : Branch → Piece → Branch

  -- an atom, alone or with a quantifier
  pub data Piece : Type 0 where
    once : Atom → Piece
    times : Atom → Quantifier → Piece

  -- a set of characters, or a group
  pub data Atom : Type 0 where
    symbol : Bool × List (ℕ × ℕ) → Atom
    group : Branches → Atom

abbrev mutual
  -- which texts, as lists of characters, are matched
  pub Matches : Branches → List ℕ → Type 0
  Matches (one b) u = MatchesBranch b u
  Matches (or bs b) u = Matches bs u ⊎ MatchesBranch b u

  -- of a branch
  pub MatchesBranch : Branch → List ℕ → Type 0
  MatchesBranch none u = u ≡ []
  MatchesBranch (followed b p) u =
      (x : List ℕ) × (y : List ℕ) × (u ≡ x ++ y) × MatchesBranch b x × MatchesPiece p y

  -- of a piece
  pub MatchesPiece : Piece → List ℕ → Type 0
  MatchesPiece (once a) u = MatchesAtom a u
  MatchesPiece (times a q) u = (n : ℕ) × Allows q n × Repeated (MatchesAtom a) n u

  -- of an atom
  pub MatchesAtom : Atom → List ℕ → Type 0
  MatchesAtom (symbol s) u = (c : ℕ) × (u ≡ c ∷ []) × IsTrue (accepts s c)
  MatchesAtom (group bs) u = Matches bs u

abbrev mutual
  -- the size
  pub size : Branches → ℕ
  size (one b) = branch_size b
  size (or bs b) = size bs + branch_size b

  -- of a branch
  pub branch_size : Branch → ℕ
  branch_size none = 0
  branch_size (followed b p) = branch_size b + piece_size p

  -- of a piece
  pub piece_size : Piece → ℕ
  piece_size (once a) = atom_size a
  piece_size (times a q) = atom_size a * factor q

  -- of an atom
  pub atom_size : Atom → ℕ
  atom_size (symbol s) = 1
  atom_size (group bs) = size bs

abbrev mutual
  -- how deep groups are nested
  pub nesting : Branches → ℕ
  nesting (one b) = branch_nesting b
  nesting (or bs b) = max (nesting bs) (branch_nesting b)

  -- of a branch
  pub branch_nesting : Branch → ℕ
  branch_nesting none = 0
  branch_nesting (followed b p) = max (branch_nesting b) (piece_nesting p)

  -- of a piece
  pub piece_nesting : Piece → ℕ
  piece_nesting (once a) = atom_nesting a
  piece_nesting (times a q) = atom_nesting a

  -- of an atom
  pub atom_nesting : Atom → ℕ
  atom_nesting (symbol s) = 0
  atom_nesting (group bs) = nesting bs + 1

abbrev mutual
  -- the tokens of a pattern, in order
  pub tokens_of : Branches → List Token
  tokens_of (one b) = branch_tokens b
  tokens_of (or bs b) = tokens_of bs ++ Bar ∷ branch_tokens b

  -- of a branch
  pub branch_tokens : Branch → List Token
  branch_tokens none = []
  branch_tokens (followed b p) = branch_tokens b ++ piece_tokens p

  -- of a piece
  pub piece_tokens : Piece → List Token
  piece_tokens (once a) = atom_tokens a
  piece_tokens (times a q) = atom_tokens a ++ Times q ∷ []

  -- of an atom
  pub atom_tokens : Atom → List Token
  atom_tokens (symbol s) = Symbol s ∷ []
  atom_tokens (group bs) = Open ∷ (tokens_of bs ++ Close ∷ [])
