-- A statement as a tree (RFC 7950, section 6.3), with the place of its keyword.
use Rattle.std.specs.Prelude.{ℕ, suc, ◌+◌, List, [], ◌∷◌, Option}

mutual
  -- keyword, argument, the line of the keyword, where it starts and ends, and the statements in braces
  pub data Declaration : Type 0 where
    declare : List ℕ → Option (List ℕ) → ℕ → ℕ → ℕ → Block → Declaration

  -- the statements in braces, or none
  pub data Block : Type 0 where
    no_more : Block
    more : Declaration → Block → Block

-- a block as a plain list, and back
abbrev pub declarations : Block → List Declaration
declarations no_more = []
declarations (more d b) = d ∷ declarations b

-- a plain list as a block
abbrev pub block_of : List Declaration → Block
block_of [] = no_more
block_of (d ∷ ds) = more d (block_of ds)

-- the parts of a statement
abbrev pub keyword : Declaration → List ℕ
keyword (declare k a l s e b) = k

-- the argument, where there is one
abbrev pub argument : Declaration → Option (List ℕ)
argument (declare k a l s e b) = a

-- the line of the keyword
abbrev pub line : Declaration → ℕ
line (declare k a l s e b) = l

-- where the keyword starts
abbrev pub start : Declaration → ℕ
start (declare k a l s e b) = s

-- where the keyword ends
abbrev pub end : Declaration → ℕ
end (declare k a l s e b) = e

-- the statements in braces
abbrev pub block : Declaration → List Declaration
block (declare k a l s e b) = declarations b

-- how many statements there are, nested ones included
abbrev mutual
  -- a statement and those in its block
  pub weight : Declaration → ℕ
  weight (declare k a l s e b) = suc (block_weight b)

  -- the statements of a block, nested ones included
  pub block_weight : Block → ℕ
  block_weight no_more = 0
  block_weight (more d b) = weight d + block_weight b

-- the statements of a list, nested ones included
abbrev pub total_weight : List Declaration → ℕ
total_weight [] = 0
total_weight (d ∷ ds) = weight d + total_weight ds
