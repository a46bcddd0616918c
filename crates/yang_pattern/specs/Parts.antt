-- What the parts of a reader stand for, and how tokens are read into a pattern.
use Rattle.std.specs.Prelude.{◌≡◌, ℕ, ◌<◌, ◌↔◌, Bool, List, Option, Some, None, vec_len}
use Rattle.yang_pattern.specs.declared.fragments.Fragment.{Fragment}
use Rattle.yang_pattern.specs.declared.parts.Part.{Part}
use Rattle.yang_pattern.specs.Limits.{largest_size}
use Rattle.yang_pattern.specs.Machine.{machine_of, Takes}
use Rattle.yang_pattern.specs.Pattern.{Branches, Branch, Piece, Atom, Matches, MatchesBranch, MatchesPiece, MatchesAtom, size, branch_size, piece_size, atom_size}

-- a machine for the texts of P with `size` places, or none where that is above the limit
abbrev pub IsFragmentOf : (ℕ → ℕ → Bool) → Option Fragment → (List ℕ → Type 0) → ℕ → Type 0
IsFragmentOf r None P size = largest_size < size
IsFragmentOf r (Some f) P size =
    (vec_len f.places ≡ size) × ((u : List ℕ) → Takes (machine_of r f) u ↔ P u)

-- a part for branches
abbrev pub IsPatternPart : (ℕ → ℕ → Bool) → Part → Branches → Type 0
IsPatternPart r part bs = IsFragmentOf r part.fragment (Matches bs) (size bs)

-- a part for a branch
abbrev pub IsBranchPart : (ℕ → ℕ → Bool) → Part → Branch → Type 0
IsBranchPart r part b = IsFragmentOf r part.fragment (MatchesBranch b) (branch_size b)

-- a part for a piece
abbrev pub IsPiecePart : (ℕ → ℕ → Bool) → Part → Piece → Type 0
IsPiecePart r part p = IsFragmentOf r part.fragment (MatchesPiece p) (piece_size p)

-- a part for an atom
abbrev pub IsAtomPart : (ℕ → ℕ → Bool) → Part → Atom → Type 0
IsAtomPart r part a = IsFragmentOf r part.fragment (MatchesAtom a) (atom_size a)
