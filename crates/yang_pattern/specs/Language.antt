-- What a pattern's text is, and which texts it matches.
use Rattle.std.specs.Prelude.{ℕ, ◌≤◌, List, ◌++◌, chars}
use Rattle.yang_pattern.specs.declared.letters.Letter.{Letter}
use Rattle.yang_pattern.specs.Grammar.{IsText, AreTokens}
use Rattle.yang_pattern.specs.Pattern.{Branches, Matches, size, nesting, tokens_of}
use Rattle.yang_pattern.specs.Limits.{largest_size, deepest_group}

-- the characters of a text spell a pattern: they are letters that are its tokens
abbrev pub Spells : List ℕ → Branches → Type 0
Spells cs bs = (ls : List Letter) × IsText ls cs × AreTokens (tokens_of bs) ls

-- they spell it, and it keeps within the limits
pub record SpellsWithin (cs : List ℕ) (bs : Branches) : Type 0 where
  pub spelled : Spells cs bs
  pub small : size bs ≤ largest_size
  pub shallow : nesting bs ≤ deepest_group

-- they begin what spells a pattern of any size, whose groups nest within the limit
abbrev pub BeginsPattern : List ℕ → Type 0
BeginsPattern cs =
    (rest : List ℕ) × (bs : Branches) × Spells (cs ++ rest) bs × (nesting bs ≤ deepest_group)

-- a text that is a pattern
abbrev pub IsPattern : List ℕ → Type 0
IsPattern text = (bs : Branches) × SpellsWithin (chars text) bs

-- a pattern's text matches a text
abbrev pub MatchesText : List ℕ → List ℕ → Type 0
MatchesText pattern text =
    (bs : Branches) × SpellsWithin (chars pattern) bs × Matches bs (chars text)
