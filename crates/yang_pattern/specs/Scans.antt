-- What is read of a text whose reading stops.
use Rattle.std.specs.Prelude.{◌≡◌, ◌≢◌, ℕ, ◌⊎◌, true, false, List, [], ◌∷◌, ◌++◌, length, None, option_map}
use Rattle.yang_pattern.specs.declared.letters.Letter.{Letter}
use Rattle.yang_pattern.specs.declared.symbols.Token.{Token}
use Rattle.yang_pattern.specs.declared.tokens.Mode.{Mode}
use Rattle.yang_pattern.specs.declared.tokens.Mode.TheVariants.{Outside}
use Rattle.yang_pattern.specs.declared.faults.Standing.{Standing}
use Rattle.yang_pattern.specs.declared.faults.Scan.{Scan}
use Rattle.yang_pattern.specs.Letters.{letters_from}
use Rattle.yang_pattern.specs.Lexing.{lex}
use Rattle.yang_pattern.specs.Reading.{Progress, run, start}
use Rattle.yang_pattern.specs.Language.{BeginsPattern}

-- what stands open behind the tokens of a progress
pub record IsStanding (standing : Standing) (s : Progress) : Type 0 where
  pub groups : length s.outer ≡ standing.groups
  pub atom : standing.atom ≡ true → s.current.last ≢ None

-- letters are read into tokens, up to what the mode says
pub record IsLexed (letters : List Letter) (mode : Mode) (standing : Standing) : Type 0 where
  pub tokens : List Token
  pub progress : Progress
  pub lexed :
      (more : List Letter)
      → lex Outside (letters ++ more) ≡ option_map (λ ts. tokens ++ ts) (lex mode more)
  pub reads : (more : List Token) → run (tokens ++ more) start ≡ run more progress
  pub stands : IsStanding standing progress

-- a scan behind characters
pub record IsScanned (cs : List ℕ) (scan : Scan) : Type 0 where
  pub letters : List Letter
  pub reads :
      (more : List ℕ)
      → letters_from false (cs ++ more)
      ≡ option_map (λ ls. letters ++ ls) (letters_from scan.after_backslash more)
  pub lexed : IsLexed letters scan.mode scan.standing

-- a scan behind one letter more
abbrev pub IsScanBehind : Mode → Standing → Letter → Scan → Type 0
IsScanBehind mode standing letter scan =
    (scan.after_backslash ≡ false)
    × ((letters : List Letter) → IsLexed letters mode standing
    → IsLexed (letters ++ letter ∷ []) scan.mode scan.standing)

-- the place is the one before, or this one, and then the characters up to it begin a pattern
abbrev pub IsWholeUpTo : Scan → ℕ → ℕ → ℕ → Type 0
IsWholeUpTo scan before at place =
    (place ≡ before)
    ⊎ ((place ≡ at) × ((cs : List ℕ) → IsScanned cs scan → BeginsPattern cs))
