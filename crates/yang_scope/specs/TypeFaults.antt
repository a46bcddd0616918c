-- What is wrong with a type statement by what its name and its restrictions say (RFC 7950, section 9).
use Rattle.std.specs.Prelude.{◌↔◌, IsTrue, ℕ, Bool, List, [], ◌∷◌, codes, is_some, if◌then◌else◌}
use Rattle.std.specs.List.{flat_map}
use Rattle.std.specs.Option.{option_map_or}
use Rattle.yang_pattern.specs.Language.{IsPattern}
use Rattle.yang_text.specs.Declarations.{Declaration, argument, block}
use Rattle.yang_text.specs.declared.errors.ModelWhy.TheVariants.{BadArgument, UnknownName, BadPattern}
use Rattle.yang_scope.specs.Faults.{fault_at}
use Rattle.yang_scope.specs.Meanings.{meaning_of}
use Rattle.yang_scope.specs.Modules.{Module}
use Rattle.yang_scope.specs.Paths.{is_path, path_end}
use Rattle.yang_scope.specs.Statements.{is_keyword}
use Rattle.yang_scope.specs.declared.faults.Fault.{Fault}
use Rattle.yang_scope.specs.declared.meanings.Meaning.{Meaning}
use Rattle.yang_scope.specs.declared.meanings.Meaning.TheVariants.{Nothing}

abbrev unless_named : ℕ → Declaration → Meaning → List Fault
unless_named file d Nothing = fault_at file UnknownName d ∷ []
unless_named file d _ = []

-- UnknownName: the name of a type stands for nothing
abbrev pub unknown_type : List Module → ℕ → ℕ → Declaration → List Fault
unknown_type modules file m d =
    option_map_or (λ name. unless_named file d (meaning_of modules m name)) (argument d) []

-- a test that tells the patterns from the other texts
pub record DecidesPatterns (is_pattern : List ℕ → Bool) : Type 0 where
  pub decides : (s : List ℕ) → IsTrue (is_pattern s) ↔ IsPattern s

-- BadPattern: a statement whose argument is no pattern
abbrev pub bad_pattern : (List ℕ → Bool) → ℕ → Declaration → List Fault
bad_pattern is_pattern file d =
    option_map_or (λ s. if is_pattern s then [] else fault_at file BadPattern d ∷ [])
    (argument d) []

-- of a statement, where it is a pattern
abbrev pub bad_if_pattern : (List ℕ → Bool) → ℕ → Declaration → List Fault
bad_if_pattern is_pattern file d =
    if is_keyword (codes "pattern") d then bad_pattern is_pattern file d else []

-- of each pattern of a type
abbrev pub bad_patterns : (List ℕ → Bool) → ℕ → Declaration → List Fault
bad_patterns is_pattern file d = flat_map (bad_if_pattern is_pattern file) (block d)

-- BadArgument: no path of four steps; UnknownName: a path to nothing, or to no key leaf
abbrev pub wrong_path : List Module → ℕ → ℕ → Declaration → List ℕ → List Fault
wrong_path modules file m d s =
    if is_path s
    then (if is_some (path_end modules m s) then [] else fault_at file UnknownName d ∷ [])
    else fault_at file BadArgument d ∷ []

-- of a statement, where it is a path
abbrev pub wrong_if_path : List Module → ℕ → ℕ → Declaration → List Fault
wrong_if_path modules file m d =
    if is_keyword (codes "path") d
    then option_map_or (wrong_path modules file m d) (argument d) []
    else []

-- of each path of a leafref
abbrev pub wrong_paths : List Module → ℕ → ℕ → Declaration → List Fault
wrong_paths modules file m d = flat_map (wrong_if_path modules file m) (block d)
