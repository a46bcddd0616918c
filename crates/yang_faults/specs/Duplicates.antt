-- Names that are given twice.
use Rattle.std.specs.Prelude.{ℕ, List, [], ◌∷◌, ◌++◌, Option, Some, None, codes, if◌then◌else◌}
use Rattle.std.specs.List.{flat_map, list_any}
use Rattle.std.specs.Str.{bytes_eq}
use Rattle.yang_text.specs.Declarations.{Declaration, keyword, argument, block}
use Rattle.yang_text.specs.declared.errors.ModelWhy.TheVariants.{Duplicate}
use Rattle.yang_scope.specs.Faults.{fault_at}
use Rattle.yang_scope.specs.declared.faults.Fault.{Fault}
use Rattle.yang_faults.specs.declared.kinds.Kind.{Kind}
use Rattle.yang_faults.specs.Rows.{givers}

-- a name, and the fault that it is where it was given already
abbrev pub Given : Type 0
Given = List ℕ × Fault

-- a fault at each name that was given before
abbrev pub given_twice : List (List ℕ) → List Given → List Fault
given_twice earlier [] = []
given_twice earlier (g ∷ gs) =
    (if list_any (bytes_eq g.0) earlier then g.1 ∷ [] else [])
    ++ given_twice (g.0 ∷ earlier) gs

-- all names that were given, after these
abbrev pub earlier_from : List (List ℕ) → List Given → List (List ℕ)
earlier_from earlier [] = earlier
earlier_from earlier (g ∷ gs) = earlier_from (g.0 ∷ earlier) gs

-- none where there is no argument
abbrev pub name_given : Option (List ℕ) → Fault → List Given
name_given None fault = []
name_given (Some name) fault = (name, fault) ∷ []

-- the name that a statement of one of these keywords gives
abbrev pub given_by : ℕ → List (List ℕ) → Declaration → List Given
given_by file keywords d =
    if list_any (bytes_eq (keyword d)) keywords
    then name_given (argument d) (fault_at file Duplicate d)
    else []

-- Duplicate stands at the later of the statements of these keywords that give one name
abbrev pub duplicates : ℕ → List Declaration → List (List ℕ) → List Fault
duplicates file ds keywords = given_twice [] (flat_map (given_by file keywords) ds)

-- in each group of keywords of a kind
abbrev pub duplicates_in : ℕ → Kind → List Declaration → List Fault
duplicates_in file kind ds = flat_map (duplicates file ds) (givers kind)

-- the prefixes that a statement of a module gives: its own, or that of an import
abbrev pub prefixes_given : ℕ → Declaration → List Given
prefixes_given file d =
    if bytes_eq (keyword d) (codes "import")
    then flat_map (given_by file (codes "prefix" ∷ [])) (block d)
    else given_by file (codes "prefix" ∷ []) d

-- Duplicate: a prefix that the module gave before
abbrev pub prefixes_twice : ℕ → List Declaration → List Fault
prefixes_twice file ds = given_twice [] (flat_map (prefixes_given file) ds)
