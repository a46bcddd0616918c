-- What is wrong with the files as a whole, and with what stands outermost in them.
use Rattle.std.specs.Prelude.{ℕ, List, [], ◌+◌, ◌∷◌, ◌++◌, codes, if◌then◌else◌}
use Rattle.std.specs.List.{flat_map}
use Rattle.std.specs.Str.{bytes_eq}
use Rattle.yang_text.specs.Declarations.{Declaration, keyword, block}
use Rattle.yang_text.specs.declared.errors.ModelWhy.TheVariants.{Missing, Unsupported}
use Rattle.yang_scope.specs.Faults.{fault_at}
use Rattle.yang_scope.specs.declared.faults.Fault.{Fault}
use Rattle.yang_faults.specs.declared.kinds.Kind.TheVariants.{File}
use Rattle.yang_faults.specs.Duplicates.{Given, given_by, given_twice}
use Rattle.yang_faults.specs.Sentences.{fault_on, repeated_in}

-- what each file gives, the files counted from a number on
abbrev pub in_files : {X : Type 0} → (ℕ → List Declaration → List X) → ℕ
    → List (List Declaration) → List X
in_files give file [] = []
in_files give file (ds ∷ files) = give file ds ++ in_files give (file + 1) files

-- Unsupported stands at an outermost statement that is no module
abbrev pub no_module : ℕ → Declaration → List Fault
no_module file d =
    if bytes_eq (keyword d) (codes "module") then []
    else fault_at file Unsupported d ∷ []

-- Missing stands at line 1 of a file without statements
abbrev pub no_statements : ℕ → List Declaration → List Fault
no_statements file [] = fault_on file 1 Missing ∷ []
no_statements file (d ∷ ds) = []

-- a file has statements, no second module, and nothing but modules
abbrev pub file_faults : ℕ → List Declaration → List Fault
file_faults file ds =
    no_statements file ds ++ (repeated_in file File ds ++ flat_map (no_module file) ds)

-- the names of the modules of a file
abbrev pub modules_given : ℕ → List Declaration → List Given
modules_given file ds = flat_map (given_by file (codes "module" ∷ [])) ds

-- Duplicate: a module of a name that a module had before
abbrev pub modules_twice : List (List Declaration) → List Fault
modules_twice files = given_twice [] (in_files modules_given 0 files)

-- the tables of a module's container
abbrev pub tables_of_container : ℕ → Declaration → List Given
tables_of_container file d =
    if bytes_eq (keyword d) (codes "container")
    then flat_map (given_by file (codes "container" ∷ [])) (block d)
    else []

-- the tables of a module
abbrev pub tables_of_module : ℕ → Declaration → List Given
tables_of_module file d =
    if bytes_eq (keyword d) (codes "module") then flat_map (tables_of_container file) (block d)
    else []

-- the tables of a file
abbrev pub tables_given : ℕ → List Declaration → List Given
tables_given file ds = flat_map (tables_of_module file) ds

-- Duplicate: a table of a name that a table of any module had before
abbrev pub tables_twice : List (List Declaration) → List Fault
tables_twice files = given_twice [] (in_files tables_given 0 files)
