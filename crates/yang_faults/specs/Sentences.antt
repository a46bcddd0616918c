-- What is wrong with a statement by the table of statements, and by the form of its argument.
use Rattle.std.specs.Prelude.{ℕ, List, [], ◌∷◌, map, drop, filter, Option, Some, None, if◌then◌else◌}
use Rattle.std.specs.List.{flat_map, list_any}
use Rattle.std.specs.Str.{bytes_eq}
use Rattle.yang_text.specs.Declarations.{Declaration, keyword, line}
use Rattle.yang_text.specs.declared.errors.ModelWhy.{ModelWhy}
use Rattle.yang_text.specs.declared.errors.ModelWhy.TheVariants.{Repeated, Missing, BadArgument}
use Rattle.yang_scope.specs.Faults.{fault_at}
use Rattle.yang_scope.specs.declared.faults.Fault.{Fault}
use Rattle.yang_faults.specs.declared.kinds.Kind.{Kind}
use Rattle.yang_faults.specs.Forms.{is_form}
use Rattle.yang_faults.specs.Rows.{row, needs}

-- a fault on a line of a file
abbrev pub fault_on : ℕ → ℕ → ModelWhy → Fault
fault_on file line why = record { file = file; line = line; why = why }

-- the statements of a keyword
abbrev pub children : List ℕ → List Declaration → List Declaration
children name ds = filter (λ d. bytes_eq (keyword d) name) ds

-- Repeated stands at the later statements of a keyword
abbrev pub repeated : ℕ → List ℕ → List Declaration → List Fault
repeated file name ds = map (fault_at file Repeated) (drop 1 (children name ds))

-- of each keyword that may stand there once at most
abbrev pub repeated_in : ℕ → Kind → List Declaration → List Fault
repeated_in file kind ds =
    flat_map (λ e. if e.single then repeated file e.keyword ds else []) (row kind)

-- Missing stands at the line of the enclosing statement
abbrev pub missing_one : ℕ → ℕ → List Declaration → List (List ℕ) → List Fault
missing_one file line ds names =
    if list_any (λ d. list_any (bytes_eq (keyword d)) names) ds then []
    else record { file = file; line = line; why = Missing } ∷ []

-- each group of keywords of which one has to stand there
abbrev pub missing_in : ℕ → Kind → ℕ → List Declaration → List Fault
missing_in file kind line ds = flat_map (missing_one file line ds) (needs kind)

-- BadArgument: an argument that is missing or not of its form
abbrev pub bad_argument : ℕ → Kind → Option (List ℕ) → ℕ → List Fault
bad_argument file kind None line = record { file = file; line = line; why = BadArgument } ∷ []
bad_argument file kind (Some s) line =
    if is_form kind s then []
    else record { file = file; line = line; why = BadArgument } ∷ []
