-- Sentences on a statement of one kind alone.
use Rattle.std.specs.Prelude.{ℕ, ◌&&◌, not, Bool, true, List, [], ◌∷◌, ◌++◌, Option, Some, None, codes, if◌then◌else◌}
use Rattle.std.specs.List.{flat_map}
use Rattle.std.specs.Str.{bytes_eq}
use Rattle.yang_text.specs.Declarations.{Declaration, keyword, argument, line, block}
use Rattle.yang_text.specs.declared.errors.ModelWhy.TheVariants.{BadArgument, UnknownName}
use Rattle.yang_scope.specs.Faults.{fault_at}
use Rattle.yang_scope.specs.declared.faults.Fault.{Fault}
use Rattle.yang_faults.specs.declared.kinds.Kind.{Kind}
use Rattle.yang_faults.specs.declared.kinds.Kind.TheVariants.{Module, Import, TableList, FixedContainer}
use Rattle.yang_faults.specs.Duplicates.{duplicates_in, prefixes_twice}
use Rattle.yang_faults.specs.Fields.{key_names, field_faults}
use Rattle.yang_faults.specs.Keys.{keys_faults}
use Rattle.yang_faults.specs.Sentences.{bad_argument, repeated_in, missing_in}

-- where one of the two is missing, that is a fault of its own
abbrev pub is_same_name : Option (List ℕ) → Option (List ℕ) → Bool
is_same_name None b = true
is_same_name (Some a) None = true
is_same_name (Some a) (Some b) = bytes_eq a b

-- BadArgument: a container of a module has the module's name
abbrev pub misnamed : ℕ → Option (List ℕ) → Declaration → List Fault
misnamed file name d =
    if bytes_eq (keyword d) (codes "container") && not (is_same_name (argument d) name)
    then fault_at file BadArgument d ∷ []
    else []

-- UnknownName: an import names a module among the files or one that is built in
abbrev pub unknown_import : (List ℕ → Bool) → ℕ → Declaration → Option (List ℕ) → List Fault
unknown_import knows file d None = []
unknown_import knows file d (Some name) =
    if knows name then []
    else fault_at file UnknownName d ∷ []

-- a module's containers have its name, and it gives each prefix once
abbrev pub module_faults : ℕ → Option (List ℕ) → List Declaration → List Fault
module_faults file name ds = flat_map (misnamed file name) ds ++ prefixes_twice file ds

-- a list's keys, and its leaves that are no key leaves
abbrev pub list_faults : ℕ → List Declaration → List Fault
list_faults file ds = keys_faults file ds ++ flat_map (field_faults file (key_names ds)) ds

-- the sentences of a kind alone; knows says which modules there are
abbrev pub own_faults : (List ℕ → Bool) → ℕ → Kind → Declaration → List Fault
own_faults knows file Module d = module_faults file (argument d) (block d)
own_faults knows file Import d = unknown_import knows file d (argument d)
own_faults knows file TableList d = list_faults file (block d)
own_faults knows file FixedContainer d = flat_map (field_faults file []) (block d)
own_faults knows file _ d = []

-- all sentences on a statement of a kind; named says what is wrong by what names stand for
abbrev pub sentence_faults : (List ℕ → Bool) → (Kind → Declaration → List Fault) → ℕ → Kind
    → Declaration → List Fault
sentence_faults knows named file kind d =
    bad_argument file kind (argument d) (line d)
    ++ (repeated_in file kind (block d)
    ++ (missing_in file kind (line d) (block d)
    ++ (duplicates_in file kind (block d)
    ++ (own_faults knows file kind d
    ++ named kind d))))
