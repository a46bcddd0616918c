-- The modules of the files, and the names that they give (RFC 7950, sections 5.1, 6.2 and 7.1).
use Rattle.std.specs.Prelude.{ℕ, List, [], ◌∷◌, codes, if◌then◌else◌}
use Rattle.std.specs.List.{flat_map}
use Rattle.yang_text.specs.Declarations.{Declaration, argument, block}
use Rattle.yang_scope.specs.Statements.{is_keyword, Entry, name_entry, each_from}

-- a module statement, and the number of its file
pub record Module : Type 0 where
  pub file : ℕ
  pub statement : Declaration

abbrev module_of : ℕ → Declaration → Module
module_of file d = record { file = file; statement = d }

-- a statement of a file, where it is a module
abbrev pub module_in : ℕ → Declaration → List Module
module_in file d = if is_keyword (codes "module") d then module_of file d ∷ [] else []

-- the modules of a file, the later ones too
abbrev pub modules_in : ℕ → List Declaration → List Module
modules_in file ds = flat_map (module_in file) ds

-- the modules of the files, in their order
abbrev pub modules_of : List (List Declaration) → List Module
modules_of files = each_from modules_in 0 files

-- a module has its argument as its name
abbrev pub module_entry : ℕ → Module → List Entry
module_entry number m = name_entry number (argument m.statement)

-- the names of the modules, with their numbers
abbrev pub module_entries : List Module → List Entry
module_entries modules = each_from module_entry 0 modules

-- a typedef has its argument as its name
abbrev pub typedef_entry : ℕ → Declaration → List Entry
typedef_entry place d =
    if is_keyword (codes "typedef") d then name_entry place (argument d) else []

-- the names of a module's typedefs, with their places in it
abbrev pub typedef_entries : Module → List Entry
typedef_entries m = each_from typedef_entry 0 (block m.statement)

-- a prefix statement has its argument as its name
abbrev pub prefix_entry : ℕ → Declaration → List Entry
prefix_entry place d =
    if is_keyword (codes "prefix") d then name_entry place (argument d) else []

-- the module's own prefix, or those of an import
abbrev pub prefixes_by : ℕ → Declaration → List Entry
prefixes_by place d =
    if is_keyword (codes "import") d then flat_map (prefix_entry place) (block d)
    else prefix_entry place d

-- the prefixes of a module, with the places in it of the statements that give them
abbrev pub prefix_entries : Module → List Entry
prefix_entries m = each_from prefixes_by 0 (block m.statement)
