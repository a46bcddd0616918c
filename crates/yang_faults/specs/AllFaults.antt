-- All that is wrong with the statements of some files.
use Rattle.std.specs.Prelude.{ℕ, List, [], ◌++◌, Option}
use Rattle.std.specs.Option.{option_map_or}
use Rattle.yang_text.specs.Declarations.{Declaration}
use Rattle.yang_scope.specs.Meanings.{is_module}
use Rattle.yang_scope.specs.Modules.{Module}
use Rattle.yang_scope.specs.Statements.{each_from}
use Rattle.yang_scope.specs.declared.faults.Fault.{Fault}
use Rattle.yang_faults.specs.declared.kinds.Kind.TheVariants.{Module as OfModule}
use Rattle.yang_faults.specs.Files.{in_files, file_faults, modules_twice, tables_twice}
use Rattle.yang_faults.specs.Tests.{Tests}
use Rattle.yang_faults.specs.Types.{settle, named_faults}
use Rattle.yang_faults.specs.Walks.{statement_faults}

-- of a module and all that stands in it, by its number
abbrev pub module_faults_at : List Module → Tests → ℕ → Module → List Fault
module_faults_at modules tests number m =
    statement_faults (is_module modules) (settle modules number)
    (named_faults modules tests m.file number) m.file m.statement OfModule

-- where there is a module of that number
abbrev pub faults_of_module : List Module → ℕ → Option Module → Tests → List Fault
faults_of_module modules number m tests =
    option_map_or (module_faults_at modules tests number) m []

-- of all modules
abbrev pub all_module_faults : List Module → Tests → List Fault
all_module_faults modules tests = each_from (module_faults_at modules tests) 0 modules

-- of what stands outermost in the files, and of the names of modules and tables
abbrev pub all_file_faults : List (List Declaration) → List Fault
all_file_faults files =
    in_files file_faults 0 files ++ (modules_twice files ++ tables_twice files)
