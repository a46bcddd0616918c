-- Each fault of some files, those of musts too, is of one of them.
use Rattle.std.proofs.Common.{◌≡◌, ◌<◌, ◌++◌, ℕ, List, [], ◌∷◌, length, codes, Option, refl, arith}
use Rattle.std.specs.List.{flat_map, list_any}
use Rattle.yang_text.specs.Declarations.{Declaration, argument, block}
use Rattle.yang_text.specs.declared.errors.ModelWhy.TheVariants.{UnknownName, BadExpr}
use Rattle.xpath_part.specs.Expression.{Expression}
use Rattle.yang_scope.specs.Faults.{fault_at}
use Rattle.yang_scope.specs.Modules.{Module, modules_of}
use Rattle.yang_scope.specs.Statements.{is_keyword, children_of}
use Rattle.yang_scope.specs.declared.faults.Fault.{Fault}
use Rattle.yang_must.specs.Musts.{route_faults, must_faults, if_must, if_leaf, in_shape_faults, shape_faults, table_faults, container_faults, all_must_faults}
use Rattle.yang_must.specs.Routes.{Route, routes, names_nothing, ends_badly}
use Rattle.yang_must.specs.Spots.{Spot, shape, leaf, ModelContainer, container_at, containers_in, containers_of, tables_of, shapes_of}
use Rattle.yang_faults.specs.AllFaults.{all_module_faults, all_file_faults}
use Rattle.yang_faults.proofs.FaultFiles.{Each, each_two, each_flat, each_if, each_given, each_mapped, each_numbered, In, one_if, two, given, Below, AreBelow, below, modules_below, files_below, all_modules_below}
use Rattle.yang_model.specs.Answers.{faults}
use Rattle.yang_model.specs.Readers.{Readers}

module _ (file : ℕ) (read : List ℕ → Option Expression) (modules : List Module) (number : ℕ) where
  routes_in : (d : Declaration) (rs : List Route) → In file (route_faults modules file number d rs)
  routes_in d rs = two file _ _ (one_if file (list_any (names_nothing modules number) rs) (fault_at file UnknownName d) refl) (one_if file (list_any (ends_badly modules number) rs) (fault_at file BadExpr d) refl)

  must_in : (spot : Spot) (d : Declaration) → In file (must_faults read modules file number spot d)
  must_in spot d =
      given file _
      (λ s. each_given (λ (f : Fault). f.file ≡ file) (λ e. route_faults modules file number d (routes modules number spot e spot)) (λ e. routes_in d (routes modules number spot e spot)) (fault_at file BadExpr d ∷ []) (refl, tt) (read s))
      (argument d)

if_must_in : (read : List ℕ → Option Expression) (modules : List Module) (x : ModelContainer) (spot : Spot) (d : Declaration) → Each (λ (f : Fault). f.file ≡ x.file) (if_must read modules x spot d)
if_must_in read modules x spot d = each_if (λ (f : Fault). f.file ≡ x.file) (is_keyword (codes "must") d) (must_faults read modules x.file x.number spot d) [] (must_in x.file read modules x.number spot d) tt

if_leaf_in : (read : List ℕ → Option Expression) (modules : List Module) (x : ModelContainer) (spot : Spot) (d : Declaration) → Each (λ (f : Fault). f.file ≡ x.file) (if_leaf read modules x spot d)
if_leaf_in read modules x spot d =
    each_if (λ (f : Fault). f.file ≡ x.file) (is_keyword (codes "leaf") d) (flat_map (if_must read modules x spot) (block d)) []
    (each_flat (λ (f : Fault). f.file ≡ x.file) (if_must read modules x spot) (if_must_in read modules x spot) (block d)) tt

container_in_file : (read : List ℕ → Option Expression) (modules : List Module) (x : ModelContainer) → Each (λ (f : Fault). f.file ≡ x.file) (container_faults read modules x)
container_in_file read modules x =
    each_flat P (table_faults read modules x)
    (λ t. each_flat P (shape_faults read modules x t)
    (λ s. each_flat P (in_shape_faults read modules x t s)
    (λ d. each_two P (if_must read modules x (shape x.statement t s) d) (if_leaf read modules x (leaf x.statement t s d) d)
    (if_must_in read modules x (shape x.statement t s) d) (if_leaf_in read modules x (leaf x.statement t s d) d))
    (block s))
    (shapes_of t))
    (tables_of x.statement)
  where
    P : Fault → Type 0
    P f = f.file ≡ x.file

all_musts_below : (count : ℕ) (read : List ℕ → Option Expression) (modules : List Module) → AreBelow count modules → Below count (all_must_faults read modules)
all_musts_below count read modules are =
    each_flat_of (container_faults read modules) (containers_of modules)
    (each_numbered (λ (m : Module). m.file < count) (λ (x : ModelContainer). x.file < count) containers_in
    (λ n m low. each_mapped (λ (x : ModelContainer). x.file < count) (container_at m.file n) (λ d. low) (children_of (codes "container") m.statement)) 0 modules are)
  where
    each_flat_of : (f : ModelContainer → List Fault) (xs : List ModelContainer) → Each (λ (x : ModelContainer). x.file < count) xs → Below count (flat_map (container_faults read modules) xs)
    each_flat_of f [] a = tt
    each_flat_of f (x ∷ xs) a = each_two (λ (f : Fault). f.file < count) (container_faults read modules x) (flat_map (container_faults read modules) xs) (below count x.file a.0 (container_faults read modules x) (container_in_file read modules x)) (each_flat_of f xs a.1)

-- all that is wrong with some files is of one of them
pub faults_below : (readers : Readers) (files : List (List Declaration)) → Each (λ (f : Fault). f.file < length files) (faults readers files)
faults_below readers files =
    let count = length files in
    let modules = modules_of files in
    let are : AreBelow count modules = modules_below count 0 files (omega arith) in
    each_two (λ (f : Fault). f.file < count) (all_file_faults files) (all_module_faults modules readers.tests ++ all_must_faults readers.read modules) (files_below count files (omega arith))
    (each_two (λ (f : Fault). f.file < count) (all_module_faults modules readers.tests) (all_must_faults readers.read modules)
    (all_modules_below count modules readers.tests are) (all_musts_below count readers.read modules are))
