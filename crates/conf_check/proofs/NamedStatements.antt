-- Where nothing is wrong with the statements of a module, each of them has an argument.
use Rattle.std.proofs.Common.{◌≡◌, ℕ, suc, List, [], ◌∷◌, ◌++◌, codes, Option, Some, None, refl, sym, subst, inl, inr}
use Rattle.std.specs.Option.{option_map_or}
use Rattle.yang_text.specs.Declarations.{Declaration, declare, Block, no_more, more, argument, block, declarations, keyword}
use Rattle.yang_scope.specs.Meanings.{is_module}
use Rattle.yang_scope.specs.Modules.{Module, modules_of}
use Rattle.yang_scope.specs.Statements.{children_of, each_from, is_keyword}
use Rattle.yang_scope.specs.declared.faults.Fault.{Fault}
use Rattle.yang_faults.specs.AllFaults.{all_module_faults, module_faults_at}
use Rattle.yang_faults.specs.Rows.{kind_below}
use Rattle.yang_faults.specs.Sentences.{bad_argument}
use Rattle.yang_faults.specs.Tests.{Tests}
use Rattle.yang_faults.specs.Types.{named_faults, settle}
use Rattle.yang_faults.specs.Walks.{block_faults, statement_faults}
use Rattle.yang_model.specs.Answers.{faults}
use Rattle.yang_model.specs.Readers.{Readers}
use Rattle.yang_scope.specs.Nodes.{is_shape}
use Rattle.yang_must.specs.Spots.{ModelContainer, containers_in, containers_of, shapes_of as shapes_in, tables_of}
use Rattle.conf_check.proofs.Members.{In, filter_in, map_in, append_in}

left_none : {A : Type 0} (xs ys : List A) → xs ++ ys ≡ [] → xs ≡ []
left_none [] ys e = refl
left_none (x ∷ xs) ys e = cc

right_none : {A : Type 0} (xs ys : List A) → xs ++ ys ≡ [] → ys ≡ []
right_none [] ys e = e
right_none (x ∷ xs) ys e = cc

module _ (all : List Module) (tests : Tests) (file number : ℕ) where
  given : (kind : _) (o : Option (List ℕ)) (l : ℕ) → bad_argument file kind o l ≡ [] → (s : List ℕ) × (o ≡ Some s)
  given kind None l e = cc
  given kind (Some s) l e = (s, refl)

  pub quiet_given : (d : Declaration) (kind : _) → (statement_faults (is_module all) (settle all number) (named_faults all tests file number) file d kind ≡ []) → (s : List ℕ) × (argument d ≡ Some s)
  quiet_given (declare k a l s e b) kind quiet = given kind a l (left_none _ _ (left_none _ _ quiet))

  below_by : (d : Declaration) (o : _) (f : Fault) → option_map_or (λ k. statement_faults (is_module all) (settle all number) (named_faults all tests file number) file d (settle all number k d)) o (f ∷ []) ≡ []
      → (kind : _) × (statement_faults (is_module all) (settle all number) (named_faults all tests file number) file d kind ≡ [])
  below_by d None f e = cc
  below_by d (Some k) f e = (settle all number k d, e)

  quiet_block : (b : Block) (kind : _) → block_faults (is_module all) (settle all number) (named_faults all tests file number) file b kind ≡ [] → (x : Declaration) → In x (declarations b) → (k : _) × (statement_faults (is_module all) (settle all number) (named_faults all tests file number) file x k ≡ [])
  quiet_block no_more kind quiet x h = absurd h
  quiet_block (more d b) kind quiet x (inl e) =
      let here = below_by d (kind_below kind (keyword d)) _ (left_none _ _ quiet) in
      (here.0, subst (λ z. statement_faults (is_module all) (settle all number) (named_faults all tests file number) file z here.0 ≡ []) (sym e) here.1)
  quiet_block (more d b) kind quiet x (inr h) = quiet_block b kind (right_none _ _ quiet) x h

  pub quiet_in : (d : Declaration) (kind : _) → (statement_faults (is_module all) (settle all number) (named_faults all tests file number) file d kind ≡ []) → (x : Declaration) → In x (block d) → (k : _) × (statement_faults (is_module all) (settle all number) (named_faults all tests file number) file x k ≡ [])
  quiet_in (declare k a l s e b) kind quiet x h = quiet_block b kind (right_none _ _ quiet) x h

module _ (all : List Module) (tests : Tests) where
  -- a container of a module in which nothing is wrong
  in_modules : (number : ℕ) (modules : List Module) → each_from (module_faults_at all tests) number modules ≡ []
      → (x : ModelContainer) → In x (each_from containers_in number modules) → (m : Module) × (n : ℕ) × (module_faults_at all tests n m ≡ []) × In x.statement (block m.statement)
  in_modules number [] quiet x h = absurd h
  in_modules number (m ∷ modules) quiet x h =
      elim (append_in (containers_in number m) (each_from containers_in (suc number) modules) x h) [
        | inl here ↦
            let made = map_in _ (children_of (codes "container") m.statement) x here in
            (m, number, left_none _ _ quiet, subst (λ (z : ModelContainer). In z.statement (block m.statement)) (sym made.2) (filter_in (is_keyword (codes "container")) (block m.statement) made.0 made.1))
        | inr later ↦ in_modules (suc number) modules (right_none _ _ quiet) x later
      ]

  -- each statement of a shape of a table has an argument
  pub statement_given : all_module_faults all tests ≡ [] → (x : ModelContainer) (t s d : Declaration) → In x (containers_of all) → In t (tables_of x.statement) → In s (shapes_in t) → In d (block s)
      → (name : List ℕ) × (argument d ≡ Some name)
  statement_given quiet x t s d in_x in_t in_s in_d =
      let m = in_modules 0 all quiet x in_x in
      let c = quiet_in all tests m.0.file m.1 m.0.statement _ m.2 x.statement m.3 in
      let table = quiet_in all tests m.0.file m.1 x.statement c.0 c.1 t (filter_in (is_keyword (codes "container")) (block x.statement) t in_t) in
      let shape = quiet_in all tests m.0.file m.1 t table.0 table.1 s (filter_in is_shape (block t) s in_s) in
      let field = quiet_in all tests m.0.file m.1 s shape.0 shape.1 d in_d in
      quiet_given all tests m.0.file m.1 d field.0 field.1

  -- so has that of a table
  pub table_given : all_module_faults all tests ≡ [] → (x : ModelContainer) (t : Declaration) → In x (containers_of all) → In t (tables_of x.statement)
      → (name : List ℕ) × (argument t ≡ Some name)
  table_given quiet x t in_x in_t =
      let m = in_modules 0 all quiet x in_x in
      let c = quiet_in all tests m.0.file m.1 m.0.statement _ m.2 x.statement m.3 in
      let table = quiet_in all tests m.0.file m.1 x.statement c.0 c.1 t (filter_in (is_keyword (codes "container")) (block x.statement) t in_t) in
      quiet_given all tests m.0.file m.1 t table.0 table.1

-- nothing is wrong with the modules, where nothing is with the files
pub modules_quiet : (readers : Readers) (files : List (List Declaration)) → faults readers files ≡ [] → all_module_faults (modules_of files) readers.tests ≡ []
modules_quiet readers files quiet = left_none _ _ (right_none _ _ quiet)
