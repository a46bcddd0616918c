-- Each fault of some files is of one of them.
use Rattle.std.proofs.Common.{◌≡◌, ◌<◌, ◌≤◌, ◌+◌, ℕ, suc, Bool, true, false, cond, List, [], ◌∷◌, ◌++◌, map, drop, length, Option, Some, None, refl, sym, subst, arith, codes, bytes_eq, is_some, not, ◌&&◌}
use Rattle.std.specs.List.{flat_map, list_any}
use Rattle.std.specs.Option.{option_map_or}
use Rattle.yang_text.specs.Declarations.{Declaration, declare, Block, no_more, more, keyword, argument, line, block}
use Rattle.yang_text.specs.declared.errors.ModelWhy.TheVariants.{Unsupported, Duplicate, Repeated, BadArgument, UnknownName, Missing, Circle, BadPattern}
use Rattle.yang_types.specs.DataType.{DataType}
use Rattle.yang_types.specs.declared.types.Bounds.{Bounds}
use Rattle.yang_scope.specs.Faults.{fault_at, is_before, least_of}
use Rattle.yang_scope.specs.Meanings.{is_module, meaning_of, base_of}
use Rattle.yang_scope.specs.Modules.{Module, module_in, modules_in}
use Rattle.yang_scope.specs.Paths.{is_path, path_end}
use Rattle.yang_scope.specs.Statements.{is_keyword, each_from}
use Rattle.yang_scope.specs.TypeFaults.{unknown_type, bad_pattern, bad_if_pattern, bad_patterns, wrong_path, wrong_if_path, wrong_paths}
use Rattle.yang_scope.specs.declared.faults.Fault.{Fault}
use Rattle.yang_scope.specs.declared.meanings.Meaning.{Meaning}
use Rattle.yang_scope.specs.declared.meanings.Meaning.TheVariants.{Ends, Goes, Nothing}
use Rattle.yang_values.specs.BoundFaults.{bad_bounds_by, bad_if_bounds, bad_bounds}
use Rattle.yang_values.specs.Defaults.{has_leafref, bad_text}
use Rattle.yang_values.specs.WrittenTypes.{written_type}
use Rattle.yang_values.specs.Values.{is_restriction, restricted_values}
use Rattle.yang_faults.specs.AllFaults.{module_faults_at, all_module_faults, all_file_faults}
use Rattle.yang_faults.specs.DefaultFaults.{bad_default_by, bad_default_in, bad_default_at, bad_defaults}
use Rattle.yang_faults.specs.Duplicates.{Given, given_twice, name_given, given_by, duplicates, duplicates_in, prefixes_given, prefixes_twice}
use Rattle.yang_faults.specs.Fields.{first_of, key_names, is_key_leaf, is_mandatory, default_fault, mandatory_default, field_faults}
use Rattle.yang_faults.specs.Files.{in_files, no_module, no_statements, file_faults, modules_given, modules_twice, tables_of_container, tables_of_module, tables_given, tables_twice}
use Rattle.yang_faults.specs.Keys.{names_in, wrong_number, name_in_key, named_twice, unknown_leaf, key_faults, key_text_faults, key_statement_faults, leaf_name, keys_faults}
use Rattle.yang_faults.specs.Own.{misnamed, unknown_import, own_faults, sentence_faults}
use Rattle.yang_faults.specs.Rows.{Allowed, row, needs, givers, kind_below}
use Rattle.yang_faults.specs.Sentences.{children, repeated, repeated_in, missing_one, missing_in, bad_argument}
use Rattle.yang_faults.specs.Tests.{Tests}
use Rattle.yang_faults.specs.Types.{settle, type_faults, all_type_faults, named_faults}
use Rattle.yang_faults.specs.Walks.{statement_faults, block_faults}
use Rattle.yang_faults.specs.declared.kinds.Kind.{Kind}
use Rattle.yang_faults.specs.declared.kinds.Kind.TheVariants.{File, Module as OfModule, Import, TableList, FixedContainer, TextType, NumberType, EnumerationType, LeafrefType, UnionType, PlainType, UnknownType}

-- each element
abbrev pub Each : {X : Type 0} → (X → Type 0) → List X → Type 0
Each P [] = Unit {0}
Each P (x ∷ xs) = P x × Each P xs

module _ {X : Type 0} (P : X → Type 0) where
  pub each_two : (xs ys : List X) → Each P xs → Each P ys → Each P (xs ++ ys)
  each_two [] ys a b = b
  each_two (x ∷ xs) ys a b = (a.0, each_two xs ys a.1 b)

  pub each_flat : {Y : Type 0} (f : Y → List X) → ((y : Y) → Each P (f y)) → (ys : List Y) → Each P (flat_map f ys)
  each_flat f all [] = tt
  each_flat f all (y ∷ ys) = each_two (f y) (flat_map f ys) (all y) (each_flat f all ys)

  pub each_if : (b : Bool) (xs ys : List X) → Each P xs → Each P ys → Each P (cond b xs ys)
  each_if true xs ys a b = a
  each_if false xs ys a b = b

  pub each_given : {Y : Type 0} (f : Y → List X) → ((y : Y) → Each P (f y)) → (xs : List X) → Each P xs → (o : Option Y) → Each P (option_map_or f o xs)
  each_given f all xs a None = a
  each_given f all xs a (Some y) = all y

  pub each_mapped : {Y : Type 0} (f : Y → X) → ((y : Y) → P (f y)) → (ys : List Y) → Each P (map f ys)
  each_mapped f all [] = tt
  each_mapped f all (y ∷ ys) = (all y, each_mapped f all ys)

-- the least of faults is one of them
pub each_least : (P : Fault → Type 0) (fs : List Fault) (f : Fault) → Each P fs → least_of None fs ≡ Some f → P f
each_least P [] f each is = cc is
each_least P (g ∷ fs) f each is = on fs g each.0 each.1 is
  where
    either : (b : Bool) (g h : Fault) → P g → P h → (k : Fault) × (cond b (Some g) (Some h) ≡ Some k) × P k
    either true g h p q = (g, refl, p)
    either false g h p q = (h, refl, q)

    on : (fs : List Fault) (g : Fault) → P g → Each P fs → least_of (Some g) fs ≡ Some f → P f
    on [] g p each is = let same : g ≡ f = cc is in subst P same p
    on (h ∷ fs) g p each is =
        let (k, next, q) = either (is_before h g) h g each.0 p in
        on fs k q each.1 (subst (λ (o : Option Fault). least_of o fs ≡ Some f) next is)

module _ (file : ℕ) where
  -- faults of the file
  abbrev pub In : List Fault → Type 0
  In fs = Each (λ (f : Fault). f.file ≡ file) fs

  abbrev GivenIn : List Given → Type 0
  GivenIn gs = Each (λ (g : Given). g.1.file ≡ file) gs

  pub one_if : (b : Bool) (f : Fault) → f.file ≡ file → In (cond b (f ∷ []) [])
  one_if true f is = (is, tt)
  one_if false f is = tt

  one_unless : (b : Bool) (f : Fault) → f.file ≡ file → In (cond b [] (f ∷ []))
  one_unless true f is = tt
  one_unless false f is = (is, tt)

  pub two : (xs ys : List Fault) → In xs → In ys → In (xs ++ ys)
  two xs ys a b = each_two (λ (f : Fault). f.file ≡ file) xs ys a b

  flat : {Y : Type 0} (f : Y → List Fault) → ((y : Y) → In (f y)) → (ys : List Y) → In (flat_map f ys)
  flat f all ys = each_flat (λ (f : Fault). f.file ≡ file) f all ys

  choice : (b : Bool) (xs ys : List Fault) → In xs → In ys → In (cond b xs ys)
  choice b xs ys p q = each_if (λ (f : Fault). f.file ≡ file) b xs ys p q

  pub given : {Y : Type 0} (f : Y → List Fault) → ((y : Y) → In (f y)) → (o : Option Y) → In (option_map_or f o [])
  given f all o = each_given (λ (f : Fault). f.file ≡ file) f all [] tt o

  -- names that are given twice
  twice_in : (earlier : List (List ℕ)) (gs : List Given) → GivenIn gs → In (given_twice earlier gs)
  twice_in earlier [] a = tt
  twice_in earlier (g ∷ gs) a =
      two (cond (list_any (bytes_eq g.0) earlier) (g.1 ∷ []) []) (given_twice (g.0 ∷ earlier) gs)
      (one_if (list_any (bytes_eq g.0) earlier) g.1 a.0) (twice_in (g.0 ∷ earlier) gs a.1)

  name_given_in : (o : Option (List ℕ)) (f : Fault) → f.file ≡ file → GivenIn (name_given o f)
  name_given_in None f is = tt
  name_given_in (Some name) f is = (is, tt)

  pub given_by_in : (words : List (List ℕ)) (d : Declaration) → GivenIn (given_by file words d)
  given_by_in words d =
      each_if (λ (g : Given). g.1.file ≡ file) (list_any (bytes_eq (keyword d)) words) (name_given (argument d) (fault_at file Duplicate d)) []
      (name_given_in (argument d) (fault_at file Duplicate d) refl) tt

  all_given_in : (words : List (List ℕ)) (ds : List Declaration) → GivenIn (flat_map (given_by file words) ds)
  all_given_in words ds = each_flat (λ (g : Given). g.1.file ≡ file) (given_by file words) (given_by_in words) ds

  duplicates_are_in : (kind : Kind) (ds : List Declaration) → In (duplicates_in file kind ds)
  duplicates_are_in kind ds =
      flat (duplicates file ds) (λ words. twice_in [] (flat_map (given_by file words) ds) (all_given_in words ds)) (givers kind)

  prefixes_given_in : (d : Declaration) → GivenIn (prefixes_given file d)
  prefixes_given_in d =
      each_if (λ (g : Given). g.1.file ≡ file) (bytes_eq (keyword d) (codes "import"))
      (flat_map (given_by file (codes "prefix" ∷ [])) (block d)) (given_by file (codes "prefix" ∷ []) d)
      (all_given_in (codes "prefix" ∷ []) (block d)) (given_by_in (codes "prefix" ∷ []) d)

  prefixes_in : (ds : List Declaration) → In (prefixes_twice file ds)
  prefixes_in ds =
      twice_in [] (flat_map (prefixes_given file) ds)
      (each_flat (λ (g : Given). g.1.file ≡ file) (prefixes_given file) prefixes_given_in ds)

  -- by the table of statements
  pub repeated_are_in : (kind : Kind) (ds : List Declaration) → In (repeated_in file kind ds)
  repeated_are_in kind ds =
      flat _ (λ (e : Allowed). choice e.single (repeated file e.keyword ds) []
      (each_mapped (λ (f : Fault). f.file ≡ file) (fault_at file Repeated) (λ d. refl) (drop 1 (children e.keyword ds))) tt) (row kind)

  missing_are_in : (kind : Kind) (l : ℕ) (ds : List Declaration) → In (missing_in file kind l ds)
  missing_are_in kind l ds = flat (missing_one file l ds) (λ names. one_unless (list_any (λ d. list_any (bytes_eq (keyword d)) names) ds) (record { file = file; line = l; why = Missing }) refl) (needs kind)

  argument_in : (kind : Kind) (o : Option (List ℕ)) (l : ℕ) → In (bad_argument file kind o l)
  argument_in kind None l = (refl, tt)
  argument_in kind (Some s) l = one_unless _ _ refl

  -- keys and fields
  number_in : (l : ℕ) (names : List (List ℕ)) → In (wrong_number file l names)
  number_in l [] = (refl, tt)
  number_in l (name ∷ names) = one_if _ _ refl

  key_in : (l : ℕ) (leaves names : List (List ℕ)) → In (key_faults file l leaves names)
  key_in l leaves names =
      two (wrong_number file l names) (named_twice file l names ++ flat_map (unknown_leaf file l leaves) names) (number_in l names)
      (two (named_twice file l names) (flat_map (unknown_leaf file l leaves) names)
      (twice_in [] (map (name_in_key file l) names) (each_mapped (λ (g : Given). g.1.file ≡ file) (name_in_key file l) (λ name. refl) names))
      (flat (unknown_leaf file l leaves) (λ name. one_unless _ _ refl) names))

  key_text_in : (l : ℕ) (leaves : List (List ℕ)) (o : Option (List ℕ)) → In (key_text_faults file l leaves o)
  key_text_in l leaves None = tt
  key_text_in l leaves (Some key) = key_in l leaves (names_in key)

  keys_in : (ds : List Declaration) → In (keys_faults file ds)
  keys_in ds =
      flat (key_statement_faults file (flat_map leaf_name ds))
      (λ d. choice (bytes_eq (keyword d) (codes "key")) _ [] (key_text_in (line d) (flat_map leaf_name ds) (argument d)) tt) ds

  default_in : (wrong : Bool) (o : Option Declaration) → In (default_fault file wrong o)
  default_in wrong None = tt
  default_in wrong (Some d) = one_if _ _ refl

  field_in : (keys : List (List ℕ)) (d : Declaration) → In (field_faults file keys d)
  field_in keys d =
      choice (bytes_eq (keyword d) (codes "leaf") && not (is_key_leaf keys (argument d))) (mandatory_default file (block d)) []
      (default_in (is_mandatory (block d)) (first_of (codes "default") (block d))) tt

  -- sentences of a kind alone
  import_in : (knows : List ℕ → Bool) (d : Declaration) (o : Option (List ℕ)) → In (unknown_import knows file d o)
  import_in knows d None = tt
  import_in knows d (Some name) = one_unless _ _ refl

  own_in : (knows : List ℕ → Bool) (kind : Kind) (d : Declaration) → In (own_faults knows file kind d)
  own_in knows OfModule d =
      two (flat_map (misnamed file (argument d)) (block d)) (prefixes_twice file (block d))
      (flat (misnamed file (argument d)) (λ e. one_if _ _ refl) (block d)) (prefixes_in (block d))
  own_in knows Import d = import_in knows d (argument d)
  own_in knows TableList d =
      two (keys_faults file (block d)) (flat_map (field_faults file (key_names (block d))) (block d))
      (keys_in (block d)) (flat (field_faults file (key_names (block d))) (field_in (key_names (block d))) (block d))
  own_in knows FixedContainer d = flat (field_faults file []) (field_in []) (block d)
  own_in knows kind d = tt

  module _ (knows : List ℕ → Bool) (settles : Kind → Declaration → Kind) (named : Kind → Declaration → List Fault) (named_in : (kind : Kind) (d : Declaration) → In (named kind d)) where
    sentences_in : (kind : Kind) (d : Declaration) → In (sentence_faults knows named file kind d)
    sentences_in kind d =
        two _ _ (argument_in kind (argument d) (line d))
        (two _ _ (repeated_are_in kind (block d))
        (two _ _ (missing_are_in kind (line d) (block d))
        (two _ _ (duplicates_are_in kind (block d))
        (two _ _ (own_in knows kind d) (named_in kind d)))))

    mutual
      pub statement_in : (d : Declaration) (kind : Kind) → In (statement_faults knows settles named file d kind)
      statement_in (declare k a l s e b) kind =
          two _ _ (sentences_in kind (declare k a l s e b)) (block_in b kind)

      block_in : (b : Block) (kind : Kind) → In (block_faults knows settles named file b kind)
      block_in no_more kind = tt
      block_in (more d b) kind =
          two _ _
          (each_given (λ (f : Fault). f.file ≡ file) (λ k. statement_faults knows settles named file d (settles k d)) (λ k. statement_in d (settles k d)) (fault_at file Unsupported d ∷ []) (refl, tt) (kind_below kind (keyword d)))
          (block_in b kind)

  -- by what names stand for
  module _ (modules : List Module) (tests : Tests) (m : ℕ) where
    unknown_in : (d : Declaration) → In (unknown_type modules file m d)
    unknown_in (declare k None l s e b) = tt
    unknown_in (declare k (Some name) l s e b) = by (meaning_of modules m name) refl
      where
        by : (x : Meaning) → meaning_of modules m name ≡ x → In (unknown_type modules file m (declare k (Some name) l s e b))
        by Nothing is = rw is (refl, tt)
        by (Ends base) is = rw is tt
        by (Goes n place) is = rw is tt

    patterns_in : (d : Declaration) → In (bad_patterns tests.is_pattern file d)
    patterns_in d =
        flat (bad_if_pattern tests.is_pattern file)
        (λ e. choice (is_keyword (codes "pattern") e) (bad_pattern tests.is_pattern file e) []
        (given (λ s. cond (tests.is_pattern s) [] (fault_at file BadPattern e ∷ [])) (λ s. one_unless (tests.is_pattern s) (fault_at file BadPattern e) refl) (argument e)) tt)
        (block d)

    bounds_by_in : (values : List Bounds) (e : Declaration) (o : Option (List ℕ)) → In (bad_bounds_by values file e o)
    bounds_by_in values e None = tt
    bounds_by_in values e (Some s) = one_unless _ _ refl

    bounds_in : (d : Declaration) → In (bad_bounds modules file m d)
    bounds_in d =
        flat (bad_if_bounds (base_of modules m (argument d)) (restricted_values modules m d) file)
        (λ e. choice (is_restriction (base_of modules m (argument d)) e) (bad_bounds_by (restricted_values modules m d) file e (argument e)) []
        (bounds_by_in (restricted_values modules m d) e (argument e)) tt)
        (block d)

    path_in : (e : Declaration) (s : List ℕ) → In (wrong_path modules file m e s)
    path_in e s = choice (is_path s) _ (fault_at file BadArgument e ∷ []) (one_unless (is_some (path_end modules m s)) (fault_at file UnknownName e) refl) (refl, tt)

    paths_in : (d : Declaration) → In (wrong_paths modules file m d)
    paths_in d =
        flat (wrong_if_path modules file m)
        (λ e. choice (is_keyword (codes "path") e) _ [] (given (wrong_path modules file m e) (path_in e) (argument e)) tt)
        (block d)

    type_in : (kind : Kind) (d : Declaration) → In (type_faults modules tests file m kind d)
    type_in UnknownType d = two _ _ (unknown_in d) (two _ _ (patterns_in d) (bounds_in d))
    type_in TextType d = two _ _ (patterns_in d) (bounds_in d)
    type_in NumberType d = bounds_in d
    type_in LeafrefType d = paths_in d
    type_in kind d = tt

    any_type_in : (kind : Kind) (d : Declaration) → In (all_type_faults modules tests file m kind d)
    any_type_in kind d = two _ _ (one_if (tests.is_on_circle modules (m, d)) (fault_at file Circle d) refl) (type_in kind d)

    text_in : (t : DataType) (e : Declaration) (s : List ℕ) → In (bad_text tests.accepts file t e s)
    text_in t e s = choice (has_leafref t) (fault_at file BadArgument e ∷ []) _ (refl, tt) (one_unless (tests.accepts t s) (fault_at file BadArgument e) refl)

    default_by_in : (o p : Option Declaration) → In (bad_default_by modules tests file m o p)
    default_by_in None p = tt
    default_by_in (Some d) None = tt
    default_by_in (Some d) (Some t) = given (bad_text tests.accepts file (written_type tests.is_pattern modules m t) d) (text_in (written_type tests.is_pattern modules m t) d) (argument d)

    defaults_in : (keys : List (List ℕ)) (ds : List Declaration) → In (bad_defaults modules tests file m keys ds)
    defaults_in keys ds =
        flat (bad_default_at modules tests file m keys)
        (λ d. choice (bytes_eq (keyword d) (codes "leaf") && not (is_key_leaf keys (argument d))) (bad_default_in modules tests file m (block d)) []
        (default_by_in (first_of (codes "default") (block d)) (first_of (codes "type") (block d))) tt)
        ds

    pub named_in : (kind : Kind) (d : Declaration) → In (named_faults modules tests file m kind d)
    named_in UnknownType d = any_type_in UnknownType d
    named_in TextType d = any_type_in TextType d
    named_in NumberType d = any_type_in NumberType d
    named_in EnumerationType d = any_type_in EnumerationType d
    named_in LeafrefType d = any_type_in LeafrefType d
    named_in UnionType d = any_type_in UnionType d
    named_in PlainType d = any_type_in PlainType d
    named_in TableList d = defaults_in (key_names (block d)) (block d)
    named_in FixedContainer d = defaults_in [] (block d)
    named_in kind d = tt

-- a module's faults are of its file
module_in_file : (modules : List Module) (tests : Tests) (number : ℕ) (m : Module) → Each (λ (f : Fault). f.file ≡ m.file) (module_faults_at modules tests number m)
module_in_file modules tests number m =
    statement_in m.file (is_module modules) (settle modules number) (named_faults modules tests m.file number) (named_in m.file modules tests number) m.statement OfModule

-- of several files
pub each_weaker : {X : Type 0} (P Q : X → Type 0) → ((x : X) → P x → Q x) → (xs : List X) → Each P xs → Each Q xs
each_weaker P Q to [] a = tt
each_weaker P Q to (x ∷ xs) a = (to x a.0, each_weaker P Q to xs a.1)

pub each_numbered : {X Y : Type 0} (P : X → Type 0) (Q : Y → Type 0) (f : ℕ → X → List Y) → ((n : ℕ) (x : X) → P x → Each Q (f n x)) → (n : ℕ) (xs : List X) → Each P xs → Each Q (each_from f n xs)
each_numbered P Q f all n [] a = tt
each_numbered P Q f all n (x ∷ xs) a = each_two Q (f n x) (each_from f (suc n) xs) (all n x a.0) (each_numbered P Q f all (suc n) xs a.1)

module _ (count : ℕ) where
  abbrev pub Below : List Fault → Type 0
  Below fs = Each (λ (f : Fault). f.file < count) fs

  pub below : (file : ℕ) → file < count → (fs : List Fault) → Each (λ (f : Fault). f.file ≡ file) fs → Below fs
  below file within fs a = each_weaker (λ (f : Fault). f.file ≡ file) (λ (f : Fault). f.file < count) (λ f is. subst (λ n. n < count) (sym is) within) fs a

  pub modules_below : (n : ℕ) (files : List (List Declaration)) → n + length files ≤ count → Each (λ (m : Module). m.file < count) (each_from modules_in n files)
  modules_below n [] within = tt
  modules_below n (ds ∷ files) within =
      each_two (λ (m : Module). m.file < count) (modules_in n ds) (each_from modules_in (suc n) files)
      (each_flat (λ (m : Module). m.file < count) (module_in n)
      (λ d. each_if (λ (m : Module). m.file < count) (is_keyword (codes "module") d) (record { file = n; statement = d } ∷ []) [] (omega arith, tt) tt) ds)
      (modules_below (suc n) files (omega arith))

  in_all_files : {X : Type 0} (P : X → Type 0) (give : ℕ → List Declaration → List X) → ((file : ℕ) (ds : List Declaration) → file < count → Each P (give file ds))
      → (n : ℕ) (files : List (List Declaration)) → n + length files ≤ count → Each P (in_files give n files)
  in_all_files P give all n [] within = tt
  in_all_files P give all n (ds ∷ files) within =
      each_two P (give n ds) (in_files give (n + 1) files) (all n ds (omega arith)) (in_all_files P give all (n + 1) files (omega arith))

  -- the names that files give twice
  abbrev GivenBelow : List Given → Type 0
  GivenBelow gs = Each (λ (g : Given). g.1.file < count) gs

  twice_below : (earlier : List (List ℕ)) (gs : List Given) → GivenBelow gs → Below (given_twice earlier gs)
  twice_below earlier [] a = tt
  twice_below earlier (g ∷ gs) a =
      each_two (λ (f : Fault). f.file < count) (cond (list_any (bytes_eq g.0) earlier) (g.1 ∷ []) []) (given_twice (g.0 ∷ earlier) gs)
      (each_if (λ (f : Fault). f.file < count) (list_any (bytes_eq g.0) earlier) (g.1 ∷ []) [] (a.0, tt) tt) (twice_below (g.0 ∷ earlier) gs a.1)

  given_below : (file : ℕ) → file < count → (gs : List Given) → Each (λ (g : Given). g.1.file ≡ file) gs → GivenBelow gs
  given_below file within gs a = each_weaker (λ (g : Given). g.1.file ≡ file) (λ (g : Given). g.1.file < count) (λ g is. subst (λ n. n < count) (sym is) within) gs a

  file_in : (file : ℕ) (ds : List Declaration) → Each (λ (f : Fault). f.file ≡ file) (file_faults file ds)
  file_in file ds =
      each_two P (no_statements file ds) (repeated_in file File ds ++ flat_map (no_module file) ds) (empty_in ds)
      (each_two P (repeated_in file File ds) (flat_map (no_module file) ds) (repeated_are_in file File ds)
      (each_flat P (no_module file) (λ d. each_if P (bytes_eq (keyword d) (codes "module")) [] (fault_at file Unsupported d ∷ []) tt (refl, tt)) ds))
    where
      P : Fault → Type 0
      P f = f.file ≡ file

      empty_in : (ds : List Declaration) → Each P (no_statements file ds)
      empty_in [] = (refl, tt)
      empty_in (d ∷ ds) = tt

  tables_in_file : (file : ℕ) (ds : List Declaration) → Each (λ (g : Given). g.1.file ≡ file) (tables_given file ds)
  tables_in_file file ds =
      each_flat P (tables_of_module file)
      (λ d. each_if P (bytes_eq (keyword d) (codes "module")) (flat_map (tables_of_container file) (block d)) []
      (each_flat P (tables_of_container file)
      (λ e. each_if P (bytes_eq (keyword e) (codes "container")) (flat_map (given_by file (codes "container" ∷ [])) (block e)) []
      (each_flat P (given_by file (codes "container" ∷ [])) (given_by_in file (codes "container" ∷ [])) (block e)) tt)
      (block d)) tt)
      ds
    where
      P : Given → Type 0
      P g = g.1.file ≡ file

  pub files_below : (files : List (List Declaration)) → length files ≤ count → Below (all_file_faults files)
  files_below files within =
      let all : 0 + length files ≤ count = omega arith in
      each_two P (in_files file_faults 0 files) (modules_twice files ++ tables_twice files)
      (in_all_files P file_faults (λ file ds low. below file low (file_faults file ds) (file_in file ds)) 0 files all)
      (each_two P (modules_twice files) (tables_twice files)
      (twice_below [] (in_files modules_given 0 files)
      (in_all_files (λ (g : Given). g.1.file < count) modules_given
      (λ file ds low. given_below file low (modules_given file ds) (each_flat (λ (g : Given). g.1.file ≡ file) (given_by file (codes "module" ∷ [])) (given_by_in file (codes "module" ∷ [])) ds)) 0 files all))
      (twice_below [] (in_files tables_given 0 files)
      (in_all_files (λ (g : Given). g.1.file < count) tables_given (λ file ds low. given_below file low (tables_given file ds) (tables_in_file file ds)) 0 files all)))
    where
      P : Fault → Type 0
      P f = f.file < count

  abbrev pub AreBelow : List Module → Type 0
  AreBelow modules = Each (λ (m : Module). m.file < count) modules

  pub all_modules_below : (modules : List Module) (tests : Tests) → AreBelow modules → Below (all_module_faults modules tests)
  all_modules_below modules tests are =
      each_numbered (λ (m : Module). m.file < count) (λ (f : Fault). f.file < count) (module_faults_at modules tests)
      (λ n m low. below m.file low (module_faults_at modules tests n m) (module_in_file modules tests n m)) 0 modules are
