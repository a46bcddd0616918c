-- The statements within a statement, and those that a type statement of some modules can lead to.
use Rattle.std.proofs.Common.{◌≡◌, ◌⊎◌, inl, inr, ◌+◌, ℕ, zero, suc, Bool, true, false, cond, List, [], ◌∷◌, ◌++◌, slice_get, Option, Some, None, option_map, option_and_then, option_to_list, codes, filter, find, refl, sym, ap, ◌∙◌, subst, arith}
use Rattle.std.specs.Prelude.{Contains}
use Rattle.std.specs.List.{list_all}
use Rattle.std.specs.Option.{option_map_or}
use Rattle.std.proofs.lemmas.List.Elements.{Contains-append_left, Contains-append_right, Contains-append_cases}
use Rattle.yang_pattern.proofs.TokenSources.{map_some, then_some}
use Rattle.yang_text.specs.Declarations.{Declaration, declare, Block, no_more, more, declarations, argument, block}
use Rattle.yang_scope.specs.Meanings.{type_meaning, statement_at}
use Rattle.yang_scope.specs.Modules.{Module}
use Rattle.yang_scope.specs.Paths.{Placed, path_end, leaf_at_end, key_leaf, key_leaf_below, key_leaf_in, is_key_of, container_named, first_given, child_named, is_prefix_given, step_name}
use Rattle.yang_scope.specs.Pieces.{pieces}
use Rattle.yang_scope.specs.Statements.{is_keyword, first_child, children_of}
use Rattle.yang_scope.specs.declared.bases.Base.TheVariants.{Leafref, Union}
use Rattle.yang_scope.specs.declared.meanings.Meaning.{Meaning}
use Rattle.yang_scope.specs.declared.meanings.Meaning.TheVariants.{Ends, Goes, Nothing}
use Rattle.yang_values.specs.TypeValues.{placed_in, path_of, leaf_types, next_by, next}
use Rattle.yang_values.specs.Values.{typedef_type}
use Rattle.yang_values.proofs.ReachableTypes.{no_element}

-- elements of lists
first_one : {X : Type 0} (x : X) (xs : List X) → Contains (x ∷ xs) x
first_one x xs = (0, omega arith, refl)

later : {X : Type 0} (x y : X) (xs : List X) → Contains xs y → Contains (x ∷ xs) y
later x y xs (k, below, is) = (suc k, omega (arith, below), is)

first_or_later : {X : Type 0} (x y : X) (xs : List X) → Contains (x ∷ xs) y → (x ≡ y) ⊎ Contains xs y
first_or_later x y xs (zero, below, is) = inl is
first_or_later x y xs (suc k, below, is) = inr (k, omega (arith, below), is)

found : {X : Type 0} (test : X → Bool) (xs : List X) (y : X) → find test xs ≡ Some y → Contains xs y
found test [] y e = cc e
found {X = X} test (x ∷ xs) y e = by (λ h. found test xs y h) (test x) e
  where
    by : (find test xs ≡ Some y → Contains xs y) → (b : Bool) → cond b (Some x) (find test xs) ≡ Some y → Contains (x ∷ xs) y
    by behind true e = let is : x ≡ y = cc e in subst (λ z. Contains (x ∷ xs) z) is (first_one x xs)
    by behind false e = later x y xs (behind e)

kept : {X : Type 0} (test : X → Bool) (xs : List X) (y : X) → Contains (filter test xs) y → Contains xs y
kept test [] y c = c
kept {X = X} test (x ∷ xs) y c = by (λ h. kept test xs y h) (test x) c
  where
    by : (Contains (filter test xs) y → Contains xs y) → (b : Bool) → Contains (cond b (x ∷ filter test xs) (filter test xs)) y → Contains (x ∷ xs) y
    by behind true c = elim (first_or_later x y (filter test xs) c) [
      | inl is ↦ subst (λ z. Contains (x ∷ xs) z) is (first_one x xs)
      | inr rest ↦ later x y xs (behind rest)
    ]
    by behind false c = later x y xs (behind c)

listed : {X : Type 0} (o : Option X) (y : X) → Contains (option_to_list o) y → o ≡ Some y
listed None y c = absurd (no_element y c)
listed (Some x) y c = elim (first_or_later x y [] c) [ inl is ↦ ap Some is | inr none ↦ absurd (no_element y none) ]

given : {X Y : Type 0} (f : X → List Y) (o : Option X) (y : Y) → Contains (option_map_or f o []) y → (x : X) × (o ≡ Some x) × Contains (f x) y
given f None y c = absurd (no_element y c)
given f (Some x) y c = (x, refl, c)

in_module : (m : ℕ) (ds : List Declaration) (q : Placed) → Contains (placed_in m ds) q → (m ≡ q.0) × Contains ds q.1
in_module m [] q c = absurd (no_element q c)
in_module m (d ∷ ds) q c = elim (first_or_later (m, d) q (placed_in m ds) c) [
  | inl is ↦ (ap (λ r. r.0) is, subst (λ e. Contains (d ∷ ds) e) (ap (λ r. r.1) is) (first_one d ds))
  | inr behind ↦ let rest = in_module m ds q behind in (rest.0, later d q.1 ds rest.1)
]

to_module : (m : ℕ) (ds : List Declaration) (d : Declaration) → Contains ds d → Contains (placed_in m ds) (m, d)
to_module m [] d c = absurd (no_element d c)
to_module m (e ∷ ds) d c = elim (first_or_later e d ds c) [
  | inl is ↦ subst (λ x. Contains (placed_in m (e ∷ ds)) (m, x)) is (first_one (m, e) (placed_in m ds))
  | inr behind ↦ later (m, e) (m, d) (placed_in m ds) (to_module m ds d behind)
]

abbrev mutual
  -- a statement and all within it
  pub nested : Declaration → List Declaration
  nested (declare k a l s e b) = declare k a l s e b ∷ nested_block b

  pub nested_block : Block → List Declaration
  nested_block no_more = []
  nested_block (more d b) = nested d ++ nested_block b

nested_itself : (d : Declaration) → Contains (nested d) d
nested_itself (declare k a l s e b) = first_one (declare k a l s e b) (nested_block b)

in_block : (b : Block) (d : Declaration) → Contains (declarations b) d → Contains (nested_block b) d
in_block no_more d c = c
in_block (more x b) d c = elim (first_or_later x d (declarations b) c) [
  | inl is ↦ Contains-append_left (nested x) (nested_block b) d (subst (λ y. Contains (nested x) y) is (nested_itself x))
  | inr rest ↦ Contains-append_right (nested x) (nested_block b) d (in_block b d rest)
]

mutual
  -- what stands in a statement within another one is within it too
  nested_within : (d x y : Declaration) → Contains (nested d) x → Contains (block x) y → Contains (nested d) y
  nested_within (declare k a l s e b) x y c inner = elim (first_or_later (declare k a l s e b) x (nested_block b) c) [
    | inl is ↦ later (declare k a l s e b) y (nested_block b) (in_block b y (subst (λ z. Contains (block z) y) (sym is) inner))
    | inr rest ↦ later (declare k a l s e b) y (nested_block b) (block_within b x y rest inner)
  ]

  block_within : (b : Block) (x y : Declaration) → Contains (nested_block b) x → Contains (block x) y → Contains (nested_block b) y
  block_within no_more x y c inner = absurd (no_element x c)
  block_within (more d b) x y c inner = elim (Contains-append_cases (nested d) (nested_block b) x c) [
    | inl here ↦ Contains-append_left (nested d) (nested_block b) y (nested_within d x y here inner)
    | inr rest ↦ Contains-append_right (nested d) (nested_block b) y (block_within b x y rest inner)
  ]

module _ (modules : List Module) where
  -- a statement within a module
  abbrev IsWritten : Placed → Type 0
  IsWritten q = (x : Module) × (slice_get modules q.0 ≡ Some x) × Contains (nested x.statement) q.1

  deeper : (m : ℕ) (d e : Declaration) → IsWritten (m, d) → Contains (block d) e → IsWritten (m, e)
  deeper m d e (x, at, c) inner = (x, at, nested_within x.statement d e c inner)

  top : (m : ℕ) (x : Module) (d : Declaration) → slice_get modules m ≡ Some x → Contains (block x.statement) d → IsWritten (m, d)
  top m x d at c = (x, at, nested_within x.statement x.statement d (nested_itself x.statement) c)

  child_is : (word name : List ℕ) (d e : Declaration) → child_named word name d ≡ Some e → Contains (block d) e
  child_is word name d e is = found _ (block d) e is

  typedef_written : (m place : ℕ) (t : Declaration) → typedef_type modules m place ≡ Some t → IsWritten (m, t)
  typedef_written m place t is =
      let (d, at, first) = then_some (first_child (codes "type")) (statement_at modules m place) t is in
      let (x, here, slot) = then_some (λ x. slice_get (block x.statement) place) (slice_get modules m) d at in
      deeper m d t (top m x d here (slot_is (block x.statement) place d slot)) (found (is_keyword (codes "type")) (block d) t first)
    where
      slot_is : (ds : List Declaration) (k : ℕ) (d : Declaration) → slice_get ds k ≡ Some d → Contains ds d
      slot_is [] k d e = cc e
      slot_is (c ∷ ds) zero d e = let is : c ≡ d = cc e in subst (λ z. Contains (c ∷ ds) z) is (first_one c ds)
      slot_is (c ∷ ds) (suc k) d e = later c d ds (slot_is ds k d e)

  first_is : (f : ℕ → Module → Option Placed) (n : ℕ) (ms : List Module) (q : Placed) → first_given f n ms ≡ Some q
      → (k : ℕ) × (x : Module) × (slice_get ms k ≡ Some x) × (f (n + k) x ≡ Some q)
  first_is f n [] q e = cc e
  first_is f n (m ∷ ms) q e = by (first_is f (suc n) ms q) (f n m) refl
    where
      by : (first_given f (suc n) ms ≡ Some q → (k : ℕ) × (x : Module) × (slice_get ms k ≡ Some x) × (f (suc n + k) x ≡ Some q))
          → (o : Option Placed) → f n m ≡ o → (k : ℕ) × (x : Module) × (slice_get (m ∷ ms) k ≡ Some x) × (f (n + k) x ≡ Some q)
      by behind None is =
          let (k, x, at, gives) = behind (subst (λ o. option_map_or Some o (first_given f (suc n) ms) ≡ Some q) is e) in
          (suc k, x, at, ap (λ j. f j x) (omega arith) ∙ gives)
      by behind (Some p) is =
          let same : Some p ≡ Some q = subst (λ o. option_map_or Some o (first_given f (suc n) ms) ≡ Some q) is e in
          (0, m, refl, ap (λ j. f j m) (omega arith) ∙ (is ∙ same))

  container_written : (name : List ℕ) (c : Placed) → container_named modules name ≡ Some c → IsWritten c
  container_written name c is =
      let (k, x, at, gives) = first_is (λ number m. option_map (λ d. (number, d)) (child_named (codes "container") name m.statement)) 0 modules c is in
      let (d, child, same) = map_some (λ d. (0 + k, d)) (child_named (codes "container") name x.statement) c gives in
      let number : 0 + k ≡ k = omega arith in
      let here : IsWritten (0 + k, d) = subst (λ n. IsWritten (n, d)) (sym number) (top k x d at (child_is (codes "container") name x.statement d child)) in
      subst IsWritten (sym same) here

  key_leaf_is : (name : List ℕ) (d e : Declaration) → key_leaf_in name d ≡ Some e → Contains (block d) e
  key_leaf_is name d e is = by (is_key_of d name) is
    where
      by : (b : Bool) → cond b (child_named (codes "leaf") name d) None ≡ Some e → Contains (block d) e
      by true is = child_is (codes "leaf") name d e is
      by false is = cc is

  key_leaf_written : (a b c d : List ℕ) (q : Placed) → key_leaf modules a b c d ≡ Some q → IsWritten q
  key_leaf_written a b c d q is =
      let (p, container, rest) = then_some (λ p. option_map (λ d. (p.0, d)) (key_leaf_below b c d p.1)) (container_named modules a) q is in
      let (e, below, same) = map_some (λ e. (p.0, e)) (key_leaf_below b c d p.1) q rest in
      let (l, list, leaf) = then_some (key_leaf_in d) (option_and_then (child_named (codes "list") c) (child_named (codes "container") b p.1)) e below in
      let (t, table, inner) = then_some (child_named (codes "list") c) (child_named (codes "container") b p.1) l list in
      let at_table : IsWritten (p.0, t) = deeper p.0 p.1 t (container_written a p container) (child_is (codes "container") b p.1 t table) in
      let at_list : IsWritten (p.0, l) = deeper p.0 t l at_table (child_is (codes "list") c t l inner) in
      subst IsWritten (sym same) (deeper p.0 l e at_list (key_leaf_is d l e leaf))

  at_end_written : (m : ℕ) (ps : List (List ℕ)) (q : Placed) → leaf_at_end modules m ps ≡ Some q → IsWritten q
  at_end_written m [] q is = cc is
  at_end_written m (f ∷ []) q is = cc is
  at_end_written m (f ∷ c ∷ []) q is = cc is
  at_end_written m (f ∷ c ∷ t ∷ []) q is = cc is
  at_end_written m (f ∷ c ∷ t ∷ l ∷ []) q is = cc is
  at_end_written m (f ∷ c ∷ t ∷ l ∷ k ∷ []) q is = by (list_all (is_prefix_given modules m) (c ∷ t ∷ l ∷ k ∷ [])) is
    where
      by : (b : Bool) → cond b (key_leaf modules (step_name c) (step_name t) (step_name l) (step_name k)) None ≡ Some q → IsWritten q
      by true is = key_leaf_written (step_name c) (step_name t) (step_name l) (step_name k) q is
      by false is = cc is
  at_end_written m (f ∷ c ∷ t ∷ l ∷ k ∷ x ∷ xs) q is = cc is

  leaf_written : (m : ℕ) (s : List ℕ) (q : Placed) → Contains (leaf_types modules m s) q → IsWritten q
  leaf_written m s q c =
      let (leaf, is, types) = given (λ (leaf : Placed). placed_in leaf.0 (option_to_list (first_child (codes "type") leaf.1))) (path_end modules m s) q c in
      let (same, among) = in_module leaf.0 (option_to_list (first_child (codes "type") leaf.1)) q types in
      let type = listed (first_child (codes "type") leaf.1) q.1 among in
      let here = deeper leaf.0 leaf.1 q.1 (at_end_written m (pieces 47 s) leaf is) (found (is_keyword (codes "type")) (block leaf.1) q.1 type) in
      subst (λ n. IsWritten (n, q.1)) same here

  -- a statement of a module, or one within p
  abbrev IsNear : Placed → Placed → Type 0
  IsNear p q = ((p.0 ≡ q.0) × Contains (nested p.1) q.1) ⊎ IsWritten q

  member_near : (p : Placed) (m : ℕ) (d : Declaration) (q : Placed) → IsNear p (m, d) → m ≡ q.0 → Contains (block d) q.1 → IsNear p q
  member_near p m d q (inl (same, c)) e inner = inl (same ∙ e, nested_within p.1 d q.1 c inner)
  member_near p m d q (inr w) e inner = inr (subst (λ n. IsWritten (n, q.1)) e (deeper m d q.1 w inner))

  next_by_near : (p : Placed) (m : ℕ) (d : Declaration) (meaning : Meaning) (q : Placed) → IsNear p (m, d) → Contains (next_by modules m d meaning) q → IsNear p q
  next_by_near p m d (Goes k place) q near c =
      let (same, among) = in_module k (option_to_list (typedef_type modules k place)) q c in
      inr (subst (λ n. IsWritten (n, q.1)) same (typedef_written k place q.1 (listed (typedef_type modules k place) q.1 among)))
  next_by_near p m d (Ends Leafref) q near c =
      let (s, path, types) = given (leaf_types modules m) (path_of d) q c in
      inr (leaf_written m s q types)
  next_by_near p m d (Ends Union) q near c =
      let (same, among) = in_module m (children_of (codes "type") d) q c in
      member_near p m d q near same (kept (is_keyword (codes "type")) (block d) q.1 among)
  next_by_near p m d (Ends base) q near c = absurd (no_element q c)
  next_by_near p m d Nothing q near c = absurd (no_element q c)

  -- all statements of the modules
  abbrev all_from : ℕ → List Module → List Placed
  all_from m [] = []
  all_from m (x ∷ xs) = placed_in m (nested x.statement) ++ all_from (suc m) xs

  -- and those within p
  abbrev pub around : Placed → List Placed
  around p = placed_in p.0 (nested p.1) ++ all_from 0 modules

  all_have : (n : ℕ) (ms : List Module) (k : ℕ) (x : Module) (d : Declaration) → slice_get ms k ≡ Some x → Contains (nested x.statement) d → Contains (all_from n ms) (n + k, d)
  all_have n [] k x d at c = cc at
  all_have n (m ∷ ms) zero x d at c =
      let is : m ≡ x = cc at in
      let number : n ≡ n + 0 = omega arith in
      let inner : Contains (nested m.statement) d = subst (λ (y : Module). Contains (nested y.statement) d) (sym is) c in
      Contains-append_left (placed_in n (nested m.statement)) (all_from (suc n) ms) (n + 0, d)
      (subst (λ j. Contains (placed_in n (nested m.statement)) (j, d)) number (to_module n (nested m.statement) d inner))
  all_have n (m ∷ ms) (suc k) x d at c =
      let number : suc n + k ≡ n + suc k = omega arith in
      Contains-append_right (placed_in n (nested m.statement)) (all_from (suc n) ms) (n + suc k, d)
      (subst (λ j. Contains (all_from (suc n) ms) (j, d)) number (all_have (suc n) ms k x d at c))

  near_around : (p q : Placed) → IsNear p q → Contains (around p) q
  near_around p q (inl (same, c)) =
      Contains-append_left (placed_in p.0 (nested p.1)) (all_from 0 modules) q
      (subst (λ n. Contains (placed_in p.0 (nested p.1)) (n, q.1)) same (to_module p.0 (nested p.1) q.1 c))
  near_around p q (inr (x, at, c)) =
      let number : 0 + q.0 ≡ q.0 = omega arith in
      Contains-append_right (placed_in p.0 (nested p.1)) (all_from 0 modules) q
      (subst (λ n. Contains (all_from 0 modules) (n, q.1)) number (all_have 0 modules q.0 x q.1 at c))

  all_are : (n : ℕ) (ms : List Module) (q : Placed) → Contains (all_from n ms) q
      → (k : ℕ) × (x : Module) × (slice_get ms k ≡ Some x) × (n + k ≡ q.0) × Contains (nested x.statement) q.1
  all_are n [] q c = absurd (no_element q c)
  all_are n (m ∷ ms) q c = elim (Contains-append_cases (placed_in n (nested m.statement)) (all_from (suc n) ms) q c) [
    | inl here ↦ let (same, inner) = in_module n (nested m.statement) q here in (0, m, refl, omega (arith, same), inner)
    | inr there ↦ let (k, x, at, number, inner) = all_are (suc n) ms q there in (suc k, x, at, omega (arith, number), inner)
  ]

  around_near : (p q : Placed) → Contains (around p) q → IsNear p q
  around_near p q c = elim (Contains-append_cases (placed_in p.0 (nested p.1)) (all_from 0 modules) q c) [
    | inl here ↦ inl (in_module p.0 (nested p.1) q here)
    | inr there ↦
        let (k, x, at, number, inner) = all_are 0 modules q there in
        let same : k ≡ q.0 = omega arith in
        inr (x, ap (slice_get modules) (sym same) ∙ at, inner)
  ]

  pub around_itself : (p : Placed) → Contains (around p) p
  around_itself p = near_around p p (inl (refl, nested_itself p.1))

  -- nothing leads out of them
  pub around_closed : (p r s : Placed) → Contains (around p) r → Contains (next modules r) s → Contains (around p) s
  around_closed p r s c leads =
      near_around p s (next_by_near p r.0 r.1 (type_meaning modules r.0 (argument r.1)) s (around_near p r c) leads)
