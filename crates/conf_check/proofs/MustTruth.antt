-- A must of models has one truth where the configurations agree on its entry and on the tables that it reads.
use Rattle.std.proofs.Common.{◌≡◌, ◌⊎◌, ◌↔◌, ◌||◌, ℕ, Bool, true, false, cond, List, [], ◌∷◌, map, codes, Option, Some, None, option_map, option_and_then, slice_get, is_none, unwrap_or, Equal, is_eq, refl, sym, ap, ◌∙◌, subst, inl, inr, IsSomeAnd}
use Rattle.std.specs.FinMap as finmap
use Rattle.std.specs.List.{AllByRecursion as All, AllZip, Contains, flat_map, list_any}
use Rattle.std.specs.Option.{option_map_or, option_to_list}
use Rattle.std.specs.Str.{bytes_eq}
use Rattle.std.proofs.lemmas.Cmp.{nat_list_cmp_total, tied_itself}
use Rattle.std.proofs.lemmas.Slice.Eq.{bytes_eq-Decides}
use Rattle.host_core.specs.Names.{name_cmp}
use Rattle.conf_doc.specs.Pairs.{find, IsRising}
use Rattle.conf_doc.specs.declared.configuration.Config.{Config}
use Rattle.conf_doc.specs.declared.configuration.Entry.{Entry}
use Rattle.xpath_part.specs.Expression.{Expression, or_of, and_of, not_of, alone, equal, differ, count, path, literal, along, Strides, no_strides, stride, strides, strides_of}
use Rattle.xpath_part.specs.Expressions.{expression}
use Rattle.xpath_part.specs.Truth.{truth}
use Rattle.xpath_part.specs.declared.nodes.Node.{Node}
use Rattle.yang_text.specs.Declarations.{Declaration, argument, block}
use Rattle.yang_scope.specs.Modules.{Module, modules_of}
use Rattle.yang_scope.specs.Statements.{is_keyword}
use Rattle.yang_must.specs.Musts.{Must, in_order, mark, must_by, must_of, tables_along, tables_read}
use Rattle.yang_must.specs.Routes.{Route, end_of, ends_badly, names_nothing, routes}
use Rattle.yang_must.specs.Spots.{Spot, leaf, shape, ModelContainer, containers_of, shapes_of as shapes_in, tables_of}
use Rattle.yang_model.specs.Answers.{faults}
use Rattle.yang_model.specs.Leaves.{name_of, stored}
use Rattle.yang_model.specs.ModelSets.{ModelSet, TableModel, table_named, shapes_of}
use Rattle.yang_model.specs.Readers.{Readers}
use Rattle.yang_model.specs.ShapeCodes.{expr_of}
use Rattle.yang_model.specs.Shapes.{leaf_musts, models_of, must_at, must_rule, musts_at, shape_model, table_of, tables_in}
use Rattle.yang_model.specs.declared.shapes.MustRule.{MustRule}
use Rattle.yang_model.specs.declared.shapes.Shape.{Shape}
use Rattle.conf_check.specs.Belongings.{Belongings, AreBelongings}
use Rattle.conf_check.specs.ConfigTree.{entry_node}
use Rattle.conf_check.specs.MustReads.{HasOneTruth}
use Rattle.conf_check.specs.Validity.{IsFalseIn}
use Rattle.conf_check.proofs.Members.{In, append_in, find_in, flat_in, in_flat, map_in, slice_in}
use Rattle.conf_check.proofs.NamedStatements.{modules_quiet, statement_given, table_given}
use Rattle.conf_check.proofs.SameTruth.{IsRight, value_same}
use Rattle.conf_check.proofs.Searches.{at_contained, contains_at}
use Rattle.conf_check.proofs.SpotNodes.{A, At, B, EntryAt, LeafAt, entry_children, found_there}

some_same : {A : Type 0} (x y : A) → Some x ≡ Some y → x ≡ y
some_same x y e = cc

-- ---- what is in a list

all_of : {A : Type 0} (P : A → Type 0) (xs : List A) → ((x : A) → In x xs → P x) → All P xs
all_of P [] each = tt
all_of P (x ∷ xs) each = (each x (inl refl), all_of P xs (λ y h. each y (inr h)))

-- ---- the tables that a must reads, in order

find_mark : (n : List ℕ) (names : List (List ℕ)) → In n names → finmap.find name_cmp n (map mark names) ≡ Some tt
find_mark n [] h = absurd h
find_mark n (x ∷ xs) (inl e) =
    ap (λ c. cond (is_eq c) (Some tt) (finmap.find name_cmp n (map mark xs)))
    (subst (λ z. name_cmp n z ≡ Equal) e (tied_itself nat_list_cmp_total n))
find_mark n (x ∷ xs) (inr h) = by (is_eq (name_cmp n x)) (find_mark n xs h)
  where
    by : (c : Bool) → finmap.find name_cmp n (map mark xs) ≡ Some tt → cond c (Some tt) (finmap.find name_cmp n (map mark xs)) ≡ Some tt
    by true e = refl
    by false e = e

-- what holds of each name in order holds of each name
in_order_all : (P : List ℕ → Type 0) (names : List (List ℕ)) (n : List ℕ) → ((k : List ℕ) → Contains (in_order names) k → P k) → In n names → P n
in_order_all P names n all h =
    let marks = finmap.from_entries {R = name_cmp} (map mark names) in
    let found : finmap.find name_cmp n (finmap.entries marks) ≡ Some tt =
    sym (finmap.get-entries marks n) ∙ finmap.get-from_entries nat_list_cmp_total (map mark names) n ∙ find_mark n names h in
    let there = found_there (finmap.entries marks) n tt found in
    all n (contains_at (in_order names) there.0 n there.1)

-- ---- the expression of a must, as a value and back

strides_forth : (ss : Strides) → strides_of (strides ss) ≡ ss
strides_forth no_strides = refl
strides_forth (stride s ss) = ap (stride s) (strides_forth ss)

expression_forth : (e : Expression) → expression (expr_of e) ≡ e
expression_forth (or_of a b) = refl
expression_forth (and_of a b) = refl
expression_forth (not_of a) = refl
expression_forth (alone (path (along o ss))) = ap (λ z. alone (path (along o z))) (strides_forth ss)
expression_forth (alone (literal s)) = refl
expression_forth (equal (path (along o ss)) (path (along u vs))) =
    λ i. equal (path (along o (strides_forth ss i))) (path (along u (strides_forth vs i)))
expression_forth (equal (path (along o ss)) (literal t)) = ap (λ z. equal (path (along o z)) (literal t)) (strides_forth ss)
expression_forth (equal (literal s) (path (along u vs))) = ap (λ z. equal (literal s) (path (along u z))) (strides_forth vs)
expression_forth (equal (literal s) (literal t)) = refl
expression_forth (differ (path (along o ss)) (path (along u vs))) =
    λ i. differ (path (along o (strides_forth ss i))) (path (along u (strides_forth vs i)))
expression_forth (differ (path (along o ss)) (literal t)) = ap (λ z. differ (path (along o z)) (literal t)) (strides_forth ss)
expression_forth (differ (literal s) (path (along u vs))) = ap (λ z. differ (literal s) (path (along u z))) (strides_forth vs)
expression_forth (differ (literal s) (literal t)) = refl
expression_forth (count (along o ss) c n) = ap (λ z. count (along o z) c n) (strides_forth ss)

-- two that are there or not, and related where they are
abbrev OptionsZip : {A : Type 0} → (A → A → Type 0) → Option A → Option A → Type 0
OptionsZip R None None = Unit {0}
OptionsZip R None (Some y) = ⊥
OptionsZip R (Some x) None = ⊥
OptionsZip R (Some x) (Some y) = R x y

-- ---- where a must of a shape stands

module _ (modules : List Module) (readers : Readers) where
  abbrev models : ModelSet
  models = models_of stored modules readers

  -- a must of a shape of the table of a statement, and the spot that it stands at
  pub record Stands (t : Declaration) (must : MustRule) : Type 0 where
    pub c : Declaration
    pub s : Declaration
    pub number : ℕ
    pub at_leaf : Option (List ℕ)
    pub spot : Spot
    pub spot_is : ((at_leaf ≡ None) × (spot ≡ shape c t s)) ⊎ ((name : List ℕ) × (d : Declaration) × (at_leaf ≡ Some name) × (spot ≡ leaf c t s d))
    pub value : Must
    pub statement : Declaration
    pub value_is : must_of readers.read modules number spot statement ≡ Some value
    pub must_is : must ≡ must_rule at_leaf value

  -- where the shapes of a table come from
  pub record Comes (name : List ℕ) (form : Shape) : Type 0 where
    pub x : ModelContainer
    pub in_x : In x (containers_of modules)
    pub t : Declaration
    pub in_t : In t (tables_of x.statement)
    pub named : bytes_eq name (name_of t) ≡ true
    pub s : Declaration
    pub in_s : In s (shapes_in t)
    pub is : form ≡ shape_model stored modules readers x t s

  some_table : (name : List ℕ) (o : Option TableModel) (place : ℕ) (form : Shape) → slice_get (option_map_or (λ m. m.shapes) o []) place ≡ Some form
      → (m : TableModel) × (o ≡ Some m) × In form m.shapes
  some_table name None place form at = cc
  some_table name (Some m) place form at = (m, refl, slice_in m.shapes place form at)

  comes : (name : List ℕ) (place : ℕ) (form : Shape) → slice_get (shapes_of name models) place ≡ Some form → Comes name form
  comes name place form at =
      let table = some_table name (table_named name models) place form at in
      let found = find_in (λ t. bytes_eq name t.name) models.tables table.0 table.1 in
      let from = flat_in (tables_in stored modules readers) (containers_of modules) table.0 found.0 in
      let made = map_in (table_of stored modules readers from.0) (tables_of from.0.statement) table.0 from.2 in
      let forms = map_in (shape_model stored modules readers from.0 made.0) (shapes_in made.0) form (subst (λ (m : TableModel). In form m.shapes) made.2 table.2) in
      record {
        x = from.0;
        in_x = from.1;
        t = made.0;
        in_t = made.1;
        named = subst (λ (m : TableModel). bytes_eq name m.name ≡ true) made.2 found.1;
        s = forms.0;
        in_s = forms.1;
        is = forms.2;
      }

  optional_in : (at_leaf : Option (List ℕ)) (o : Option Must) (must : MustRule) → In must (option_to_list (option_map (must_rule at_leaf) o))
      → (v : Must) × (o ≡ Some v) × (must ≡ must_rule at_leaf v)
  optional_in at_leaf None must h = absurd h
  optional_in at_leaf (Some v) must (inl e) = (v, refl, e)
  optional_in at_leaf (Some v) must (inr h) = absurd h

  must_in : (number : ℕ) (at_leaf : Option (List ℕ)) (spot : Spot) (d : Declaration) (must : MustRule) → In must (must_at modules readers number at_leaf spot d)
      → (v : Must) × (must_of readers.read modules number spot d ≡ Some v) × (must ≡ must_rule at_leaf v)
  must_in number at_leaf spot d must h = by (is_keyword (codes "must") d) h
    where
      by : (c : Bool) → In must (cond c (option_to_list (option_map (must_rule at_leaf) (must_of readers.read modules number spot d))) [])
          → (v : Must) × (must_of readers.read modules number spot d ≡ Some v) × (must ≡ must_rule at_leaf v)
      by true h = optional_in at_leaf (must_of readers.read modules number spot d) must h
      by false h = absurd h

  leaf_stands : (x : ModelContainer) (t s d : Declaration) (must : MustRule) → (name : List ℕ) × (argument d ≡ Some name)
      → In must (leaf_musts modules readers x t s d) → Stands t must
  leaf_stands x t s d must named h = by (is_keyword (codes "leaf") d) h
    where
      by : (c : Bool) → In must (cond c (flat_map (must_at modules readers x.number (argument d) (leaf x.statement t s d)) (block d)) []) → Stands t must
      by true h =
          let e = flat_in (must_at modules readers x.number (argument d) (leaf x.statement t s d)) (block d) must h in
          let v = must_in x.number (argument d) (leaf x.statement t s d) e.0 must e.2 in
          record {
            c = x.statement;
            s = s;
            number = x.number;
            at_leaf = argument d;
            spot = leaf x.statement t s d;
            spot_is = inr (named.0, d, named.1, refl);
            value = v.0;
            statement = e.0;
            value_is = v.1;
            must_is = v.2;
          }
      by false h = absurd h

  stands : (x : ModelContainer) (t s : Declaration) (must : MustRule) → ((d : Declaration) → In d (block s) → (name : List ℕ) × (argument d ≡ Some name))
      → In must (flat_map (musts_at modules readers x t s) (block s)) → Stands t must
  stands x t s must named h =
      let d = flat_in (musts_at modules readers x t s) (block s) must h in
      elim (append_in (must_at modules readers x.number None (shape x.statement t s) d.0) (leaf_musts modules readers x t s d.0) must d.2) [
        | inl own ↦
            let v = must_in x.number None (shape x.statement t s) d.0 must own in
            record {
              c = x.statement;
              s = s;
              number = x.number;
              at_leaf = None;
              spot = shape x.statement t s;
              spot_is = inl (refl, refl);
              value = v.0;
              statement = d.0;
              value_is = v.1;
              must_is = v.2;
            }
        | inr low ↦ leaf_stands x t s d.0 must (named d.0 d.1) low
      ]

  -- ---- the truth of a must where it stands

  names_by : (c : Bool) (number : ℕ) (e : Expression) (rs : List Route) (v : Must)
      → (list_any (names_nothing modules number) rs || list_any (ends_badly modules number) rs) ≡ c
      → cond c None (Some (record { expression = e; reads = tables_read modules number rs })) ≡ Some v
      → (list_any (names_nothing modules number) rs ≡ false) × (v.expression ≡ e) × (v.reads ≡ tables_read modules number rs)
  names_by true number e rs v is same = cc
  names_by false number e rs v is same =
      let made : record { expression = e; reads = tables_read modules number rs } ≡ v = some_same _ v same in (
        left_false (list_any (names_nothing modules number) rs) (list_any (ends_badly modules number) rs) is,
        sym (ap (λ (m : Must). m.expression) made),
        sym (ap (λ (m : Must). m.reads) made),
      )
    where
      left_false : (x y : Bool) → (x || y) ≡ false → x ≡ false
      left_false false y e = refl
      left_false true y e = cc

  read_by : (number : ℕ) (spot : Spot) (o : Option Expression) (v : Must) → option_and_then (λ e. must_by modules number e (routes modules number spot e spot)) o ≡ Some v
      → (e : Expression) × (list_any (names_nothing modules number) (routes modules number spot e spot) ≡ false) × (v.expression ≡ e)
      × (v.reads ≡ tables_read modules number (routes modules number spot e spot))
  read_by number spot None v same = cc
  read_by number spot (Some e) v same =
      let n = names_by _ number e (routes modules number spot e spot) v refl same in
      (e, n.0, n.1, n.2)

  some_end : (o : Option Spot) → is_none o ≡ false → (s : Spot) × (o ≡ Some s)
  some_end None e = cc
  some_end (Some s) e = (s, refl)

  each_ends : (number : ℕ) (rs : List Route) (r : Route) → list_any (names_nothing modules number) rs ≡ false → In r rs
      → (s : Spot) × (end_of modules number r.steps r.origin ≡ Some s)
  each_ends number [] r none h = absurd h
  each_ends number (x ∷ rs) r none (inl e) =
      some_end (end_of modules number r.steps r.origin) (subst (λ z. names_nothing modules number z ≡ false) (sym e) (first (names_nothing modules number x) (list_any (names_nothing modules number) rs) none))
    where
      first : (x y : Bool) → (x || y) ≡ false → x ≡ false
      first false y e = refl
      first true y e = cc
  each_ends number (x ∷ rs) r none (inr h) = each_ends number rs r (rest (names_nothing modules number x) (list_any (names_nothing modules number) rs) none) h
    where
      rest : (x y : Bool) → (x || y) ≡ false → y ≡ false
      rest false y e = e
      rest true y e = cc

  module _ (number : ℕ) (a b : Config) (p q : Belongings) (are_a : AreBelongings models a p) (are_b : AreBelongings models b q) (rising_a : IsRising a) (rising_b : IsRising b) where
    abbrev right : Route → Type 0
    right = IsRight models a b p q are_a are_b rising_a rising_b modules number

    routes_right : (rs : List Route) → list_any (names_nothing modules number) rs ≡ false
        → ((name : List ℕ) → Contains (tables_read modules number rs) name → find name a ≡ find name b) → All right rs
    routes_right rs none agree = all_of right rs (λ r h. (
      each_ends number rs r none h,
      all_of (λ name. find name a ≡ find name b) (tables_along modules number r)
          (λ name there. in_order_all (λ name. find name a ≡ find name b) (flat_map (tables_along modules number) rs) name agree
          (in_flat (tables_along modules number) rs r name h there)),
    ))

    -- the same truth at nodes of the spot
    truth_same : (spot : Spot) (statement : Declaration) (v : Must) (at_leaf : Option (List ℕ)) (x y : Node)
        → must_of readers.read modules number spot statement ≡ Some v
        → ((name : List ℕ) → Contains v.reads name → find name a ≡ find name b) → At models a b p q spot x y
        → truth (A models a b p q) (expression (must_rule at_leaf v).expr) x ≡ truth (B models a b p q) (expression (must_rule at_leaf v).expr) y
    truth_same spot statement v at_leaf x y is agree at =
        let e = read_by number spot (option_and_then readers.read (argument statement)) v is in
        let rights = routes_right (routes modules number spot e.0 spot) e.1
        (λ name there. agree name (subst (λ ns. Contains ns name) (sym e.3) there)) in
        let same : truth (A models a b p q) e.0 x ≡ truth (B models a b p q) e.0 y =
        value_same models a b p q are_a are_b rising_a rising_b modules number spot x y at e.0 spot x y at rights in
        let is_e : expression (expr_of v.expression) ≡ e.0 = expression_forth v.expression ∙ e.2 in
        ap (λ z. truth (A models a b p q) z x) is_e ∙ same ∙ sym (ap (λ z. truth (B models a b p q) z y) is_e)

    -- nodes that are compared where a must is tested
    false_at : (R : Node → Node → Type 0) (e : Expression) (o u : Option Node)
        → ((x y : Node) → R x y → truth (A models a b p q) e x ≡ truth (B models a b p q) e y)
        → OptionsZip R o u
        → IsSomeAnd o (λ n. truth (A models a b p q) e n ≡ false) ↔ IsSomeAnd u (λ n. truth (B models a b p q) e n ≡ false)
    false_at R e None None same both = (λ h. h, λ h. h)
    false_at R e None (Some y) same both = absurd both
    false_at R e (Some x) None same both = absurd both
    false_at R e (Some x) (Some y) same both = (λ h. sym (same x y both) ∙ h, λ h. same x y both ∙ h)

    first_zip : (R : Node → Node → Type 0) (xs ys : List Node) → AllZip R xs ys → OptionsZip R (slice_get xs 0) (slice_get ys 0)
    first_zip R [] [] all = tt
    first_zip R [] (y ∷ ys) all = absurd all
    first_zip R (x ∷ xs) [] all = absurd all
    first_zip R (x ∷ xs) (y ∷ ys) all = all.0

  -- the must is false in both, or in none
  module _ (t : Declaration) (must : MustRule) (i k j l : ℕ) (st : Stands t must) (a b : Config) (p q : Belongings)
      (are_a : AreBelongings models a p) (are_b : AreBelongings models b q) (rising_a : IsRising a) (rising_b : IsRising b)
      (agree : (name : List ℕ) → Contains must.reads name → find name a ≡ find name b)
      (entry : EntryAt models a b p q t (entry_node i k) (entry_node j l)) where
    abbrev x : Node
    x = entry_node i k

    abbrev y : Node
    y = entry_node j l

    abbrev Same : MustRule → Type 0
    Same m = IsFalseIn (A models a b p q) x m ↔ IsFalseIn (B models a b p q) y m

    abbrev e : Expression
    e = expression (expr_of st.value.expression)

    agree_value : (name : List ℕ) → Contains st.value.reads name → find name a ≡ find name b
    agree_value name there = agree name (subst (λ (m : MustRule). Contains m.reads name) (sym st.must_is) there)

    same_at : (spot : Spot) → st.spot ≡ spot → (u v : Node) → At models a b p q spot u v → truth (A models a b p q) e u ≡ truth (B models a b p q) e v
    same_at spot is u v at =
        truth_same st.number a b p q are_a are_b rising_a rising_b spot st.statement st.value st.at_leaf u v
        (subst (λ z. must_of readers.read modules st.number z st.statement ≡ Some st.value) is st.value_is) agree_value at

    same_by : ((st.at_leaf ≡ None) × (st.spot ≡ shape st.c t st.s)) ⊎ ((name : List ℕ) × (d : Declaration) × (st.at_leaf ≡ Some name) × (st.spot ≡ leaf st.c t st.s d))
        → Same (must_rule st.at_leaf st.value)
    same_by (inl own) =
        subst (λ o. Same (must_rule o st.value)) (sym own.0)
        (false_at st.number a b p q are_a are_b rising_a rising_b (EntryAt models a b p q t) e (Some x) (Some y) (same_at (shape st.c t st.s) own.1) entry)
    same_by (inr low) =
        subst (λ o. Same (must_rule o st.value)) (sym low.2)
        (false_at st.number a b p q are_a are_b rising_a rising_b (LeafAt models a b p q t) e
        (slice_get ((A models a b p q).children x low.0) 0) (slice_get ((B models a b p q).children y low.0) 0)
        (same_at (leaf st.c t st.s low.1) low.3)
        (first_zip st.number a b p q are_a are_b rising_a rising_b (LeafAt models a b p q t) ((A models a b p q).children x low.0) ((B models a b p q).children y low.0)
        (entry_children models a b p q are_a are_b rising_a rising_b t low.0 x y entry)))

    pub stands_same : IsFalseIn (A models a b p q) x must ↔ IsFalseIn (B models a b p q) y must
    stands_same = subst Same (sym st.must_is) (same_by st.spot_is)

-- the law
pub one_truth : (files : List (List Declaration)) (readers : Readers) → faults readers files ≡ [] → HasOneTruth (models_of stored (modules_of files) readers)
one_truth files readers quiet a b row form t k u l must have there agree = (
  λ in_a. λ q are_q. (same have.known_a.0 q have.known_a.1 are_q).0 (in_a have.known_a.0 have.known_a.1),
  λ in_b. λ p are_p. (same p have.known_b.0 are_p have.known_b.1).1 (in_b have.known_b.0 have.known_b.1),
)
  where
    from : Comes (modules_of files) readers row.table form
    from = comes (modules_of files) readers row.table have.shaped.place form have.shaped.is

    table_name : argument from.t ≡ Some row.table
    table_name =
        let given = table_given (modules_of files) readers.tests (modules_quiet readers files quiet) from.x from.t from.in_x from.in_t in
        let is : row.table ≡ name_of from.t = (bytes_eq-Decides row.table (name_of from.t)).0 from.named in
        let named : name_of from.t ≡ given.0 = ap (λ o. unwrap_or o []) given.1 in
        given.1 ∙ ap Some (sym (is ∙ named))

    standing : Stands (modules_of files) readers from.t must
    standing =
        stands (modules_of files) readers from.x from.t from.s must
        (λ d in_d. statement_given (modules_of files) readers.tests (modules_quiet readers files quiet) from.x from.t from.s d from.in_x from.in_t from.in_s in_d)
        (subst (λ (z : Shape). In must z.musts) from.is (slice_in form.musts there.0 must (at_contained form.musts must there)))

    entry : (p q : Belongings) → EntryAt (models_of stored (modules_of files) readers) a b p q from.t (entry_node t k) (entry_node u l)
    entry p q = record {
      name = row.table;
      named = table_name;
      i = t;
      k = k;
      j = u;
      l = l;
      at_a = refl;
      at_b = refl;
      same = record {
        key = row.key;
        fields = row.fields;
        entries_a = have.at_a.entry.entries;
        table_a = have.at_a.entry.at;
        key_a = have.at_a.entry.at_key ∙ ap (λ (f : Entry). Some (row.key, f)) have.at_a.fields;
        entries_b = have.at_b.entry.entries;
        table_b = have.at_b.entry.at;
        key_b = have.at_b.entry.at_key ∙ ap (λ (f : Entry). Some (row.key, f)) have.at_b.fields;
      };
    }

    same : (p q : Belongings) → AreBelongings (models_of stored (modules_of files) readers) a p → AreBelongings (models_of stored (modules_of files) readers) b q
        → IsFalseIn (A (models_of stored (modules_of files) readers) a b p q) (entry_node t k) must ↔ IsFalseIn (B (models_of stored (modules_of files) readers) a b p q) (entry_node u l) must
    same p q are_p are_q =
        stands_same (modules_of files) readers from.t must t k u l standing a b p q are_p are_q have.formed_a.shaped.rising have.formed_b.shaped.rising agree (entry p q)
