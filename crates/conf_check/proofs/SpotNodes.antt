-- The nodes of two configurations at a spot of the models, where the configurations agree on what is read.
use Rattle.std.proofs.Common.{◌≡◌, ◌==◌, ◌+◌, ◌<◌, ◌≤◌, ℕ, zero, suc, Bool, true, false, cond, List, [], ◌∷◌, ◌++◌, map, length, Option, Some, None, option_map, option_and_then, slice_get, Less, Equal, Greater, is_eq, refl, sym, ap, ◌∙◌, subst, arith}
use Rattle.std.specs.FinMap.{nat_cmp-IsAntisymmetric, slice_cmp-IsAntisymmetric}
use Rattle.std.specs.List.{AllByRecursion as All, AllZip, find as find_first}
use Rattle.std.specs.Option.{option_map_or, option_to_list}
use Rattle.std.specs.Str.{bytes_eq}
use Rattle.std.proofs.lemmas.Bool.{and_parts}
use Rattle.std.proofs.lemmas.Cmp.{nat_list_cmp_total, tied_itself}
use Rattle.std.proofs.lemmas.Slice.Eq.{bytes_eq-Decides}
use Rattle.host_core.specs.Names.{name_cmp}
use Rattle.conf_doc.specs.Pairs.{find, IsRising}
use Rattle.conf_doc.specs.declared.configuration.Config.{Config}
use Rattle.conf_doc.specs.declared.configuration.Entry.{Entry}
use Rattle.conf_doc.specs.declared.configuration.Table.{Table}
use Rattle.xpath_part.specs.Nodes.{NodeTree}
use Rattle.xpath_part.specs.Truth.{texts_of_node}
use Rattle.xpath_part.specs.declared.nodes.Node.{Node}
use Rattle.yang_text.specs.Declarations.{Declaration, argument}
use Rattle.yang_scope.specs.Modules.{Module}
use Rattle.yang_scope.specs.Paths.{is_named}
use Rattle.yang_must.specs.Routes.{table_at}
use Rattle.yang_must.specs.Spots.{Spot, root, container, table, shape, leaf, ModelContainer, containers_of, leaves_of, shapes_of as shapes_in, spot_named, parent_spot, tables_of}
use Rattle.yang_model.specs.Belongs.{Belongs}
use Rattle.yang_model.specs.ModelSets.{ModelSet, owner_of, shapes_of}
use Rattle.yang_model.specs.Names.{place_of_name}
use Rattle.yang_model.specs.declared.shapes.Shape.{Shape}
use Rattle.conf_check.specs.Belongings.{Belongings, AreBelongings, AreBelongingsOf, shape_at}
use Rattle.conf_check.specs.ConfigTree.{Held, absent, one, items, counted_from, entries_from, entry_node, held_at, held_nodes, held_text, is_shape_named, item_node, leaf_names, module_node, node, node_tree, root_node, shaped_row, table_node}
use Rattle.conf_check.specs.Rows.{Row, row_of, row_at}
use Rattle.conf_check.proofs.EntryShapes.{belongings_at}
use Rattle.conf_check.proofs.Entries.{stands_nowhere}
use Rattle.conf_check.proofs.Keys.{rising_at}
use Rattle.conf_check.proofs.NamePlaces.{place_holds}
use Rattle.conf_check.proofs.Places.{holder_at, left_at}
use Rattle.conf_check.proofs.RowPlaces.{at_entry}

some_same : {A : Type 0} (x y : A) → Some x ≡ Some y → x ≡ y
some_same x y e = cc

-- ---- what a name names, by its place

not_equal : (x name : List ℕ) → name_cmp x name ≡ Less → is_eq (name_cmp name x) ≡ false
not_equal x name lt = by (name_cmp name x) refl
  where
    by : (o : _) → name_cmp name x ≡ o → is_eq o ≡ false
    by Less e = refl
    by Greater e = refl
    by Equal e =
        let same : name ≡ x = slice_cmp-IsAntisymmetric nat_cmp-IsAntisymmetric name x e in
        let tied : name_cmp x x ≡ Equal = tied_itself nat_list_cmp_total x in
        let less : name_cmp x x ≡ Less = subst (λ n. name_cmp x n ≡ Less) same lt in
        cc

module _ {A : Type 0} where
  pub found_at : (ps : List (List ℕ × A)) (name : List ℕ) (i : ℕ) (a : A) → IsRising ps → slice_get ps i ≡ Some (name, a) → find name ps ≡ Some a
  found_at [] name i a rising at = cc
  found_at (p ∷ ps) name zero a rising at =
      let e : p ≡ (name, a) = some_same p (name, a) at in
      ap (λ c. cond (is_eq c) (Some p.1) (find name ps)) (subst (λ n. name_cmp n p.0 ≡ Equal) (ap (λ (q : List ℕ × A). q.0) e) (tied_itself nat_list_cmp_total p.0))
      ∙ ap (λ (q : List ℕ × A). Some q.1) e
  found_at (p ∷ ps) name (suc i) a rising at =
      let up : name_cmp p.0 name ≡ Less = rising_at (p ∷ ps) 0 (suc i) p.0 name rising (omega arith) refl (left_at ps i (name, a) at) in
      ap (λ c. cond c (Some p.1) (find name ps)) (not_equal p.0 name up)
      ∙ found_at ps name i a (and_parts _ _ rising).1 at

  there_by : (p : List ℕ × A) (ps : List (List ℕ × A)) (name : List ℕ) (a : A) (o : _) → name_cmp name p.0 ≡ o → cond (is_eq o) (Some p.1) (find name ps) ≡ Some a
      → (find name ps ≡ Some a → (i : ℕ) × (slice_get (map (λ p. p.0) ps) i ≡ Some name)) → (i : ℕ) × (slice_get (map (λ p. p.0) (p ∷ ps)) i ≡ Some name)
  there_by p ps name a Equal is e more = (0, ap Some (sym (slice_cmp-IsAntisymmetric nat_cmp-IsAntisymmetric name p.0 is)))
  there_by p ps name a Less is e more = let m = more e in (suc m.0, m.1)
  there_by p ps name a Greater is e more = let m = more e in (suc m.0, m.1)

  pub found_there : (ps : List (List ℕ × A)) (name : List ℕ) (a : A) → find name ps ≡ Some a → (i : ℕ) × (slice_get (map (λ p. p.0) ps) i ≡ Some name)
  found_there [] name a e = cc
  found_there (p ∷ ps) name a e = there_by p ps name a (name_cmp name p.0) refl e (found_there ps name a)

-- ---- the two trees

module _ (models : ModelSet) (a b : Config) (p q : Belongings) where
  abbrev pub A : NodeTree
  A = node_tree models a p

  abbrev pub B : NodeTree
  B = node_tree models b q

  -- the configurations have the same of a table
  abbrev pub Agree : List ℕ → Type 0
  Agree name = find name a ≡ find name b

  -- an entry that is the same in both, in tables of that name
  pub record SameEntry (name : List ℕ) (i k j l : ℕ) : Type 0 where
    pub key : List ℕ
    pub fields : Entry
    pub entries_a : Table
    pub table_a : slice_get a i ≡ Some (name, entries_a)
    pub key_a : slice_get entries_a k ≡ Some (key, fields)
    pub entries_b : Table
    pub table_b : slice_get b j ≡ Some (name, entries_b)
    pub key_b : slice_get entries_b l ≡ Some (key, fields)

  pub record ContainerAt (x y : Node) : Type 0 where
    pub m : ℕ
    pub at_a : x ≡ module_node m
    pub at_b : y ≡ module_node m

  pub record TableAt (t : Declaration) (x y : Node) : Type 0 where
    pub name : List ℕ
    pub named : argument t ≡ Some name
    pub i : ℕ
    pub j : ℕ
    pub at_a : x ≡ table_node i
    pub at_b : y ≡ table_node j
    pub entries : Table
    pub table_a : slice_get a i ≡ Some (name, entries)
    pub table_b : slice_get b j ≡ Some (name, entries)

  pub record EntryAt (t : Declaration) (x y : Node) : Type 0 where
    pub name : List ℕ
    pub named : argument t ≡ Some name
    pub i : ℕ
    pub k : ℕ
    pub j : ℕ
    pub l : ℕ
    pub at_a : x ≡ entry_node i k
    pub at_b : y ≡ entry_node j l
    pub same : SameEntry name i k j l

  -- a leaf or an item
  abbrev low_node : Bool → ℕ → ℕ → ℕ → ℕ → Node
  low_node false t k f n = node 4 t k f n
  low_node true t k f n = node 5 t k f n

  pub record LeafAt (t : Declaration) (x y : Node) : Type 0 where
    pub name : List ℕ
    pub named : argument t ≡ Some name
    pub i : ℕ
    pub k : ℕ
    pub j : ℕ
    pub l : ℕ
    pub is_item : Bool
    pub f : ℕ
    pub n : ℕ
    pub at_a : x ≡ low_node is_item i k f n
    pub at_b : y ≡ low_node is_item j l f n
    pub same : SameEntry name i k j l

  -- nodes of the two trees at a spot
  abbrev pub At : Spot → Node → Node → Type 0
  At root x y = (x ≡ root_node) × (y ≡ root_node)
  At (container c) x y = ContainerAt x y
  At (table c t) x y = TableAt t x y
  At (shape c t s) x y = EntryAt t x y
  At (leaf c t s d) x y = LeafAt t x y

  module _ (are_a : AreBelongings models a p) (are_b : AreBelongings models b q) (rising_a : IsRising a) (rising_b : IsRising b) where
    -- ---- the entry that is the same has one shape
    belongs_there : (name : List ℕ) (t : Table) (answers : List (Option ℕ)) (k : ℕ) (e : List ℕ × Entry) → AreBelongingsOf models name t answers
        → slice_get t k ≡ Some e → (o : Option ℕ) × Belongs (shapes_of name models) e.0 o
    belongs_there name [] answers k e all at = cc
    belongs_there name (x ∷ t) [] k e all at = absurd all
    belongs_there name (x ∷ t) (o ∷ answers) zero e all at =
        (o, subst (λ (y : List ℕ × Entry). Belongs (shapes_of name models) y.0 o) (some_same x e at) all.0)
    belongs_there name (x ∷ t) (o ∷ answers) (suc k) e all at = belongs_there name t answers k e all.1 at

    known_there : (c : Config) (r : Belongings) (i : ℕ) (u : List ℕ × Table) → AreBelongings models c r → slice_get c i ≡ Some u
        → (answers : List (Option ℕ)) × AreBelongingsOf models u.0 u.1 answers
    known_there [] r i u all at = cc
    known_there (x ∷ c) [] i u all at = absurd all
    known_there (x ∷ c) (answers ∷ r) zero u all at =
        (answers, subst (λ (y : List ℕ × Table). AreBelongingsOf models y.0 y.1 answers) (some_same x u at) all.0)
    known_there (x ∷ c) (answers ∷ r) (suc i) u all at = known_there c r i u all.1 at

    module _ (name : List ℕ) (i k j l : ℕ) (same : SameEntry name i k j l) where
      abbrev row : Row
      row = row_of name same.key same.fields

      row_same : row_at models a i k ≡ row_at models b j l
      row_same =
          at_entry models a i k (name, same.entries_a) (same.key, same.fields) same.table_a same.key_a
          ∙ sym (at_entry models b j l (name, same.entries_b) (same.key, same.fields) same.table_b same.key_b)

      shape_same : shape_at p i k ≡ shape_at q j l
      shape_same =
          let known = known_there a p i (name, same.entries_a) are_a same.table_a in
          let o = belongs_there name same.entries_a known.0 k (same.key, same.fields) known.1 same.key_a in
          belongings_at models a p i k (name, same.entries_a) (same.key, same.fields) o.0 are_a same.table_a same.key_a o.1
          ∙ sym (belongings_at models b q j l (name, same.entries_b) (same.key, same.fields) o.0 are_b same.table_b same.key_b o.1)

      abbrev with_shape : Option Row → Option ℕ → Option (Row × Shape)
      with_shape r s =
          option_and_then (λ row. option_map (λ (shape : Shape). (row, shape)) (option_and_then (slice_get (shapes_of row.table models)) s)) r

      pub shaped_same : shaped_row models a p i k ≡ shaped_row models b q j l
      shaped_same = λ z. with_shape (row_same z) (shape_same z)

    -- ---- texts
    abbrev text_by : ℕ → ℕ → Option (Row × Shape) → List ℕ
    text_by f n r = option_map_or (λ r. held_text n (held_at r.0 r.1 f)) r []

    low_texts : (c : Bool) (name : List ℕ) (i k j l f n : ℕ) → SameEntry name i k j l
        → texts_of_node A (low_node c i k f n) ≡ texts_of_node B (low_node c j l f n)
    low_texts false name i k j l f n same = ap (λ r. text_by f n r ∷ []) (shaped_same name i k j l same)
    low_texts true name i k j l f n same = ap (λ r. text_by f n r ∷ []) (shaped_same name i k j l same)

    pub texts_same : (at : Spot) (x y : Node) → At at x y → texts_of_node A x ≡ texts_of_node B y
    texts_same root x y at = ap (texts_of_node A) at.0 ∙ sym (ap (texts_of_node B) at.1)
    texts_same (container c) x y at = ap (texts_of_node A) at.at_a ∙ sym (ap (texts_of_node B) at.at_b)
    texts_same (table c t) x y at = ap (texts_of_node A) at.at_a ∙ sym (ap (texts_of_node B) at.at_b)
    texts_same (shape c t s) x y at = ap (texts_of_node A) at.at_a ∙ sym (ap (texts_of_node B) at.at_b)
    texts_same (leaf c t s d) x y at =
        ap (texts_of_node A) at.at_a ∙ low_texts at.is_item at.name at.i at.k at.j at.l at.f at.n at.same ∙ sym (ap (texts_of_node B) at.at_b)

    -- ---- parents
    abbrev Lists : Spot → List Node → List Node → Type 0
    Lists at xs ys = AllZip (At at) xs ys

    module_parent : (o : Option ℕ) (c : Declaration) → Lists (container c) (option_to_list (option_map module_node o)) (option_to_list (option_map module_node o))
    module_parent None c = tt
    module_parent (Some m) c = (record { m = m; at_a = refl; at_b = refl }, tt)

    owner_a : (i : ℕ) (name : List ℕ) (entries : Table) → slice_get a i ≡ Some (name, entries) → A.parent (table_node i) ≡ option_map module_node (owner_of name models)
    owner_a i name entries at = ap (λ o. option_map module_node (option_and_then (λ (p : List ℕ × Table). owner_of p.0 models) o)) at

    owner_b : (i : ℕ) (name : List ℕ) (entries : Table) → slice_get b i ≡ Some (name, entries) → B.parent (table_node i) ≡ option_map module_node (owner_of name models)
    owner_b i name entries at = ap (λ o. option_map module_node (option_and_then (λ (p : List ℕ × Table). owner_of p.0 models) o)) at

    low_parent_a : (c : Bool) (i k f n : ℕ) → A.parent (low_node c i k f n) ≡ Some (entry_node i k)
    low_parent_a false i k f n = refl
    low_parent_a true i k f n = refl

    low_parent_b : (c : Bool) (i k f n : ℕ) → B.parent (low_node c i k f n) ≡ Some (entry_node i k)
    low_parent_b false i k f n = refl
    low_parent_b true i k f n = refl

    -- for equal nodes
    lists_as : (at : Spot) (o u : Option Node) (v w : Option Node) → o ≡ u → v ≡ w → Lists at (option_to_list u) (option_to_list w) → Lists at (option_to_list o) (option_to_list v)
    lists_as at o u v w same_a same_b lists =
        subst (λ z. Lists at (option_to_list z) (option_to_list v)) (sym same_a)
        (subst (λ z. Lists at (option_to_list u) (option_to_list z)) (sym same_b) lists)

    -- the table of an entry that is the same, where the configurations agree on it
    table_over : (name : List ℕ) (t : Declaration) (i k j l : ℕ) → argument t ≡ Some name → SameEntry name i k j l → Agree name → TableAt t (table_node i) (table_node j)
    table_over name t i k j l named same agree =
        let e : Some same.entries_a ≡ Some same.entries_b =
        sym (found_at a name i same.entries_a rising_a same.table_a) ∙ agree ∙ found_at b name j same.entries_b rising_b same.table_b in
        let entries : same.entries_b ≡ same.entries_a = some_same same.entries_b same.entries_a (sym e) in
        record {
          name = name;
          named = named;
          i = i;
          j = j;
          at_a = refl;
          at_b = refl;
          entries = same.entries_a;
          table_a = same.table_a;
          table_b = same.table_b ∙ ap (λ (es : Table). Some (name, es)) entries;
        }

    agree_named : (t : Declaration) (name : List ℕ) → argument t ≡ Some name → All Agree (option_to_list (argument t)) → Agree name
    agree_named t name named all = (subst (λ o. All Agree (option_to_list o)) named all).0

    pub parents_same : (at next : Spot) (x y : Node) → At at x y → parent_spot at ≡ Some next → All Agree (table_at next)
        → Lists next (option_to_list (A.parent x)) (option_to_list (B.parent y))
    parents_same root next x y at e agree = cc
    parents_same (container c) next x y at e agree =
        subst (λ s. Lists s (option_to_list (A.parent x)) (option_to_list (B.parent y))) (some_same root next e)
        (lists_as root (A.parent x) (Some root_node) (B.parent y) (Some root_node) (ap A.parent at.at_a) (ap B.parent at.at_b) ((refl, refl), tt))
    parents_same (table c t) next x y at e agree =
        subst (λ s. Lists s (option_to_list (A.parent x)) (option_to_list (B.parent y))) (some_same (container c) next e)
        (lists_as (container c) (A.parent x) (option_map module_node (owner_of at.name models)) (B.parent y) (option_map module_node (owner_of at.name models))
        (ap A.parent at.at_a ∙ owner_a at.i at.name at.entries at.table_a) (ap B.parent at.at_b ∙ owner_b at.j at.name at.entries at.table_b)
        (module_parent (owner_of at.name models) c))
    parents_same (shape c t s) next x y at e agree =
        let is : table c t ≡ next = some_same (table c t) next e in
        let agrees = agree_named t at.name at.named (subst (λ s. All Agree (table_at s)) (sym is) agree) in
        subst (λ s. Lists s (option_to_list (A.parent x)) (option_to_list (B.parent y))) is
        (lists_as (table c t) (A.parent x) (Some (table_node at.i)) (B.parent y) (Some (table_node at.j)) (ap A.parent at.at_a) (ap B.parent at.at_b)
        (table_over at.name t at.i at.k at.j at.l at.named at.same agrees, tt))
    parents_same (leaf c t s d) next x y at e agree =
        subst (λ s. Lists s (option_to_list (A.parent x)) (option_to_list (B.parent y))) (some_same (shape c t s) next e)
        (lists_as (shape c t s) (A.parent x) (Some (entry_node at.i at.k)) (B.parent y) (Some (entry_node at.j at.l))
        (ap A.parent at.at_a ∙ low_parent_a at.is_item at.i at.k at.f at.n) (ap B.parent at.at_b ∙ low_parent_b at.is_item at.j at.l at.f at.n)
        (record { name = at.name; named = at.named; i = at.i; k = at.k; j = at.j; l = at.l; at_a = refl; at_b = refl; same = at.same }, tt))

    -- ---- children
    children_as : (at : Spot) (x u y v : Node) (name : List ℕ) → x ≡ u → y ≡ v → Lists at (A.children u name) (B.children v name) → Lists at (A.children x name) (B.children y name)
    children_as at x u y v name same_a same_b lists =
        subst (λ z. Lists at (A.children z name) (B.children y name)) (sym same_a)
        (subst (λ z. Lists at (A.children u name) (B.children z name)) (sym same_b) lists)

    -- of the root
    root_children : (o : Option ModelContainer) (next : Spot) (name : List ℕ) → option_map (λ x. container x.statement) o ≡ Some next
        → Lists next (A.children root_node name) (B.children root_node name)
    root_children None next name e = cc
    root_children (Some m) next name e =
        subst (λ s. Lists s (A.children root_node name) (B.children root_node name)) (some_same (container m.statement) next e)
        (module_parent (place_of_name name models.modules) m.statement)

    -- of the container of a module
    named_is : (t : Declaration) (name : List ℕ) (o : Option (List ℕ)) → argument t ≡ o → option_map_or (bytes_eq name) o false ≡ true → argument t ≡ Some name
    named_is t name None is e = cc
    named_is t name (Some s) is e = is ∙ ap Some (sym ((bytes_eq-Decides name s).0 e))

    named_by : (name : List ℕ) (u : Declaration) (ts : List Declaration) (t : Declaration) (c : Bool) → is_named name u ≡ c
        → cond c (Some u) (find_first (is_named name) ts) ≡ Some t → (find_first (is_named name) ts ≡ Some t → is_named name t ≡ true) → is_named name t ≡ true
    named_by name u ts t true is e more = subst (λ d. is_named name d ≡ true) (some_same u t e) is
    named_by name u ts t false is e more = more e

    first_named : (name : List ℕ) (ts : List Declaration) (t : Declaration) → find_first (is_named name) ts ≡ Some t → is_named name t ≡ true
    first_named name [] t e = cc
    first_named name (u ∷ ts) t e = named_by name u ts t (is_named name u) refl e (first_named name ts t)

    abbrev names_a : List (List ℕ)
    names_a = map (λ t. t.0) a

    abbrev names_b : List (List ℕ)
    names_b = map (λ t. t.0) b

    tables_placed : (t : Declaration) (name : List ℕ) (o u : Option ℕ) → argument t ≡ Some name → Agree name → place_of_name name names_a ≡ o → place_of_name name names_b ≡ u
        → AllZip (TableAt t) (option_to_list (option_map table_node o)) (option_to_list (option_map table_node u))
    tables_placed t name None None named agree is_a is_b = tt
    tables_placed t name None (Some j) named agree is_a is_b =
        let held = holder_at b j name (place_holds name names_b j is_b) in
        let there = found_there a name held.0 (agree ∙ found_at b name j held.0 rising_b held.1) in
        absurd (stands_nowhere name names_a there.0 is_a there.1)
    tables_placed t name (Some i) None named agree is_a is_b =
        let held = holder_at a i name (place_holds name names_a i is_a) in
        let there = found_there b name held.0 (sym agree ∙ found_at a name i held.0 rising_a held.1) in
        absurd (stands_nowhere name names_b there.0 is_b there.1)
    tables_placed t name (Some i) (Some j) named agree is_a is_b =
        let held_a = holder_at a i name (place_holds name names_a i is_a) in
        let held_b = holder_at b j name (place_holds name names_b j is_b) in
        let e : Some held_b.0 ≡ Some held_a.0 =
        sym (found_at b name j held_b.0 rising_b held_b.1) ∙ sym agree ∙ found_at a name i held_a.0 rising_a held_a.1 in
        let entries : held_b.0 ≡ held_a.0 = some_same held_b.0 held_a.0 e in (
          record {
            name = name;
            named = named;
            i = i;
            j = j;
            at_a = refl;
            at_b = refl;
            entries = held_a.0;
            table_a = held_a.1;
            table_b = held_b.1 ∙ ap (λ (es : Table). Some (name, es)) entries;
          },
          tt,
        )

    tables_owned : (c : Bool) (t : Declaration) (name : List ℕ) → argument t ≡ Some name → Agree name
        → AllZip (TableAt t) (cond c (option_to_list (option_map table_node (place_of_name name names_a))) []) (cond c (option_to_list (option_map table_node (place_of_name name names_b))) [])
    tables_owned false t name named agree = tt
    tables_owned true t name named agree = tables_placed t name (place_of_name name names_a) (place_of_name name names_b) named agree refl refl

    container_children : (c : Declaration) (o : Option Declaration) (next : Spot) (name : List ℕ) (m : ℕ) → find_first (is_named name) (tables_of c) ≡ o
        → option_map (table c) o ≡ Some next → All Agree (table_at next) → Lists next (A.children (module_node m) name) (B.children (module_node m) name)
    container_children c None next name m is e agree = cc
    container_children c (Some t) next name m is e agree =
        let same : table c t ≡ next = some_same (table c t) next e in
        let named = named_is t name (argument t) refl (first_named name (tables_of c) t is) in
        subst (λ s. Lists s (A.children (module_node m) name) (B.children (module_node m) name)) same
        (tables_owned (option_map_or (λ o. o == m) (owner_of name models) false) t name named
        (agree_named t name named (subst (λ s. All Agree (table_at s)) (sym same) agree)))

    -- of a table
    module _ (t : Declaration) (n : List ℕ) (named : argument t ≡ Some n) (i j : ℕ) (entries : Table) (at_a : slice_get a i ≡ Some (n, entries)) (at_b : slice_get b j ≡ Some (n, entries)) (name : List ℕ) where
      item_there : (es : Table) (k : ℕ) → k < length es → (e : List ℕ × Entry) × (slice_get es k ≡ Some e)
      item_there [] k lt = absurd (omega arith)
      item_there (e ∷ es) zero lt = (e, refl)
      item_there (e ∷ es) (suc k) lt = item_there es k (omega arith)

      entry_same : (k : ℕ) → k < length entries → SameEntry n i k j k
      entry_same k lt =
          let e = item_there entries k lt in
          record { key = e.0.0; fields = e.0.1; entries_a = entries; table_a = at_a; key_a = e.1; entries_b = entries; table_b = at_b; key_b = e.1 }

      one_entry : (c : Bool) (k : ℕ) (xs ys : List Node) → SameEntry n i k j k → AllZip (EntryAt t) xs ys
          → AllZip (EntryAt t) (cond c (entry_node i k ∷ []) [] ++ xs) (cond c (entry_node j k ∷ []) [] ++ ys)
      one_entry false k xs ys same more = more
      one_entry true k xs ys same more = (record { name = n; named = named; i = i; k = k; j = j; l = k; at_a = refl; at_b = refl; same = same }, more)

      entries_zip : (c k : ℕ) → k + c ≤ length entries → AllZip (EntryAt t) (entries_from models a p i name k c) (entries_from models b q j name k c)
      entries_zip zero k within = tt
      entries_zip (suc c) k within =
          let same = entry_same k (omega arith) in
          let e : is_shape_named name (shaped_row models a p i k) ≡ is_shape_named name (shaped_row models b q j k) = ap (is_shape_named name) (shaped_same n i k j k same) in
          let rest = entries_zip c (suc k) (omega arith) in
          subst (λ z. AllZip (EntryAt t) (cond (is_shape_named name (shaped_row models a p i k)) (entry_node i k ∷ []) [] ++ entries_from models a p i name (suc k) c)
          (cond z (entry_node j k ∷ []) [] ++ entries_from models b q j name (suc k) c)) e
          (one_entry (is_shape_named name (shaped_row models a p i k)) k (entries_from models a p i name (suc k) c) (entries_from models b q j name (suc k) c) same rest)

      abbrev count : Option (List ℕ × Table) → ℕ
      count o = option_map_or (λ p. length p.1) o 0

      pub table_zip : AllZip (EntryAt t) (A.children (table_node i) name) (B.children (table_node j) name)
      table_zip =
          subst (λ o. AllZip (EntryAt t) (entries_from models a p i name 0 (count o)) (B.children (table_node j) name)) (sym at_a)
          (subst (λ o. AllZip (EntryAt t) (entries_from models a p i name 0 (length entries)) (entries_from models b q j name 0 (count o))) (sym at_b)
          (entries_zip (length entries) 0 (omega arith)))

    table_children : (c t : Declaration) (o : Option Declaration) (next : Spot) (name : List ℕ) (x y : Node) → TableAt t x y → option_map (shape c t) o ≡ Some next
        → Lists next (A.children x name) (B.children y name)
    table_children c t None next name x y at e = cc
    table_children c t (Some s) next name x y at e =
        subst (λ z. Lists z (A.children x name) (B.children y name)) (some_same (shape c t s) next e)
        (children_as (shape c t s) x (table_node at.i) y (table_node at.j) name at.at_a at.at_b
        (table_zip t at.name at.named at.i at.j at.entries at.table_a at.table_b name))

    -- of an entry
    module _ (t : Declaration) (n : List ℕ) (named : argument t ≡ Some n) (i k j l : ℕ) (same : SameEntry n i k j l) (name : List ℕ) where
      low : (c : Bool) (f m : ℕ) → LeafAt t (low_node c i k f m) (low_node c j l f m)
      low c f m = record { name = n; named = named; i = i; k = k; j = j; l = l; is_item = c; f = f; n = m; at_a = refl; at_b = refl; same = same }

      items_zip : (f : ℕ) (ns : List ℕ) → AllZip (LeafAt t) (map (item_node i k f) ns) (map (item_node j l f) ns)
      items_zip f [] = tt
      items_zip f (m ∷ ns) = (low true f m, items_zip f ns)

      held_zip : (f : ℕ) (h : Held) → AllZip (LeafAt t) (held_nodes i k f h) (held_nodes j l f h)
      held_zip f absent = tt
      held_zip f (one s) = (low false f 0, tt)
      held_zip f (items ts) = items_zip f (counted_from 0 (length ts))

      abbrev leaves_by : ℕ → ℕ → Row × Shape → Option ℕ → List Node
      leaves_by u v r o = option_map_or (λ f. held_nodes u v f (held_at r.0 r.1 f)) o []

      abbrev leaves_in : ℕ → ℕ → Option (Row × Shape) → List Node
      leaves_in u v r = option_map_or (λ r. leaves_by u v r (place_of_name name (leaf_names r.1))) r []

      placed_zip : (r : Row × Shape) (o : Option ℕ) → AllZip (LeafAt t) (leaves_by i k r o) (leaves_by j l r o)
      placed_zip r None = tt
      placed_zip r (Some f) = held_zip f (held_at r.0 r.1 f)

      leaves_zip : (r : Option (Row × Shape)) → AllZip (LeafAt t) (leaves_in i k r) (leaves_in j l r)
      leaves_zip None = tt
      leaves_zip (Some r) = placed_zip r (place_of_name name (leaf_names r.1))

      pub entry_zip : AllZip (LeafAt t) (A.children (entry_node i k) name) (B.children (entry_node j l) name)
      entry_zip =
          subst (λ r. AllZip (LeafAt t) (leaves_in i k (shaped_row models a p i k)) (leaves_in j l r)) (shaped_same n i k j l same)
          (leaves_zip (shaped_row models a p i k))

    pub entry_children : (t : Declaration) (name : List ℕ) (x y : Node) → EntryAt t x y → AllZip (LeafAt t) (A.children x name) (B.children y name)
    entry_children t name x y at =
        subst (λ z. AllZip (LeafAt t) (A.children z name) (B.children y name)) (sym at.at_a)
        (subst (λ z. AllZip (LeafAt t) (A.children (entry_node at.i at.k) name) (B.children z name)) (sym at.at_b)
        (entry_zip t at.name at.named at.i at.k at.j at.l at.same name))

    leaf_spot : (c t s : Declaration) (o : Option Declaration) (next : Spot) (name : List ℕ) (x y : Node) → EntryAt t x y → option_map (leaf c t s) o ≡ Some next
        → Lists next (A.children x name) (B.children y name)
    leaf_spot c t s None next name x y at e = cc
    leaf_spot c t s (Some d) next name x y at e =
        subst (λ z. Lists z (A.children x name) (B.children y name)) (some_same (leaf c t s d) next e) (entry_children t name x y at)

    -- the children of a name
    pub children_same : (modules : List Module) (at next : Spot) (name : List ℕ) (x y : Node) → At at x y → spot_named modules name at ≡ Some next → All Agree (table_at next)
        → Lists next (A.children x name) (B.children y name)
    children_same modules root next name x y at e agree =
        children_as next x root_node y root_node name at.0 at.1
        (root_children (find_first (λ x. is_named name x.statement) (containers_of modules)) next name e)
    children_same modules (container c) next name x y at e agree =
        children_as next x (module_node at.m) y (module_node at.m) name at.at_a at.at_b
        (container_children c (find_first (is_named name) (tables_of c)) next name at.m refl e agree)
    children_same modules (table c t) next name x y at e agree = table_children c t (find_first (is_named name) (shapes_in t)) next name x y at e
    children_same modules (shape c t s) next name x y at e agree = leaf_spot c t s (find_first (is_named name) (leaves_of s)) next name x y at e
    children_same modules (leaf c t s d) next name x y at e agree = cc
