-- What a move's operation makes of the tree of a configuration.
use Rattle.std.proofs.Common.{◌≡◌, ◌≢◌, ℕ, zero, suc, ◌<◌, ◌≤◌, List, [], ◌∷◌, ◌++◌, length, take, drop, map, not, Bool, true, false, cond, Option, Some, None, option_map, option_and_then, is_some, IsSome, IsSomeAnd, unwrap_or, Ok, refl, sym, ap, ◌∙◌, subst, arith}
use Rattle.std.proofs.lemmas.Option.{slice_get-get_or, slice_get-map}
use Rattle.std.specs.List.{insert, remove as removed_at}
use Rattle.std.specs.FinMap.Entries.{by_order}
use Rattle.std.specs.Option.{option_map_or}
use Rattle.std.specs.Ordering.{eq_by_cmp}
use Rattle.std.specs.declared.cmp.Ordering.{Ordering}
use Rattle.std.specs.declared.cmp.Ordering.TheVariants.{Less, Equal, Greater}
use Rattle.host_core.specs.Names.{name_cmp}
use Rattle.conf_doc.specs.Changes.{HasPlace, HasParent, Fits, with_part}
use Rattle.conf_doc.specs.Configuration.{mapping, part_tree, entry_tree, table_tree, tree, value_tree}
use Rattle.conf_doc.specs.Document.{Document, items_of, list, object, pairs, members_of, text}
use Rattle.conf_doc.specs.Pairs.{find, put, without, change_part}
use Rattle.conf_doc.specs.declared.configuration.Config.{Config}
use Rattle.conf_doc.specs.declared.configuration.Entry.{Entry}
use Rattle.conf_doc.specs.declared.configuration.Table.{Table}
use Rattle.conf_doc.specs.declared.configuration.Value.{Value}
use Rattle.conf_doc.specs.declared.configuration.Value.TheVariants.{Text, List as Listed}
use Rattle.conf_doc.specs.declared.parts.Part.{Part}
use Rattle.conf_doc.specs.declared.parts.Part.TheVariants as part
use Rattle.host_core.specs.Answers.{◌>>=◌}
use Rattle.patch_core.specs.Apply.{apply_plain, after_add, after_remove, after_replace, below, edit_parent, edit_there, result_of, with_below, with_new, without_below, NodeEdit}
use Rattle.patch_core.specs.Operation.{Operation}
use Rattle.patch_core.specs.declared.errors.FailWhy.{FailWhy}
use Rattle.patch_core.specs.declared.errors.FailWhy.TheVariants.{NoParent, NoTarget}
use Rattle.patch_core.proofs.Nodes.{with_new_at, below_item, cut_item as cut_at_index}
use Rattle.move_core.specs.Moves.{IsDefined, items_at, list_at, list_in, list_part, step}
use Rattle.move_core.specs.Operations.{index_text, op}
use Rattle.move_core.proofs.IndexTokens.{index_token}
use Rattle.move_core.specs.declared.moves.Move.{Move}
use Rattle.move_core.specs.declared.moves.Move.TheVariants.{Add, Remove, Replace, AddItem, RemoveItem}

pairs-members_of : (ms : List (List ℕ × Document)) → pairs (members_of ms) ≡ ms
pairs-members_of [] = refl
pairs-members_of (m ∷ ms) = ap (λ ns. m ∷ ns) (pairs-members_of ms)

picked : {A B : Type 0} (f : A → B) (b : Bool) (a : A) (o : Option A) → cond b (Some (f a)) (option_map f o) ≡ option_map f (cond b (Some a) o)
picked f true a o = refl
picked f false a o = refl

pub some_is : {A : Type 0} (o : Option A) → IsSome o → (a : A) × (o ≡ Some a)
some_is None some = absurd cc
some_is (Some a) some = (a, refl)

pub some_there : {A : Type 0} {o : Option A} {a : A} → o ≡ Some a → IsSome o
some_there is = ap is_some is

-- ---- a map of what f makes of each part

module _ {A : Type 0} (f : A → Document) where
  abbrev rows : List (List ℕ × A) → List (List ℕ × Document)
  rows ps = map (λ p. (p.0, f p.1)) ps

  find-rows : (k : List ℕ) (ps : List (List ℕ × A)) → find k (rows ps) ≡ option_map f (find k ps)
  find-rows k [] = refl
  find-rows k (p ∷ ps) =
      ap (λ o. cond (eq_by_cmp name_cmp k p.0) (Some (f p.1)) o) (find-rows k ps)
      ∙ picked f (eq_by_cmp name_cmp k p.0) p.1 (find k ps)

  placed : (o : Ordering) (k : List ℕ) (a : A) (p : List ℕ × A) (qs ps : List (List ℕ × A))
      → by_order o ((k, f a) ∷ (p.0, f p.1) ∷ rows ps) ((p.0, f a) ∷ rows ps) ((p.0, f p.1) ∷ rows qs)
      ≡ rows (by_order o ((k, a) ∷ p ∷ ps) ((p.0, a) ∷ ps) (p ∷ qs))
  placed Less k a p qs ps = refl
  placed Equal k a p qs ps = refl
  placed Greater k a p qs ps = refl

  put-rows : (k : List ℕ) (a : A) (ps : List (List ℕ × A)) → put k (f a) (rows ps) ≡ rows (put k a ps)
  put-rows k a [] = refl
  put-rows k a (p ∷ ps) =
      ap (λ qs. by_order (name_cmp k p.0) ((k, f a) ∷ (p.0, f p.1) ∷ rows ps) ((p.0, f a) ∷ rows ps) ((p.0, f p.1) ∷ qs)) (put-rows k a ps)
      ∙ placed (name_cmp k p.0) k a p (put k a ps) ps

  left_out : (b : Bool) (p : List ℕ × A) (qs : List (List ℕ × A)) → cond b ((p.0, f p.1) ∷ rows qs) (rows qs) ≡ rows (cond b (p ∷ qs) qs)
  left_out true p qs = refl
  left_out false p qs = refl

  without-rows : (k : List ℕ) (ps : List (List ℕ × A)) → without k (rows ps) ≡ rows (without k ps)
  without-rows k [] = refl
  without-rows k (p ∷ ps) =
      let own = not (eq_by_cmp name_cmp k p.0) in
      ap (λ qs. cond own ((p.0, f p.1) ∷ qs) qs) (without-rows k ps) ∙ left_out own p (without k ps)

  -- a pair put in, or left out
  put_in : (t : List ℕ) (a : A) (ps : List (List ℕ × A)) → object (members_of (put t (f a) (pairs (members_of (rows ps))))) ≡ mapping f (put t a ps)
  put_in t a ps =
      ap (λ ms. object (members_of (put t (f a) ms))) (pairs-members_of (rows ps))
      ∙ ap (λ ms. object (members_of ms)) (put-rows t a ps)

  taken_out : (t : List ℕ) (ps : List (List ℕ × A)) → object (members_of (without t (pairs (members_of (rows ps))))) ≡ mapping f (without t ps)
  taken_out t ps =
      ap (λ ms. object (members_of (without t ms))) (pairs-members_of (rows ps))
      ∙ ap (λ ms. object (members_of ms)) (without-rows t ps)

  found_below : (missing : FailWhy) (t : List ℕ) (ms : List (List ℕ × Document)) (d : Document) → find t (pairs (members_of ms)) ≡ Some d → below missing t (object (members_of ms)) ≡ Ok d
  found_below missing t ms d is = rw is refl

  there : (missing : FailWhy) (t : List ℕ) (ps : List (List ℕ × A)) (a : A) → find t ps ≡ Some a → below missing t (mapping f ps) ≡ Ok (f a)
  there missing t ps a is =
      found_below missing t (rows ps) (f a) (ap (find t) (pairs-members_of (rows ps)) ∙ find-rows t ps ∙ ap (option_map f) is)

  add_there : (t : List ℕ) (a : A) (ps : List (List ℕ × A)) → with_new t (f a) (mapping f ps) ≡ Ok (mapping f (put t a ps))
  add_there t a ps = ap Ok (put_in t a ps)

  replace_there : (t : List ℕ) (a : A) (ps : List (List ℕ × A)) → IsSome (find t ps) → edit_there (λ last node. with_below last (f a) node) t (mapping f ps) ≡ Ok (mapping f (put t a ps))
  replace_there t a ps some =
      let old = some_is (find t ps) some in
      ap (λ r. r >>= (λ d. Ok (with_below t (f a) (mapping f ps)))) (there NoTarget t ps old.0 old.1)
      ∙ ap Ok (put_in t a ps)

  remove_there : (t : List ℕ) (ps : List (List ℕ × A)) → IsSome (find t ps) → edit_there without_below t (mapping f ps) ≡ Ok (mapping f (without t ps))
  remove_there t ps some =
      let old = some_is (find t ps) some in
      ap (λ r. r >>= (λ d. Ok (without_below t (mapping f ps)))) (there NoTarget t ps old.0 old.1)
      ∙ ap Ok (taken_out t ps)

  -- an edit below a pair
  edit_below : (edit : NodeEdit) (t next : List ℕ) (rest : List (List ℕ)) (ps : List (List ℕ × A)) (a b : A) → find t ps ≡ Some a → edit_parent edit next rest (f a) ≡ Ok (f b) → edit_parent edit t (next ∷ rest) (mapping f ps) ≡ Ok (mapping f (put t b ps))
  edit_below edit t next rest ps a b is inner =
      ap (λ r. r >>= (λ child. edit_parent edit next rest child >>= (λ new. Ok (with_below t new (mapping f ps))))) (there NoParent t ps a is)
      ∙ ap (λ r. r >>= (λ new. Ok (with_below t new (mapping f ps)))) inner
      ∙ ap Ok (put_in t b ps)

-- what is found is changed
changed : {A : Type 0} (t : List ℕ) (g : A → A) (ps : List (List ℕ × A)) (a : A) → find t ps ≡ Some a → put t (g a) ps ≡ change_part t g ps
changed t g ps a is = ap (λ o. option_map_or (λ x. put t (g x) ps) o ps) (sym is)

-- ---- places that are there

record FoundTable (c : Config) (t : List ℕ) : Type 0 where
  table : Table
  at : find t c ≡ Some table

record FoundEntry (c : Config) (t k : List ℕ) : Type 0 where
  table : Table
  entry : Entry
  at_table : find t c ≡ Some table
  at_entry : find k table ≡ Some entry

record FoundValue (c : Config) (t k f : List ℕ) : Type 0 where
  table : Table
  entry : Entry
  at_table : find t c ≡ Some table
  at_entry : find k table ≡ Some entry
  at_value : IsSome (find f entry)

mapped_is : {A B : Type 0} (g : A → B) (o : Option A) → IsSome (option_map g o) → IsSome o
mapped_is g None some = some
mapped_is g (Some a) some = refl

found_table : (c : Config) (t : List ℕ) → HasPlace c (t ∷ []) → FoundTable c t
found_table c t some =
    let f = some_is (find t c) (mapped_is part.Table (find t c) some) in
    record { table = f.0; at = f.1 }

found_entry : (c : Config) (t k : List ℕ) → HasPlace c (t ∷ k ∷ []) → FoundEntry c t k
found_entry c t k some = look (find t c) refl some
  where
    look : (o : Option Table) → o ≡ find t c → IsSome (option_and_then (λ table. option_map part.Entry (find k table)) o) → FoundEntry c t k
    look None is some = absurd cc
    look (Some table) is some =
        let f = some_is (find k table) (mapped_is part.Entry (find k table) some) in
        record { table = table; entry = f.0; at_table = sym is; at_entry = f.1 }

found_value : (c : Config) (t k f : List ℕ) → HasPlace c (t ∷ k ∷ f ∷ []) → FoundValue c t k f
found_value c t k f some = look (find t c) refl some
  where
    below_table : (table : Table) → Some table ≡ find t c → (o : Option Entry) → o ≡ find k table → IsSome (option_and_then (λ entry. option_map part.Value (find f entry)) o) → FoundValue c t k f
    below_table table is None there some = absurd cc
    below_table table is (Some entry) there some =
        record { table = table; entry = entry; at_table = sym is; at_entry = sym there; at_value = mapped_is part.Value (find f entry) some }

    look : (o : Option Table) → o ≡ find t c → IsSome (option_and_then (λ table. option_and_then (λ entry. option_map part.Value (find f entry)) (find k table)) o) → FoundValue c t k f
    look None is some = absurd cc
    look (Some table) is some = below_table table is (find k table) refl some

-- ---- edits of a configuration's tree

entry_edit : (edit : NodeEdit) (c : Config) (t k : List ℕ) (f : FoundTable c t) (g : Table → Table) → edit k (table_tree f.table) ≡ Ok (table_tree (g f.table)) → edit_parent edit t (k ∷ []) (tree c) ≡ Ok (tree (change_part t g c))
entry_edit edit c t k f g inner =
    edit_below table_tree edit t k [] c f.table (g f.table) f.at inner
    ∙ ap (λ d. Ok (tree d)) (changed t g c f.table f.at)

value_edit : (edit : NodeEdit) (c : Config) (t k f : List ℕ) (table : Table) (entry : Entry) (g : Entry → Entry) → find t c ≡ Some table → find k table ≡ Some entry → edit f (entry_tree entry) ≡ Ok (entry_tree (g entry)) → edit_parent edit t (k ∷ f ∷ []) (tree c) ≡ Ok (tree (change_part t (change_part k g) c))
value_edit edit c t k f table entry g at_table at_entry inner =
    let below = edit_below entry_tree edit k f [] table entry (g entry) at_entry inner ∙ ap (λ d. Ok (table_tree d)) (changed k g table entry at_entry) in
    edit_below table_tree edit t k (f ∷ []) c table (change_part k g table) at_table below
    ∙ ap (λ d. Ok (tree d)) (changed t (change_part k g) c table at_table)

-- ---- lists at places

pub record FoundList (c : Config) (t k f : List ℕ) (items : List (List ℕ)) : Type 0 where
  pub table : Table
  pub entry : Entry
  pub at_table : find t c ≡ Some table
  pub at_entry : find k table ≡ Some entry
  pub at_field : find f entry ≡ Some (Listed items)

no_list_in : {A : Type 0} (g : A → Part) (o : Option A) (items : List (List ℕ)) → ((a : A) → list_in (g a) ≡ None)
    → option_and_then list_in (option_map g o) ≢ Some items
no_list_in g None items none is = cc
no_list_in g (Some a) items none is = let no = none a in cc

found_list : (c : Config) (t k f : List ℕ) (items : List (List ℕ)) → list_at c (t ∷ k ∷ f ∷ []) ≡ Some items → FoundList c t k f items
found_list c t k f items is = look (find t c) refl is
  where
    same_Some : {A : Type 0} (x y : A) → Some x ≡ Some y → x ≡ y
    same_Some x y e = cc

    at_value : (table : Table) → find t c ≡ Some table → (entry : Entry) → find k table ≡ Some entry → (o : Option Value) → find f entry ≡ o → option_and_then list_in (option_map part.Value o) ≡ Some items → FoundList c t k f items
    at_value table first entry second None third is = absurd cc
    at_value table first entry second (Some (Text s)) third is = absurd cc
    at_value table first entry second (Some (Listed ss)) third is =
        record { table = table; entry = entry; at_table = first; at_entry = second; at_field = third ∙ ap (λ ts. Some (Listed ts)) (same_Some ss items is) }

    below_table : (table : Table) → find t c ≡ Some table → (o : Option Entry) → find k table ≡ o → option_and_then list_in (option_and_then (λ entry. option_map part.Value (find f entry)) o) ≡ Some items → FoundList c t k f items
    below_table table first None second is = absurd cc
    below_table table first (Some entry) second is = at_value table first entry second (find f entry) refl is

    look : (o : Option Table) → find t c ≡ o → option_and_then list_in (option_and_then (λ table. option_and_then (λ entry. option_map part.Value (find f entry)) (find k table)) o) ≡ Some items → FoundList c t k f items
    look None first is = absurd cc
    look (Some table) first is = below_table table first (find k table) refl is

-- a list stands at three names alone
pub record ListNames (c : Config) (p : List (List ℕ)) (items : List (List ℕ)) : Type 0 where
  pub table : List ℕ
  pub key : List ℕ
  pub field : List ℕ
  pub names : p ≡ table ∷ key ∷ field ∷ []
  pub found : FoundList c table key field items

pub list_names : (c : Config) (p : List (List ℕ)) (items : List (List ℕ)) → list_at c p ≡ Some items → ListNames c p items
list_names c [] items is = absurd cc
list_names c (t ∷ []) items is = absurd (no_list_in part.Table (find t c) items (λ a. refl) is)
list_names c (t ∷ k ∷ []) items is = absurd (no_entry (find t c) is)
  where
    no_entry : (o : Option Table) → option_and_then list_in (option_and_then (λ table. option_map part.Entry (find k table)) o) ≢ Some items
    no_entry None is = cc
    no_entry (Some table) is = no_list_in part.Entry (find k table) items (λ a. refl) is
list_names c (t ∷ k ∷ f ∷ []) items is = record { table = t; key = k; field = f; names = refl; found = found_list c t k f items is }
list_names c (t ∷ k ∷ f ∷ n ∷ ns) items is = absurd cc

-- ---- edits of a list

map_take : {A B : Type 0} (g : A → B) (i : ℕ) (xs : List A) → take i (map g xs) ≡ map g (take i xs)
map_take g zero xs = refl
map_take g (suc i) [] = refl
map_take g (suc i) (x ∷ xs) = ap (λ ys. g x ∷ ys) (map_take g i xs)

map_drop : {A B : Type 0} (g : A → B) (i : ℕ) (xs : List A) → drop i (map g xs) ≡ map g (drop i xs)
map_drop g zero xs = refl
map_drop g (suc i) [] = refl
map_drop g (suc i) (x ∷ xs) = map_drop g i xs

map_append : {A B : Type 0} (g : A → B) (xs ys : List A) → map g xs ++ map g ys ≡ map g (xs ++ ys)
map_append g [] ys = refl
map_append g (x ∷ xs) ys = ap (λ zs. g x ∷ zs) (map_append g xs ys)

map_insert : {A B : Type 0} (g : A → B) (xs : List A) (i : ℕ) (x : A) → insert (map g xs) i (g x) ≡ map g (insert xs i x)
map_insert g xs i x =
    (λ j. map_take g i xs j ++ g x ∷ map_drop g i xs j) ∙ map_append g (take i xs) (x ∷ drop i xs)

map_remove : {A B : Type 0} (g : A → B) (xs : List A) (i : ℕ) → removed_at (map g xs) i ≡ map g (removed_at xs i)
map_remove g xs i =
    (λ j. map_take g i xs j ++ map_drop g (suc i) xs j) ∙ map_append g (take i xs) (drop (suc i) xs)

long_as : {A B : Type 0} (g : A → B) (xs : List A) → length (map g xs) ≡ length xs
long_as g [] = refl
long_as g (x ∷ xs) = ap suc (long_as g xs)

-- the tree of a list of texts with one more, or with one fewer
put_item : (items : List (List ℕ)) (i : ℕ) (x : List ℕ) → i ≤ length items → with_new (index_text i) (text x) (value_tree (Listed items)) ≡ Ok (value_tree (Listed (insert items i x)))
put_item items i x within =
    with_new_at (index_text i) (text x) (map text items) i (index_token i) (omega (arith, long_as text items))
    ∙ ap (λ ds. Ok (list (items_of ds))) (map_insert text items i x)

cut_item : (items : List (List ℕ)) (i : ℕ) → i < length items → edit_there without_below (index_text i) (value_tree (Listed items)) ≡ Ok (value_tree (Listed (removed_at items i)))
cut_item items i within =
    let at = slice_get-get_or items i [] within in
    ap (λ r. r >>= (λ d. Ok (without_below (index_text i) (value_tree (Listed items)))))
    (below_item NoTarget (index_text i) (map text items) i _ (index_token i) (slice_get-map text items i ∙ ap (option_map text) at))
    ∙ ap Ok (cut_at_index (index_text i) (map text items) i (index_token i))
    ∙ ap (λ ds. Ok (list (items_of ds))) (map_remove text items i)

-- an edit of the list at three names
list_edit : (edit : NodeEdit) (c : Config) (t k f token : List ℕ) (items new : List (List ℕ)) → FoundList c t k f items
    → edit token (value_tree (Listed items)) ≡ Ok (value_tree (Listed new))
    → edit_parent edit t (k ∷ f ∷ token ∷ []) (tree c) ≡ Ok (tree (with_part c (t ∷ k ∷ f ∷ []) (Some (list_part new))))
list_edit edit c t k f token items new found inner =
    let g = put f (Listed new) in
    let at_list = edit_below value_tree edit f token [] found.entry (Listed items) (Listed new) found.at_field inner in
    let at_entry = edit_below entry_tree edit k f (token ∷ []) found.table found.entry (g found.entry) found.at_entry at_list ∙ ap (λ d. Ok (table_tree d)) (changed k g found.table found.entry found.at_entry) in
    edit_below table_tree edit t k (f ∷ token ∷ []) c found.table (change_part k g found.table) found.at_table at_entry
    ∙ ap (λ d. Ok (tree d)) (changed t (change_part k g) c found.table found.at_table)

-- ---- moves

added : (c : Config) (p : List (List ℕ)) (a : Part) → Fits p a → HasParent c p → after_add p (part_tree a) (tree c) ≡ Ok (tree (with_part c p (Some a)))
added c [] a fits parent = absurd parent
added c (t ∷ []) (part.Table table) fits parent = add_there table_tree t table c
added c (t ∷ []) (part.Entry entry) fits parent = absurd (omega arith)
added c (t ∷ []) (part.Value value) fits parent = absurd (omega arith)
added c (t ∷ k ∷ []) (part.Table table) fits parent = absurd (omega arith)
added c (t ∷ k ∷ []) (part.Entry entry) fits parent =
    let f = found_table c t parent in
    entry_edit (λ last node. with_new last (entry_tree entry) node) c t k f (put k entry) (add_there entry_tree k entry f.table)
added c (t ∷ k ∷ []) (part.Value value) fits parent = absurd (omega arith)
added c (t ∷ k ∷ n ∷ []) (part.Table table) fits parent = absurd (omega arith)
added c (t ∷ k ∷ n ∷ []) (part.Entry entry) fits parent = absurd (omega arith)
added c (t ∷ k ∷ n ∷ []) (part.Value value) fits parent =
    let f = found_entry c t k parent in
    value_edit (λ last node. with_new last (value_tree value) node) c t k n f.table f.entry (put n value) f.at_table f.at_entry (add_there value_tree n value f.entry)
added c (t ∷ k ∷ n ∷ m ∷ ms) (part.Table table) fits parent = absurd (omega arith)
added c (t ∷ k ∷ n ∷ m ∷ ms) (part.Entry entry) fits parent = absurd (omega arith)
added c (t ∷ k ∷ n ∷ m ∷ ms) (part.Value value) fits parent = absurd (omega arith)

removed : (c : Config) (p : List (List ℕ)) → HasPlace c p → after_remove p (tree c) ≡ Ok (tree (with_part c p None))
removed c [] there = absurd cc
removed c (t ∷ []) there = remove_there table_tree t c (mapped_is part.Table (find t c) there)
removed c (t ∷ k ∷ []) there =
    let f = found_entry c t k there in
    entry_edit (edit_there without_below) c t k (record { table = f.table; at = f.at_table }) (without k)
    (remove_there entry_tree k f.table (some_there f.at_entry))
removed c (t ∷ k ∷ n ∷ []) there =
    let f = found_value c t k n there in
    value_edit (edit_there without_below) c t k n f.table f.entry (without n) f.at_table f.at_entry
    (remove_there value_tree n f.entry f.at_value)
removed c (t ∷ k ∷ n ∷ m ∷ ms) there = absurd cc

replaced : (c : Config) (p : List (List ℕ)) (a : Part) → Fits p a → HasPlace c p → after_replace p (part_tree a) (tree c) ≡ Ok (tree (with_part c p (Some a)))
replaced c [] a fits there = absurd cc
replaced c (t ∷ []) (part.Table table) fits there = replace_there table_tree t table c (mapped_is part.Table (find t c) there)
replaced c (t ∷ []) (part.Entry entry) fits there = absurd (omega arith)
replaced c (t ∷ []) (part.Value value) fits there = absurd (omega arith)
replaced c (t ∷ k ∷ []) (part.Table table) fits there = absurd (omega arith)
replaced c (t ∷ k ∷ []) (part.Entry entry) fits there =
    let f = found_entry c t k there in
    entry_edit (edit_there (λ last node. with_below last (entry_tree entry) node)) c t k
    (record { table = f.table; at = f.at_table }) (put k entry)
    (replace_there entry_tree k entry f.table (some_there f.at_entry))
replaced c (t ∷ k ∷ []) (part.Value value) fits there = absurd (omega arith)
replaced c (t ∷ k ∷ n ∷ []) (part.Table table) fits there = absurd (omega arith)
replaced c (t ∷ k ∷ n ∷ []) (part.Entry entry) fits there = absurd (omega arith)
replaced c (t ∷ k ∷ n ∷ []) (part.Value value) fits there =
    let f = found_value c t k n there in
    value_edit (edit_there (λ last node. with_below last (value_tree value) node)) c t k n f.table f.entry
    (put n value) f.at_table f.at_entry (replace_there value_tree n value f.entry f.at_value)
replaced c (t ∷ k ∷ n ∷ m ∷ ms) a fits there = absurd cc

items_are : (c : Config) (p : List (List ℕ)) (items : List (List ℕ)) → list_at c p ≡ Some items → items_at c p ≡ items
items_are c p items is = ap (λ o. unwrap_or o []) is

item_added : (c : Config) (p : List (List ℕ)) (i : ℕ) (x : List ℕ) (items : List (List ℕ)) → list_at c p ≡ Some items → i ≤ length items
    → after_add (p ++ index_text i ∷ []) (text x) (tree c) ≡ Ok (tree (with_part c p (Some (list_part (insert items i x)))))
item_added c p i x items is within =
    let at = list_names c p items is in
    subst (λ q. after_add (q ++ index_text i ∷ []) (text x) (tree c) ≡ Ok (tree (with_part c q (Some (list_part (insert items i x)))))) (sym at.names)
    (list_edit (λ last node. with_new last (text x) node) c at.table at.key at.field (index_text i) items (insert items i x) at.found (put_item items i x within))

item_removed : (c : Config) (p : List (List ℕ)) (i : ℕ) (items : List (List ℕ)) → list_at c p ≡ Some items → i < length items
    → after_remove (p ++ index_text i ∷ []) (tree c) ≡ Ok (tree (with_part c p (Some (list_part (removed_at items i)))))
item_removed c p i items is within =
    let at = list_names c p items is in
    subst (λ q. after_remove (q ++ index_text i ∷ []) (tree c) ≡ Ok (tree (with_part c q (Some (list_part (removed_at items i)))))) (sym at.names)
    (list_edit (edit_there without_below) c at.table at.key at.field (index_text i) items (removed_at items i) at.found (cut_item items i within))

pub list_there : {P : List (List ℕ) → Type 0} (o : Option (List (List ℕ))) → IsSomeAnd o P → (items : List (List ℕ)) × (o ≡ Some items) × P items
list_there None is = absurd is
list_there (Some items) is = (items, refl, is)

operated : (c : Config) (m : Move) → IsDefined c m → result_of (op m) (tree c) ≡ Ok (tree (step c m))
operated c (Add p a) is = added c p a is.0 is.1
operated c (Remove p) is = removed c p is
operated c (Replace p a) is = replaced c p a is.0 is.1
operated c (AddItem p i x) is =
    let at = list_there (list_at c p) is in
    item_added c p i x at.0 at.1 at.2
    ∙ ap (λ items. Ok (tree (with_part c p (Some (list_part (insert items i x)))))) (sym (items_are c p at.0 at.1))
operated c (RemoveItem p i) is =
    let at = list_there (list_at c p) is in
    item_removed c p i at.0 at.1 at.2
    ∙ ap (λ items. Ok (tree (with_part c p (Some (list_part (removed_at items i)))))) (sym (items_are c p at.0 at.1))

alone : (o : Operation) (d new : Document) → result_of o d ≡ Ok new → apply_plain (o ∷ []) d ≡ Ok new
alone o d new is = rw is refl

-- the move's operation alone is a patch that makes the tree of the result
pub plainly : (c : Config) (m : Move) → IsDefined c m → apply_plain (op m ∷ []) (tree c) ≡ Ok (tree (step c m))
plainly c m is = alone (op m) (tree c) (tree (step c m)) (operated c m is)
