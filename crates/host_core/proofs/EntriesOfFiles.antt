-- The entries of a map from names to bytes, and the files that they stand for.
use Rattle.std.proofs.Common.{◌≡◌, ℕ, arith, length, Bool, true, false, cond, List, [], ◌∷◌, ◌++◌, map, Option, Some, None, refl, sym, ap, ◌∙◌, Vec, String, string_bytes}
use Rattle.std.specs.Prelude.{option_map}
use Rattle.std.specs.declared.alloc.Global.{Global}
use Rattle.std.specs.declared.cmp.Ordering.{Ordering}
use Rattle.std.specs.declared.cmp.Ordering.TheVariants.{Less, Equal, Greater}
use Rattle.std.specs.Ordering.{is_eq, eq_by_cmp, match_ordering}
use Rattle.std.specs.Cmp.{tied_itself}
use Rattle.std.specs.Cmp.Lexicographic.{nat_list_cmp_total}
use Rattle.std.specs.FinMap as finmap
use Rattle.std.specs.FinMap.{get, insert, remove, entries}
use Rattle.std.specs.FinMap.Entries.{put, find-put, by_order}
use Rattle.std.specs.BTreeMap.{insert_entry, is_at}
use Rattle.std.specs.Map.{lookup, remove_entry, keys_of}
use Rattle.std.specs.String.{string_cmp}
use Rattle.std.specs.List.{AllByRecursion}
use Rattle.std.specs.List.Sorted.{IsStrictlySortedBy}
use Rattle.host_core.specs.Names.{name_cmp}
use Rattle.host_core.specs.MemoryHost.{files_of}
use Rattle.host_core.specs.State.{Files, with_file, rename}
use Rattle.host_core.specs.Entries.{named, files_in}

abbrev Entry : Type 0
Entry = String Global × Vec ℕ Global

-- ties of names are equations
pub same_name : finmap.IsAntisymmetric name_cmp
same_name = finmap.slice_cmp-IsAntisymmetric finmap.nat_cmp-IsAntisymmetric

-- maps of files that answer alike are equal
pub same_files : (m n : Files) → ((q : List ℕ) → get m q ≡ get n q) → m ≡ n
same_files m n alike = finmap.same_map nat_list_cmp_total same_name m n alike

map_insert : (es : List Entry) (k : String Global) (v : Vec ℕ Global)
    → map named (insert_entry string_cmp es k v) ≡ put name_cmp (string_bytes k) v.items (map named es)
map_insert [] k v = refl
map_insert (e ∷ es) k v = by (string_cmp k e.0) (map_insert es k v)
  where
    by : (r : Ordering) → map named (insert_entry string_cmp es k v) ≡ put name_cmp (string_bytes k) v.items (map named es) → map named (match_ordering r ((k, v) ∷ e ∷ es) ((e.0, v) ∷ es) (e ∷ insert_entry string_cmp es k v))
        ≡ by_order r ((string_bytes k, v.items) ∷ named e ∷ map named es) ((string_bytes e.0, v.items) ∷ map named es) (named e ∷ put name_cmp (string_bytes k) v.items (map named es))
    by Less later = refl
    by Equal later = refl
    by Greater later = ap (λ (rest : List (List ℕ × List ℕ)). named e ∷ rest) later

-- an insertion in the map is one in the files
pub files_in-insert : (es : List Entry) (k : String Global) (v : Vec ℕ Global)
    → files_in (insert_entry string_cmp es k v) ≡ insert (files_in es) (string_bytes k) v.items
files_in-insert es k v = same_files _ _ (λ q.
    finmap.get-from_entries nat_list_cmp_total _ q
    ∙ ap (finmap.find name_cmp q) (map_insert es k v)
    ∙ find-put name_cmp nat_list_cmp_total q (string_bytes k) v.items (map named es)
    ∙ sym (finmap.get-insert nat_list_cmp_total (files_in es) (string_bytes k) v.items q
    ∙ ap (cond (eq_by_cmp name_cmp q (string_bytes k)) (Some v.items)) (finmap.get-from_entries nat_list_cmp_total (map named es) q)))

find_named : (es : List Entry) (name : List ℕ)
    → finmap.find name_cmp name (map named es) ≡ option_map (λ v. v.items) (lookup (is_at (λ k. name_cmp name (string_bytes k))) es)
find_named [] name = refl
find_named (e ∷ es) name = by (is_eq (name_cmp name (string_bytes e.0))) (find_named es name)
  where
    by : (b : Bool)
        → finmap.find name_cmp name (map named es) ≡ option_map (λ v. v.items) (lookup (is_at (λ k. name_cmp name (string_bytes k))) es)
        → cond b (Some e.1.items) (finmap.find name_cmp name (map named es))
        ≡ option_map (λ v. v.items) (cond b (Some e.1) (lookup (is_at (λ k. name_cmp name (string_bytes k))) es))
    by true later = refl
    by false later = later

-- a look-up in the files is one in the map
pub get-files_in : (es : List Entry) (name : List ℕ)
    → get (files_in es) name ≡ option_map (λ v. v.items) (lookup (is_at (λ k. name_cmp name (string_bytes k))) es)
get-files_in es name = finmap.get-from_entries nat_list_cmp_total (map named es) name ∙ find_named es name

-- ---- removal, where the names rise

-- a name before all the others is none of them
not_above : (es : List Entry) (k : String Global) → AllByRecursion (λ y. string_cmp k y ≡ Less) (keys_of es)
    → finmap.find name_cmp (string_bytes k) (map named es) ≡ None
not_above [] k all = refl
not_above (e ∷ es) k all =
    ap (λ r. cond (is_eq r) (Some e.1.items) (finmap.find name_cmp (string_bytes k) (map named es))) all.0 ∙ not_above es k all.1

-- names that tie are equal
pub tie_of : (x y : List ℕ) → eq_by_cmp name_cmp x y ≡ true → x ≡ y
tie_of x y ties = same_name x y (is_equal (name_cmp x y) ties)
  where
    is_equal : (r : Ordering) → is_eq r ≡ true → r ≡ Equal
    is_equal Less e = absurd cc
    is_equal Equal e = refl
    is_equal Greater e = absurd cc

-- the entries but that of a name
abbrev without : List ℕ → List Entry → List Entry
without name es = remove_entry (is_at (λ k. name_cmp name (string_bytes k))) es

removed : (es : List Entry) (name q : List ℕ) → IsStrictlySortedBy string_cmp (keys_of es)
    → finmap.find name_cmp q (map named (without name es))
    ≡ cond (eq_by_cmp name_cmp q name) None (finmap.find name_cmp q (map named es))
unfolding IsStrictlySortedBy
removed [] name q s = elim (eq_by_cmp name_cmp q name) as (λ b. ◌≡◌ {A = Option (List ℕ)} None (cond b None None)) [ true ↦ refl | false ↦ refl ]
removed (e ∷ es) name q s =
    by (eq_by_cmp name_cmp name (string_bytes e.0)) refl (eq_by_cmp name_cmp q name) refl (removed es name q s.1)
  where
    by : (a : Bool) → eq_by_cmp name_cmp name (string_bytes e.0) ≡ a → (b : Bool) → eq_by_cmp name_cmp q name ≡ b
        → finmap.find name_cmp q (map named (without name es)) ≡ cond (eq_by_cmp name_cmp q name) None (finmap.find name_cmp q (map named es))
        → finmap.find name_cmp q (map named (cond a es (e ∷ without name es)))
        ≡ cond b None (cond (eq_by_cmp name_cmp q (string_bytes e.0)) (Some e.1.items) (finmap.find name_cmp q (map named es)))
    by true p true r later =
        ap (λ n. finmap.find name_cmp n (map named es)) (tie_of q name r ∙ tie_of name (string_bytes e.0) p) ∙ not_above es e.0 s.0
    by true p false r later =
        sym (ap (λ t. cond t (Some e.1.items) (finmap.find name_cmp q (map named es)))
        (ap (λ n. eq_by_cmp name_cmp q n) (sym (tie_of name (string_bytes e.0) p)) ∙ r))
    by false p true r later =
        ap (λ t. cond t (Some e.1.items) (finmap.find name_cmp q (map named (without name es))))
        (ap (λ n. eq_by_cmp name_cmp n (string_bytes e.0)) (tie_of q name r) ∙ p)
        ∙ later ∙ ap (λ t. cond t None (finmap.find name_cmp q (map named es))) r
    by false p false r later =
        ap (cond (eq_by_cmp name_cmp q (string_bytes e.0)) (Some e.1.items))
        (later ∙ ap (λ t. cond t None (finmap.find name_cmp q (map named es))) r)

-- a removal from the map is one from the files
pub files_in-remove : (es : List Entry) (name : List ℕ) → IsStrictlySortedBy string_cmp (keys_of es)
    → files_in (remove_entry (is_at (λ k. name_cmp name (string_bytes k))) es) ≡ remove (files_in es) name
files_in-remove es name s = same_files _ _ (λ q.
    finmap.get-from_entries nat_list_cmp_total _ q ∙ removed es name q s
    ∙ sym (finmap.get-remove nat_list_cmp_total (files_in es) name q
    ∙ ap (cond (eq_by_cmp name_cmp q name) None) (finmap.get-from_entries nat_list_cmp_total (map named es) q)))

-- ---- the names in order

none_of : (xs : List (List ℕ × List ℕ)) → length xs ≡ 0 → xs ≡ []
none_of [] e = refl
none_of (x ∷ xs) e = absurd (omega arith)

-- an entry before all the others is put in front of them
put_first : (e : Entry) (es : List Entry) → AllByRecursion (λ y. string_cmp e.0 y ≡ Less) (keys_of es)
    → put name_cmp (string_bytes e.0) e.1.items (map named es) ≡ named e ∷ map named es
put_first e [] all = refl
put_first e (f ∷ es) all =
    ap (λ r. by_order r (named e ∷ named f ∷ map named es) ((string_bytes f.0, e.1.items) ∷ map named es) (named f ∷ put name_cmp (string_bytes e.0) e.1.items (map named es))) all.0

-- the entries of the files are those of the map
pub entries-files_in : (es : List Entry) → IsStrictlySortedBy string_cmp (keys_of es) → entries (files_in es) ≡ map named es
unfolding IsStrictlySortedBy
entries-files_in [] s = none_of _ (sym (finmap.len-entries finmap.empty) ∙ finmap.len-empty name_cmp (List ℕ))
entries-files_in (e ∷ es) s =
    finmap.entries-insert nat_list_cmp_total (files_in es) (string_bytes e.0) e.1.items
    ∙ ap (put name_cmp (string_bytes e.0) e.1.items) (entries-files_in es s.1) ∙ put_first e es s.0

names_of : (es : List Entry) → map (λ e. e.0) (map named es) ≡ map string_bytes (keys_of es)
names_of [] = refl
names_of (e ∷ es) = ap (λ (ns : List (List ℕ)). string_bytes e.0 ∷ ns) (names_of es)

-- the names of the files are the keys of the map
pub keys-files_in : (es : List Entry) → IsStrictlySortedBy string_cmp (keys_of es)
    → finmap.keys (files_in es) ≡ map string_bytes (keys_of es)
keys-files_in es s = ap (map (λ e. e.0)) (entries-files_in es s) ∙ names_of es

-- ---- a list of pairs, put in from its end

-- the files with these pairs besides, of which the first one counts at a name
abbrev pub with_pairs : List (List ℕ × Vec ℕ Global) → Files → Files
with_pairs [] files = files
with_pairs (p ∷ ps) files = insert (with_pairs ps files) p.0 p.1.items

pub with_pairs-push : (ps : List (List ℕ × Vec ℕ Global)) (p : List ℕ × Vec ℕ Global) (files : Files)
    → with_pairs (ps ++ p ∷ []) files ≡ with_pairs ps (insert files p.0 p.1.items)
with_pairs-push [] p files = refl
with_pairs-push (q ∷ ps) p files = ap (λ f. insert f q.0 q.1.items) (with_pairs-push ps p files)

pub with_pairs-empty : (ps : List (List ℕ × Vec ℕ Global)) → with_pairs ps finmap.empty ≡ files_of ps
with_pairs-empty [] = refl
with_pairs-empty (p ∷ ps) = ap (λ f. insert f p.0 p.1.items) (with_pairs-empty ps)

-- ---- files with one content more

-- what is found where one content was set
pub get-with_file : (name : List ℕ) (content : Option (List ℕ)) (files : Files) (q : List ℕ)
    → get (with_file name content files) q ≡ cond (eq_by_cmp name_cmp q name) content (get files q)
get-with_file name None files q = finmap.get-remove nat_list_cmp_total files name q
get-with_file name (Some bytes) files q = finmap.get-insert nat_list_cmp_total files name bytes q

-- the old content set again gives the old files
pub content_back : (name : List ℕ) (content : Option (List ℕ)) (files : Files)
    → with_file name (get files name) (with_file name content files) ≡ files
content_back name content files = same_files _ _ (λ q.
    get-with_file name (get files name) _ q
    ∙ ap (cond (eq_by_cmp name_cmp q name) (get files name)) (get-with_file name content files q)
    ∙ by q (eq_by_cmp name_cmp q name) refl)
  where
    by : (q : List ℕ) (b : Bool) → eq_by_cmp name_cmp q name ≡ b → cond b (get files name) (cond b content (get files q)) ≡ get files q
    by q true p = ap (get files) (sym (tie_of q name p))
    by q false p = refl

-- a content set where it is gives the same files
pub content_there : (name : List ℕ) (files : Files) → with_file name (get files name) files ≡ files
content_there name files = same_files _ _ (λ q. get-with_file name (get files name) files q ∙ by q (eq_by_cmp name_cmp q name) refl)
  where
    by : (q : List ℕ) (b : Bool) → eq_by_cmp name_cmp q name ≡ b → cond b (get files name) (get files q) ≡ get files q
    by q true p = ap (get files) (sym (tie_of q name p))
    by q false p = refl

-- a file that gets its own name
pub rename_itself : (name : List ℕ) (files : Files) → rename name name files ≡ files
rename_itself name files = content_back name None files

-- putting first and taking then renames, where the names differ
pub put_and_take : (old new : List ℕ) (files : Files) → eq_by_cmp name_cmp old new ≡ false
    → with_file old None (with_file new (get files old) files) ≡ rename old new files
put_and_take old new files apart = same_files _ _ (λ q.
    get-with_file old None _ q
    ∙ ap (cond (eq_by_cmp name_cmp q old) None) (get-with_file new (get files old) files q)
    ∙ by q (eq_by_cmp name_cmp q old) refl (eq_by_cmp name_cmp q new) refl
    ∙ sym (get-with_file new (get files old) _ q ∙ ap (cond (eq_by_cmp name_cmp q new) (get files old)) (get-with_file old None files q)))
  where
    by : (q : List ℕ) (a : Bool) → eq_by_cmp name_cmp q old ≡ a → (b : Bool) → eq_by_cmp name_cmp q new ≡ b
        → cond a None (cond b (get files old) (get files q)) ≡ cond b (get files old) (cond a None (get files q))
    by q true p true r = absurd (cc (ap (λ n. eq_by_cmp name_cmp n new) (sym (tie_of q old p)) ∙ r, apart))
    by q true p false r = refl
    by q false p true r = refl
    by q false p false r = refl

-- what undoes a renaming
pub rename_back : (old new : List ℕ) (files : Files) → eq_by_cmp name_cmp old new ≡ false
    → with_file old (get (rename old new files) new) (with_file new (get files new) (rename old new files)) ≡ files
rename_back old new files apart = same_files _ _ (λ q.
    get-with_file old _ _ q
    ∙ ap (cond (eq_by_cmp name_cmp q old) (get (rename old new files) new)) (get-with_file new (get files new) _ q)
    ∙ ap (λ c. cond (eq_by_cmp name_cmp q old) c (cond (eq_by_cmp name_cmp q new) (get files new) (get (rename old new files) q))) found
    ∙ ap (λ c. cond (eq_by_cmp name_cmp q old) (get files old) (cond (eq_by_cmp name_cmp q new) (get files new) c))
    (get-with_file new (get files old) _ q ∙ ap (cond (eq_by_cmp name_cmp q new) (get files old)) (get-with_file old None files q))
    ∙ by q (eq_by_cmp name_cmp q old) refl (eq_by_cmp name_cmp q new) refl)
  where
    found : get (rename old new files) new ≡ get files old
    found = get-with_file new (get files old) _ new
        ∙ ap (λ b. cond b (get files old) (get (with_file old None files) new)) (ap is_eq (tied_itself nat_list_cmp_total new))

    by : (q : List ℕ) (a : Bool) → eq_by_cmp name_cmp q old ≡ a → (b : Bool) → eq_by_cmp name_cmp q new ≡ b
        → cond a (get files old) (cond b (get files new) (cond b (get files old) (cond a None (get files q)))) ≡ get files q
    by q true p b r = ap (get files) (sym (tie_of q old p))
    by q false p true r = ap (get files) (sym (tie_of q new r))
    by q false p false r = refl
