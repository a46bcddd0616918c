-- The names of files in order, and what a removal leaves of them.
use Rattle.std.proofs.Common.{◌≡◌, ℕ, Bool, true, false, cond, not, ◌&&◌, ◌||◌, T, List, [], ◌∷◌, map, Option, None, Ordering, Less, Equal, Greater, is_lt, is_eq, refl, sym, ap, ◌∙◌, subst}
use Rattle.std.specs.Prelude.{filter, IsSome}
use Rattle.std.specs.List.{list_any}
use Rattle.std.specs.Cmp.{tied_itself, eq_by_cmp_equiv}
use Rattle.std.specs.Cmp.Lexicographic.{nat_list_cmp_total}
use Rattle.std.specs.FinMap as finmap
use Rattle.std.specs.FinMap.{entries, get, keys, remove}
use Rattle.std.specs.FinMap.Entries.{below_all, find, find-where_key, is_sorted, is_sorted-where_key, where_key}
use Rattle.host_core.specs.Names.{name_cmp}
use Rattle.host_core.specs.State.{Files, with_file}
use Rattle.conf_store.specs.Files.{is_step_name, step_names}
use Rattle.conf_store.proofs.FileMaps.{is_name, same_files}

-- a name other than this one
abbrev is_not : List ℕ → List ℕ → Bool
is_not name x = not (is_name name x)

abbrev Entry : Type 0
Entry = List ℕ × List ℕ

kept_alike : (name q x : List ℕ) → name_cmp q x ≡ Equal → is_not name x ≡ is_not name q
kept_alike name q x tie = ap (is_not name) (sym (finmap.slice_cmp-IsAntisymmetric finmap.nat_cmp-IsAntisymmetric q x tie))

turned : (b : Bool) (found : Option (List ℕ)) → cond (not b) found None ≡ cond b None found
turned true found = refl
turned false found = refl

-- a removal takes the entry of the name
pub entries-remove : (files : Files) (name : List ℕ) → entries (remove files name) ≡ where_key name_cmp (is_not name) (entries files)
entries-remove files name =
    let left = where_key name_cmp (is_not name) (entries files) in
    let sorted : T (is_sorted name_cmp left) = is_sorted-where_key name_cmp (is_not name) (entries files) (finmap.entries_sorted files) in
    let same : remove files name ≡ finmap.from_sorted left = same_files _ _ (λ q.
    finmap.get-remove nat_list_cmp_total files name q
    ∙ ap (λ b. cond b None (get files q)) ((eq_by_cmp_equiv nat_list_cmp_total).symm q name)
    ∙ sym (turned (is_name name q) (get files q))
    ∙ ap (λ found. cond (is_not name q) found None) (finmap.get-entries files q)
    ∙ sym (find-where_key name_cmp (is_not name) q (kept_alike name q) (entries files))
    ∙ sym (finmap.get-from_sorted name_cmp left q sorted)) in
    ap entries same ∙ finmap.entries-from_sorted name_cmp left sorted

first : (a b : Bool) → T (a && b) → T a
first true b p = tt
first false b p = p

second : (a b : Bool) → T (a && b) → T b
second true b p = p
second false b p = absurd p

not_tied : (r : Ordering) → T (is_lt r) → not (is_eq r) ≡ true
not_tied Less p = refl
not_tied Equal p = absurd p
not_tied Greater p = refl

-- entries behind the name stay
behind_stay : (name : List ℕ) (es : List Entry) → T (below_all name_cmp name es) → where_key name_cmp (is_not name) es ≡ es
behind_stay name [] below = refl
behind_stay name (e ∷ es) below =
    ap (λ b. cond b (e ∷ where_key name_cmp (is_not name) es) (where_key name_cmp (is_not name) es)) (not_tied _ (first _ _ below))
    ∙ ap (λ (rest : List Entry). e ∷ rest) (behind_stay name es (second _ _ below))

-- the names of entries that are of steps
abbrev steps_in : List Entry → List (List ℕ)
steps_in es = filter is_step_name (map (λ e. e.0) es)

-- the first of them is gone
first_gone : (name : List ℕ) (rest : List (List ℕ)) (es : List Entry) → T (is_sorted name_cmp es) → steps_in es ≡ name ∷ rest
    → steps_in (where_key name_cmp (is_not name) es) ≡ rest
first_gone name rest [] sorted e = absurd cc
first_gone name rest (x ∷ es) sorted e = by (first_gone name rest es (second _ _ sorted)) (is_step_name x.0) refl
  where
    other : (steps_in es ≡ name ∷ rest → steps_in (where_key name_cmp (is_not name) es) ≡ rest) → (b : Bool) → is_step_name x.0 ≡ false
        → steps_in es ≡ name ∷ rest → steps_in (cond b (x ∷ where_key name_cmp (is_not name) es) (where_key name_cmp (is_not name) es)) ≡ rest
    other later true isnt more =
        ap (λ b. cond b (x.0 ∷ steps_in (where_key name_cmp (is_not name) es)) (steps_in (where_key name_cmp (is_not name) es))) isnt ∙ later more
    other later false isnt more = later more

    by : (steps_in es ≡ name ∷ rest → steps_in (where_key name_cmp (is_not name) es) ≡ rest) → (b : Bool) → is_step_name x.0 ≡ b
        → steps_in (where_key name_cmp (is_not name) (x ∷ es)) ≡ rest
    by later true a_step =
        let split : x.0 ∷ steps_in es ≡ name ∷ rest = sym (ap (λ b. cond b (x.0 ∷ steps_in es) (steps_in es)) a_step) ∙ e in
        let is : x.0 ≡ name = cc in
        let left : steps_in es ≡ rest = cc in
        let out : is_not name x.0 ≡ false = ap (is_not name) is ∙ ap (λ r. not (is_eq r)) (tied_itself nat_list_cmp_total name) in
        ap (λ b. steps_in (cond b (x ∷ where_key name_cmp (is_not name) es) (where_key name_cmp (is_not name) es))) out
        ∙ ap steps_in (behind_stay name es (subst (λ n. T (below_all name_cmp n es)) is (first _ _ sorted)))
        ∙ left
    by later false isnt =
        let more : steps_in es ≡ name ∷ rest = sym (ap (λ b. cond b (x.0 ∷ steps_in es) (steps_in es)) isnt) ∙ e in
        other later (is_not name x.0) isnt more

-- the step files that a removal of the first of them leaves
pub steps_left : (files : Files) (name : List ℕ) (rest : List (List ℕ)) → step_names files ≡ name ∷ rest
    → step_names (with_file name None files) ≡ rest
steps_left files name rest e =
    ap (λ es. filter is_step_name (map (λ x. x.0) es)) (entries-remove files name) ∙ first_gone name rest (entries files) (finmap.entries_sorted files) e

-- the first of the step files is one, and is there
first_is : (name : List ℕ) (rest names : List (List ℕ)) → filter is_step_name names ≡ name ∷ rest
    → (is_step_name name ≡ true) × (list_any (is_name name) names ≡ true)
first_is name rest [] e = absurd cc
first_is name rest (x ∷ names) e = by (first_is name rest names) (is_step_name x) refl
  where
    more : (b : Bool) → list_any (is_name name) names ≡ true → (b || list_any (is_name name) names) ≡ true
    more true h = refl
    more false h = h

    by : (filter is_step_name names ≡ name ∷ rest → (is_step_name name ≡ true) × (list_any (is_name name) names ≡ true)) → (b : Bool)
        → is_step_name x ≡ b → (is_step_name name ≡ true) × (list_any (is_name name) (x ∷ names) ≡ true)
    by before true a_step =
        let split : x ∷ filter is_step_name names ≡ name ∷ rest = sym (ap (λ b. cond b (x ∷ filter is_step_name names) (filter is_step_name names)) a_step) ∙ e in
        let is : x ≡ name = cc in (
          ap is_step_name (sym is) ∙ a_step,
          ap (λ b. b || list_any (is_name name) names) (ap (is_name name) is ∙ ap is_eq (tied_itself nat_list_cmp_total name)),
        )
    by before false isnt =
        let later : filter is_step_name names ≡ name ∷ rest = sym (ap (λ b. cond b (x ∷ filter is_step_name names) (filter is_step_name names)) isnt) ∙ e in
        let ih = before later in
        (ih.0, more (is_name name x) ih.1)

pub is_step : (files : Files) (name : List ℕ) (rest : List (List ℕ)) → step_names files ≡ name ∷ rest → is_step_name name ≡ true
is_step files name rest e = (first_is name rest (keys files) e).0

pub is_there : (files : Files) (name : List ℕ) (rest : List (List ℕ)) → step_names files ≡ name ∷ rest → IsSome (get files name)
is_there files name rest e = finmap.contains_key-keys files name ∙ (first_is name rest (keys files) e).1

-- ---- step files alone

names_kept : (p : List ℕ → Bool) (es : List Entry) → map (λ e. e.0) (where_key name_cmp p es) ≡ filter p (map (λ e. e.0) es)
names_kept p [] = refl
names_kept p (x ∷ es) = by (names_kept p es) (p x.0)
  where
    by : map (λ e. e.0) (where_key name_cmp p es) ≡ filter p (map (λ e. e.0) es) → (b : Bool) → map (λ e. e.0) (cond b (x ∷ where_key name_cmp p es) (where_key name_cmp p es)) ≡ cond b (x.0 ∷ filter p (map (λ e. e.0) es)) (filter p (map (λ e. e.0) es))
    by later true = ap (λ (rest : List (List ℕ)). x.0 ∷ rest) later
    by later false = later

-- the step files as files of their own
steps_of : Files → List Entry
steps_of files = where_key name_cmp is_step_name (entries files)

step_alike : (q x : List ℕ) → name_cmp q x ≡ Equal → is_step_name x ≡ is_step_name q
step_alike q x tie = ap is_step_name (sym (finmap.slice_cmp-IsAntisymmetric finmap.nat_cmp-IsAntisymmetric q x tie))

found_step : (files : Files) (q : List ℕ) → get (finmap.from_sorted {R = name_cmp} (steps_of files)) q ≡ cond (is_step_name q) (get files q) None
unfolding steps_of
found_step files q =
    finmap.get-from_sorted name_cmp (steps_of files) q (is_sorted-where_key name_cmp is_step_name (entries files) (finmap.entries_sorted files))
    ∙ find-where_key name_cmp is_step_name q (step_alike q) (entries files)
    ∙ ap (λ found. cond (is_step_name q) found None) (sym (finmap.get-entries files q))

names_of_steps : (files : Files) → map (λ e. e.0) (entries (finmap.from_sorted {R = name_cmp} (steps_of files))) ≡ step_names files
unfolding steps_of
names_of_steps files =
    ap (map (λ e. e.0)) (finmap.entries-from_sorted name_cmp (steps_of files) (is_sorted-where_key name_cmp is_step_name (entries files) (finmap.entries_sorted files)))
    ∙ names_kept is_step_name (entries files)

-- files that agree on the step files have the same ones
pub same_steps : (f g : Files) → ((q : List ℕ) → is_step_name q ≡ true → get f q ≡ get g q) → step_names f ≡ step_names g
same_steps f g alike =
    sym (names_of_steps f)
    ∙ ap (λ m. map (λ e. e.0) (entries m)) (same_files _ _ (λ q. found_step f q ∙ by q (is_step_name q) refl ∙ sym (found_step g q)))
    ∙ names_of_steps g
  where
    by : (q : List ℕ) (b : Bool) → is_step_name q ≡ b → cond (is_step_name q) (get f q) None ≡ cond (is_step_name q) (get g q) None
    by q true a_step = ap (λ found. cond (is_step_name q) found None) (alike q a_step)
    by q false isnt = ap (λ b. cond b (get f q) None) isnt ∙ sym (ap (λ b. cond b (get g q) None) isnt)

-- no step file is there where there is none
pub no_step : (files : Files) (q : List ℕ) → step_names files ≡ [] → is_step_name q ≡ true → get files q ≡ None
unfolding steps_of
no_step files q none a_step =
    sym (ap (λ b. cond b (get files q) None) a_step) ∙ sym (found_step files q)
    ∙ finmap.get-entries _ q ∙ ap (λ es. find name_cmp q es) (nothing _ (names_of_steps files ∙ none))
  where
    nothing : (es : List Entry) → map (λ e. e.0) es ≡ [] → es ≡ []
    nothing [] e = refl
    nothing (x ∷ es) e = absurd cc
