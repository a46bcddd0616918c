-- The names of the checkpoints, in order.
use Rattle.std.proofs.Common.{◌≡◌, ℕ, List, [], ◌∷◌, Bool, true, false, cond, map, filter, length, Option, Some, None, Ok, refl, sym, ap, ◌∙◌, arith}
use Rattle.std.specs.BTreeSet.{insert_key}
use Rattle.std.specs.Cmp.Lexicographic.{nat_list_cmp_total}
use Rattle.std.specs.FinMap as finmap
use Rattle.std.specs.FinMap.{empty, entries, from_entries, keys}
use Rattle.std.specs.declared.cmp.Ordering.{Ordering}
use Rattle.std.specs.declared.cmp.Ordering.TheVariants.{Less, Equal, Greater}
use Rattle.host_core.specs.Names.{name_cmp}
use Rattle.std.specs.Prelude.{All, IfSome}
use Rattle.std.proofs.lemmas.List.Elements.{All-nil}
use Rattle.std.proofs.lemmas.Map.Views.{All-insert_key}
use Rattle.host_core.specs.State.{Files, State, names}
use Rattle.checkpoints.specs.Answers.{Lists}
use Rattle.checkpoints.specs.Names.{is_good_name, is_point_file, point_name}
use Rattle.checkpoints.specs.Points.{Held, point, points}
use Rattle.checkpoints.specs.Reads.{names_in}
use Rattle.checkpoints.proofs.NamesOfFiles.{good_back}

-- putting a pair puts its name
put_names : {A : Type 0} (name : List ℕ) (a : A) (es : List (List ℕ × A))
    → map (λ e. e.0) (finmap.put name_cmp name a es) ≡ insert_key name_cmp (map (λ e. e.0) es) name
put_names name a [] = refl
put_names name a (e ∷ es) = by (put_names name a es) (name_cmp name e.0) refl
  where
    by : map (λ e. e.0) (finmap.put name_cmp name a es) ≡ insert_key name_cmp (map (λ e. e.0) es) name → (r : Ordering) → name_cmp name e.0 ≡ r
        → map (λ e. e.0) (finmap.put name_cmp name a (e ∷ es)) ≡ insert_key name_cmp (map (λ e. e.0) (e ∷ es)) name
    by rest Less is = rw is refl
    by rest Equal is = rw is refl
    by rest Greater is = rw is (ap (λ (ns : List (List ℕ)). e.0 ∷ ns) rest)

none_there : {A : Type 0} (es : List A) → length es ≡ 0 → es ≡ []
none_there [] e = refl
none_there (x ∷ es) e = absurd (omega arith)

no_names : keys (empty {X = Held} {R = name_cmp}) ≡ []
no_names =
    let none : length (entries (empty {X = Held} {R = name_cmp})) ≡ 0 = sym (finmap.len-entries empty) ∙ finmap.len-empty name_cmp Held in
    ap (map (λ e. e.0)) (none_there _ none)

walk : (es : List (List ℕ × List ℕ))
    → keys (from_entries {R = name_cmp} (map point (filter (λ f. is_point_file f.0) es))) ≡ names_in (map (λ e. e.0) es)
walk [] = no_names
walk (e ∷ es) = by (walk es) (is_point_file e.0)
  where
    by : keys (from_entries {R = name_cmp} (map point (filter (λ f. is_point_file f.0) es))) ≡ names_in (map (λ e. e.0) es) → (is : Bool)
        → keys (from_entries {R = name_cmp} (map point (cond is (e ∷ filter (λ f. is_point_file f.0) es) (filter (λ f. is_point_file f.0) es))))
        ≡ cond is (insert_key name_cmp (names_in (map (λ e. e.0) es)) (point_name e.0)) (names_in (map (λ e. e.0) es))
    by rest true =
        ap (map (λ e. e.0)) (finmap.entries-insert nat_list_cmp_total (from_entries (map point (filter (λ f. is_point_file f.0) es))) (point_name e.0) (point e).1)
        ∙ put_names (point_name e.0) (point e).1 (entries (from_entries (map point (filter (λ f. is_point_file f.0) es))))
        ∙ ap (λ (ns : List (List ℕ)). insert_key name_cmp ns (point_name e.0)) rest
    by rest false = rest

-- those in the files' names are those of the checkpoints
pub names_of_points : (files : Files) → names_in (keys files) ≡ keys (points files)
names_of_points files = sym (walk (entries files))

-- what was listed is all of them
pub lists_all : (o : Option State) (files all : List (List ℕ)) → IfSome o (λ s. files ≡ names s) → all ≡ names_in files
    → IfSome o (λ s. Lists s.files (Ok all))
lists_all None files all found is = tt
lists_all (Some s) files all found is = is ∙ ap names_in found ∙ names_of_points s.files

-- each is a good name
pub good_names : (files : List (List ℕ)) → All (λ (n : List ℕ). is_good_name n ≡ true) (names_in files)
good_names [] = All-nil (λ (n : List ℕ). is_good_name n ≡ true)
good_names (file ∷ files) = by (good_names files) (is_point_file file) refl
  where
    by : All (λ (n : List ℕ). is_good_name n ≡ true) (names_in files) → (is : Bool) → is_point_file file ≡ is
        → All (λ (n : List ℕ). is_good_name n ≡ true) (cond is (insert_key name_cmp (names_in files) (point_name file)) (names_in files))
    by rest true is = All-insert_key name_cmp (point_name file) (λ (n : List ℕ). is_good_name n ≡ true) (names_in files) rest (good_back file is)
    by rest false isnt = rest
