-- Checkpoints of the old format, found one by one.
use Rattle.std.proofs.Common.{◌≡◌, ℕ, ◌+◌, ◌≤◌, List, [], ◌∷◌, ◌++◌, true, take, take_all, length, slice_get, Option, Some, None, Ok, IfSome, Vec, Global, option_map, sym, ap, ◌∙◌, subst, append-nil}
use Rattle.std.specs.FinMap.{get}
use Rattle.std.specs.List.{cons_option, filter_map}
use Rattle.std.specs.Option.{option_or}
use Rattle.std.specs.Prelude.{All, option_and_then}
use Rattle.std.specs.Result.{result_ok}
use Rattle.std.proofs.lemmas.List.Elements.{All-nil, All-push, filter_map-append}
use Rattle.host_core.specs.State.{State}
use Rattle.conf_doc.specs.Document.{Document}
use Rattle.conf_doc.specs.Reading.{reading}
use Rattle.conf_doc.specs.declared.configuration.Config.{Config}
use Rattle.conf_doc.proofs.Lists.{take_more}
use Rattle.checkpoints.specs.Answers.{Lists}
use Rattle.checkpoints.specs.Formats.{config_at, config_of, content, content_of, members_in, number_held, number_in, with_number}
use Rattle.checkpoints.specs.Migrations.{IsDue, NewFile, migration, new_file, new_files, old_held, old_point}
use Rattle.checkpoints.specs.Names.{is_good_name, point_file}
use Rattle.checkpoints.specs.Numbers.{number}
use Rattle.checkpoints.specs.Points.{held, points}
use Rattle.checkpoints.specs.Rewrites.{IsNewText, rewrite_view, with_found}
use Rattle.checkpoints.specs.declared.content.Content.{Content}
use Rattle.checkpoints.specs.declared.rewrites.Rewrite.{Rewrite}

-- a file of the old format holds its configuration, with the number 0
pub old_content_is : (bytes : List ℕ) (c : Config) → old_held bytes ≡ Some c → content bytes ≡ Some (record { config = c; number = 0 })
old_content_is bytes c e = by (result_ok (reading bytes)) e
  where
    by : (o : Option Document) → option_and_then config_of o ≡ Some c → option_and_then content_of o ≡ Some (record { config = c; number = 0 })
    by None none = absurd cc
    by (Some d) is = ap (λ (r : Option Config). option_or (with_number 0 r) (option_and_then (λ n. with_number n (config_at (members_in d))) (number_in (members_in d)))) is

-- what is written of one holds the same, and isn't of the old format
pub new_text_is : (bytes : List ℕ) (text : List ℕ) (c : Config) → Some c ≡ old_held bytes → content text ≡ Some (record { config = c; number = 0 }) → old_held text ≡ None
    → IsNewText bytes text
new_text_is bytes text c is holds format = record { format = format; holds = holds ∙ sym (old_content_is bytes c (sym is)) }

-- ---- one name

-- it is the one in the file
pub found_there : (o : Option State) (name : List ℕ) (found : Option (Vec ℕ Global)) (b : Vec ℕ Global) (r : Option Rewrite) → found ≡ Some b
    → IfSome o (λ s. option_map (λ (v : Vec ℕ Global). v.items) found ≡ get s.files (point_file name))
    → option_map rewrite_view r ≡ option_map (new_file name) (old_held b.items)
    → IfSome o (λ s. option_map rewrite_view r ≡ option_map (new_file name) (old_point s.files name))
found_there None name found b r is read there = tt
found_there (Some s) name found b r is read there =
    let bytes : Some b.items ≡ get s.files (point_file name) = ap (option_map (λ (v : Vec ℕ Global). v.items)) (sym is) ∙ read in
    there ∙ ap (λ (x : Option (List ℕ)). option_map (new_file name) (option_and_then old_held x)) bytes

pub none_there : (o : Option State) (name : List ℕ) (found : Option (Vec ℕ Global)) → found ≡ None
    → IfSome o (λ s. option_map (λ (v : Vec ℕ Global). v.items) found ≡ get s.files (point_file name))
    → IfSome o (λ s. None ≡ option_map (new_file name) (old_point s.files name))
none_there None name found is read = tt
none_there (Some s) name found is read =
    let bytes : None ≡ get s.files (point_file name) = ap (option_map (λ (v : Vec ℕ Global). v.items)) (sym is) ∙ read in
    ap (λ (x : Option (List ℕ)). option_map (new_file name) (option_and_then old_held x)) bytes

-- what was read by the name as text
pub by_name : (o : Option State) (P : State → List ℕ → Type 0) (word name : List ℕ) → word ≡ name → IfSome o (λ s. P s word) → IfSome o (λ s. P s name)
by_name o P word name same read = subst (λ (q : List ℕ). IfSome o (λ s. P s q)) same read

-- it may be put now
pub due_there : (o : Option State) (name : List ℕ) (found : Option (Vec ℕ Global)) (b : Vec ℕ Global) (r : Option Rewrite) → is_good_name name ≡ true → found ≡ Some b
    → IfSome o (λ s. option_map (λ (v : Vec ℕ Global). v.items) found ≡ get s.files (point_file name))
    → IfSome o (λ s. option_map (λ (v : Vec ℕ Global). held v.items) found ≡ get (points s.files) name)
    → option_map rewrite_view r ≡ option_map (new_file name) (old_held b.items)
    → IfSome r (λ x. IsNewText b.items x.text.items)
    → IfSome o (λ s. IfSome r (λ x. IsDue (rewrite_view x) s.files))
due_there None name found b r good is read point there text = tt
due_there (Some s) name found b None good is read point there text = tt
due_there (Some s) name found b (Some x) good is read point there text = by (old_held b.items) there
  where
    bytes : Some b.items ≡ get s.files (point_file name)
    bytes = ap (option_map (λ (v : Vec ℕ Global). v.items)) (sym is) ∙ read

    by : (o : Option Config) → Some (rewrite_view x) ≡ option_map (new_file name) o → IsDue (rewrite_view x) s.files
    by None none = absurd cc
    by (Some c) some =
        let same : x.name ≡ name = ap (λ (p : Option NewFile). elim p as (λ _. List ℕ) [ None ↦ name | Some n ↦ n.0 ]) some in record {
          good = ap is_good_name same ∙ good;
          format = text.format;
          point =
              ap (get (points s.files)) same ∙ sym point ∙ ap (option_map (λ (v : Vec ℕ Global). held v.items)) is
              ∙ ap (λ (k : Option Content). Some (option_map (λ (c : Content). c.config) k)) (sym text.holds);
          number =
              ap (number s.files) same ∙ ap (option_and_then number_held) (sym bytes)
              ∙ ap (option_map (λ (c : Content). c.number)) (sym text.holds);
        }

-- ---- name after name

-- one name more
more_found : (all : List NewFile) (o : Option NewFile) (r : Option Rewrite) → option_map rewrite_view r ≡ o → with_found all r ≡ all ++ cons_option o []
more_found all o None e = sym (append-nil all) ∙ ap (λ (x : Option NewFile). all ++ cons_option x []) e
more_found all o (Some x) e = ap (λ (y : Option NewFile). all ++ cons_option y []) e

pub none_found : (o : Option State) (names : List (List ℕ)) (all : List NewFile) → all ≡ [] → IfSome o (λ s. all ≡ new_files s.files (take 0 names))
none_found None names all none = tt
none_found (Some s) names all none = none

pub one_found : (o p : Option State) (names : List (List ℕ)) (i : ℕ) (name : List ℕ) (all new : List NewFile) (r : Option Rewrite) → p ≡ o → slice_get names i ≡ Some name
    → new ≡ with_found all r → IfSome o (λ s. all ≡ new_files s.files (take i names))
    → IfSome p (λ s. option_map rewrite_view r ≡ option_map (new_file name) (old_point s.files name))
    → IfSome o (λ s. new ≡ new_files s.files (take (i + 1) names))
one_found None p names i name all new r told is added so_far found = tt
one_found (Some s) p names i name all new r told is added so_far found =
    let here : option_map rewrite_view r ≡ option_map (new_file name) (old_point s.files name) =
    subst (λ x. IfSome x (λ t. option_map rewrite_view r ≡ option_map (new_file name) (old_point t.files name))) told found in
    let f : List ℕ → Option NewFile = λ n. option_map (new_file n) (old_point s.files n) in
    added ∙ more_found all _ r here
    ∙ ap (λ (xs : List NewFile). xs ++ cons_option (f name) []) so_far
    ∙ sym (filter_map-append f (take i names) (name ∷ []))
    ∙ ap (filter_map f) (sym (take_more names i name is))

pub all_found : (o : Option State) (names : List (List ℕ)) (i : ℕ) (all : List NewFile) → length names ≤ i → IfSome o (λ s. all ≡ new_files s.files (take i names))
    → IfSome o (λ s. all ≡ new_files s.files names)
all_found None names i all end so_far = tt
all_found (Some s) names i all end so_far = so_far ∙ ap (new_files s.files) (take_all i names end)

-- all that are found may be put now
pub none_due : (o : Option State) (all : List NewFile) → all ≡ [] → IfSome o (λ s. All (λ n. IsDue n s.files) all)
none_due None all none = tt
none_due (Some s) all none = subst (All (λ (n : NewFile). IsDue n s.files)) (sym none) (All-nil (λ (n : NewFile). IsDue n s.files))

added_due : (s : State) (all : List NewFile) (r : Option Rewrite) → All (λ (n : NewFile). IsDue n s.files) all → IfSome r (λ x. IsDue (rewrite_view x) s.files)
    → All (λ (n : NewFile). IsDue n s.files) (with_found all r)
added_due s all None so_far one = so_far
added_due s all (Some x) so_far one = All-push (λ (n : NewFile). IsDue n s.files) all (rewrite_view x) so_far one

pub one_due : (o p : Option State) (all new : List NewFile) (r : Option Rewrite) → p ≡ o → new ≡ with_found all r → IfSome o (λ s. All (λ n. IsDue n s.files) all)
    → IfSome p (λ s. IfSome r (λ x. IsDue (rewrite_view x) s.files)) → IfSome o (λ s. All (λ n. IsDue n s.files) new)
one_due None p all new r told added so_far one = tt
one_due (Some s) p all new r told added so_far one =
    subst (All (λ (n : NewFile). IsDue n s.files)) (sym added)
    (added_due s all r so_far (subst (λ x. IfSome x (λ t. IfSome r (λ x. IsDue (rewrite_view x) t.files))) told one))

-- the names that were listed
pub migration_found : (o p : Option State) → p ≡ o → (names : List (List ℕ)) → IfSome o (λ s. Lists s.files (Ok names)) → (m : List NewFile)
    → IfSome p (λ s. m ≡ new_files s.files names) → IfSome o (λ s. m ≡ migration s.files)
migration_found None p told names listed m found = tt
migration_found (Some s) p told names listed m found =
    let here : m ≡ new_files s.files names = subst (λ x. IfSome x (λ t. m ≡ new_files t.files names)) told found in
    here ∙ ap (new_files s.files) listed
