-- The checkpoint of a name, and how changes of the files change it.
use Rattle.std.proofs.Common.{◌≡◌, ℕ, List, [], ◌∷◌, Bool, true, false, cond, map, filter, Option, Some, None, Vec, Global, option_map, ⊎_elim, refl, sym, ap, ◌∙◌}
use Rattle.std.specs.Cmp.Lexicographic.{nat_list_cmp_total}
use Rattle.std.specs.FinMap as finmap
use Rattle.std.specs.FinMap.{entries, get, insert, remove}
use Rattle.host_core.specs.Names.{name_cmp}
use Rattle.std.specs.Prelude.{IfSome}
use Rattle.host_core.specs.State.{Files, State, with_file}
use Rattle.conf_store.specs.Files.{scratch, without_scratch}
use Rattle.conf_store.specs.Puts.{IsSame}
use Rattle.checkpoints.specs.Names.{is_good_name, is_point_file, point_file, point_name}
use Rattle.checkpoints.specs.Points.{Held, Points, held, point, points}
use Rattle.checkpoints.proofs.NamesOfFiles.{by_name, file_back, files_differ, good_back, good_file, is_name, name_back, other_name, same_name}

abbrev find_in : {A : Type 0} → List ℕ → List (List ℕ × A) → Option A
find_in name es = finmap.find name_cmp name es

-- ---- one name

-- the checkpoint of a name, by what its file holds
abbrev pub held_in : List ℕ → Option (List ℕ) → Option Held
held_in name found = cond (is_good_name name) (option_map held found) None

-- a file that is named like a checkpoint's
here : (name file bytes : List ℕ) (rest : Option Held) (others : Option (List ℕ)) → is_point_file file ≡ true
    → rest ≡ held_in name others
    → cond (is_name name (point_name file)) (Some (held bytes)) rest ≡ held_in name (cond (is_name (point_file name) file) (Some bytes) others)
here name file bytes rest others is so_far = ⊎_elim same differ (by_name name (point_name file))
  where
    same : name ≡ point_name file
        → cond (is_name name (point_name file)) (Some (held bytes)) rest ≡ held_in name (cond (is_name (point_file name) file) (Some bytes) others)
    same e =
        let good : is_good_name name ≡ true = ap is_good_name e ∙ good_back file is in
        let one : is_name name (point_name file) ≡ true = same_name name (point_name file) e in
        let two : is_name (point_file name) file ≡ true = same_name (point_file name) file (ap point_file e ∙ file_back file is) in
        rw (one, two, good) refl

    differ : (name ≡ point_name file → ⊥)
        → cond (is_name name (point_name file)) (Some (held bytes)) rest ≡ held_in name (cond (is_name (point_file name) file) (Some bytes) others)
    differ apart =
        let one : is_name name (point_name file) ≡ false = other_name name (point_name file) apart in
        let two : is_name (point_file name) file ≡ false =
        other_name (point_file name) file (λ e. apart (sym (name_back name) ∙ ap point_name e)) in
        rw (one, two) so_far

-- another file
elsewhere : (name file bytes : List ℕ) (rest : Option Held) (others : Option (List ℕ)) → is_point_file file ≡ false
    → rest ≡ held_in name others → rest ≡ held_in name (cond (is_name (point_file name) file) (Some bytes) others)
elsewhere name file bytes rest others isnt so_far = by (is_good_name name) refl
  where
    by : (good : Bool) → is_good_name name ≡ good → rest ≡ held_in name (cond (is_name (point_file name) file) (Some bytes) others)
    by true good =
        let apart : is_name (point_file name) file ≡ false =
        other_name (point_file name) file (λ e. let is : is_point_file file ≡ true = ap is_point_file (sym e) ∙ good_file name good in absurd cc) in
        rw apart so_far
    by false bad = so_far ∙ ap (λ g. cond g (option_map held others) None) bad ∙ sym (ap (λ g. cond g (option_map held (cond (is_name (point_file name) file) (Some bytes) others)) None) bad)

abbrev points_in : List (List ℕ × List ℕ) → List (List ℕ × Held)
points_in es = map point (filter (λ f. is_point_file f.0) es)

found : (name : List ℕ) (es : List (List ℕ × List ℕ)) → find_in name (points_in es) ≡ held_in name (find_in (point_file name) es)
found name [] = by (is_good_name name)
  where
    by : (good : Bool) → None ≡ cond good (option_map held None) None
    by true = refl
    by false = refl
found name (e ∷ es) = by (found name es) (is_point_file e.0) refl
  where
    by : find_in name (points_in es) ≡ held_in name (find_in (point_file name) es) → (is : Bool) → is_point_file e.0 ≡ is
        → find_in name (map point (cond is (e ∷ filter (λ f. is_point_file f.0) es) (filter (λ f. is_point_file f.0) es)))
        ≡ held_in name (cond (is_name (point_file name) e.0) (Some e.1) (find_in (point_file name) es))
    by so_far true is = here name e.0 e.1 (find_in name (points_in es)) (find_in (point_file name) es) is so_far
    by so_far false isnt = elsewhere name e.0 e.1 (find_in name (points_in es)) (find_in (point_file name) es) isnt so_far

-- the checkpoint of a name is what its file holds, where the name is good
pub get_point : (files : Files) (name : List ℕ) → get (points files) name ≡ held_in name (get files (point_file name))
get_point files name =
    finmap.get-from_entries nat_list_cmp_total (points_in (entries files)) name
    ∙ found name (entries files)
    ∙ ap (held_in name) (sym (finmap.get-entries files (point_file name)))

-- what was read of the file tells the checkpoint
pub point_found : (o : Option State) (name file : List ℕ) (r : Option (Vec ℕ Global)) → is_good_name name ≡ true → file ≡ point_file name
    → IfSome o (λ s. option_map (λ (b : Vec ℕ Global). b.items) r ≡ get s.files file)
    → IfSome o (λ s. option_map (λ (b : Vec ℕ Global). held b.items) r ≡ get (points s.files) name)
point_found None name file r good is found = tt
point_found (Some s) name file r good is found =
    twice r
    ∙ ap (option_map held) (found ∙ ap (get s.files) is)
    ∙ sym (get_point s.files name ∙ ap (λ g. cond g (option_map held (get s.files (point_file name))) None) good)
  where
    twice : (r : Option (Vec ℕ Global)) → option_map (λ (b : Vec ℕ Global). held b.items) r ≡ option_map held (option_map (λ (b : Vec ℕ Global). b.items) r)
    twice None = refl
    twice (Some b) = refl

-- ---- all names

same_points : (m n : Points) → ((name : List ℕ) → get m name ≡ get n name) → m ≡ n
same_points m n alike =
    finmap.same_map nat_list_cmp_total (finmap.slice_cmp-IsAntisymmetric finmap.nat_cmp-IsAntisymmetric) m n alike

pub get_with : (name : List ℕ) (content : Option (List ℕ)) (files : Files) (q : List ℕ)
    → get (with_file name content files) q ≡ cond (is_name q name) content (get files q)
get_with name None files q = finmap.get-remove nat_list_cmp_total files name q
get_with name (Some bytes) files q = finmap.get-insert nat_list_cmp_total files name bytes q

-- files that answer alike for the files of good names have the same checkpoints
pub alike_files : (f g : Files) → ((name : List ℕ) → is_good_name name ≡ true → get f (point_file name) ≡ get g (point_file name)) → points f ≡ points g
alike_files f g alike = same_points _ _ (λ name. get_point f name ∙ by name (is_good_name name) refl ∙ sym (get_point g name))
  where
    by : (name : List ℕ) (good : Bool) → is_good_name name ≡ good → held_in name (get f (point_file name)) ≡ held_in name (get g (point_file name))
    by name true good = ap (held_in name) (alike name good)
    by name false bad = ap (λ b. cond b (option_map held (get f (point_file name))) None) bad ∙ sym (ap (λ b. cond b (option_map held (get g (point_file name))) None) bad)

-- the scratch file is no checkpoint's
pub not_scratch : (name : List ℕ) → is_good_name name ≡ true → point_file name ≡ scratch → ⊥
not_scratch name good e =
    let is : is_point_file scratch ≡ true = ap is_point_file (sym e) ∙ good_file name good in
    absurd cc

behind_scratch : (files : Files) (name : List ℕ) → is_good_name name ≡ true → get (without_scratch files) (point_file name) ≡ get files (point_file name)
behind_scratch files name good =
    get_with scratch None files (point_file name)
    ∙ ap (λ b. cond b None (get files (point_file name))) (other_name (point_file name) scratch (not_scratch name good))

pub points_behind : (files : Files) → points (without_scratch files) ≡ points files
points_behind files = alike_files _ _ (behind_scratch files)

-- files that are the same but for the scratch file have the same checkpoints
pub points_same : (f g : Files) → IsSame f g → points g ≡ points f
points_same f g same = sym (points_behind g) ∙ ap points same ∙ points_behind f

-- ---- a change of one checkpoint's file

module _ (name : List ℕ) (good : is_good_name name ≡ true) where
  changed : (content : Option (List ℕ)) (files : Files) (q : List ℕ)
      → get (points (with_file (point_file name) content files)) q ≡ cond (is_name q name) (option_map held content) (get (points files) q)
  changed content files q =
      get_point _ q
      ∙ ap (held_in q) (get_with (point_file name) content files (point_file q))
      ∙ ⊎_elim same differ (by_name q name)
    where
      same : q ≡ name → held_in q (cond (is_name (point_file q) (point_file name)) content (get files (point_file q)))
          ≡ cond (is_name q name) (option_map held content) (get (points files) q)
      same e =
          let good_q : is_good_name q ≡ true = ap is_good_name e ∙ good in
          let one : is_name q name ≡ true = same_name q name e in
          let two : is_name (point_file q) (point_file name) ≡ true = same_name _ _ (ap point_file e) in
          rw (one, two, good_q) refl

      differ : (q ≡ name → ⊥) → held_in q (cond (is_name (point_file q) (point_file name)) content (get files (point_file q)))
          ≡ cond (is_name q name) (option_map held content) (get (points files) q)
      differ apart =
          let one : is_name q name ≡ false = other_name q name apart in
          let two : is_name (point_file q) (point_file name) ≡ false = other_name _ _ (files_differ q name apart) in
          rw (one, two) (sym (get_point files q))

  -- one checkpoint more
  pub points_with : (bytes : List ℕ) (files : Files) → points (with_file (point_file name) (Some bytes) files) ≡ insert (points files) name (held bytes)
  points_with bytes files = same_points _ _ (λ q.
      changed (Some bytes) files q ∙ sym (finmap.get-insert nat_list_cmp_total (points files) name (held bytes) q))

  -- one less
  pub points_without : (files : Files) → points (with_file (point_file name) None files) ≡ remove (points files) name
  points_without files = same_points _ _ (λ q.
      changed None files q ∙ sym (finmap.get-remove nat_list_cmp_total (points files) name q))

  -- the same checkpoint in another file
  pub points_anew : (bytes : List ℕ) (files : Files) → get (points files) name ≡ Some (held bytes)
      → points (with_file (point_file name) (Some bytes) files) ≡ points files
  points_anew bytes files there = same_points _ _ (λ q. changed (Some bytes) files q ∙ ⊎_elim (same q) (differ q) (by_name q name))
    where
      same : (q : List ℕ) → q ≡ name → cond (is_name q name) (Some (held bytes)) (get (points files) q) ≡ get (points files) q
      same q e =
          ap (λ b. cond b (Some (held bytes)) (get (points files) q)) (same_name q name e)
          ∙ sym there ∙ ap (get (points files)) (sym e)

      differ : (q : List ℕ) → (q ≡ name → ⊥) → cond (is_name q name) (Some (held bytes)) (get (points files) q) ≡ get (points files) q
      differ q apart = ap (λ b. cond b (Some (held bytes)) (get (points files) q)) (other_name q name apart)
