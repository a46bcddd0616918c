-- Good names, of operators and of checkpoints: none has a space or ends a line, and all checkpoints of a
-- folder have them.
use Rattle.std.proofs.Common.{◌≡◌, ◌≢◌, ℕ, List, [], ◌∷◌, ◌++◌, Bool, true, false, cond, ◌&&◌, map, Some, refl, sym, ap, ◌∙◌, subst, Option, None}
use Rattle.std.specs.Prelude.{filter, option_map}
use Rattle.std.specs.List.{cons_option, list_all}
use Rattle.std.specs.FinMap as finmap
use Rattle.std.specs.FinMap.{entries, keys}
use Rattle.std.specs.FinMap.Entries.{find}
use Rattle.std.specs.Cmp.{tied_itself}
use Rattle.std.specs.Cmp.Lexicographic.{nat_list_cmp_total}
use Rattle.std.specs.Ordering.{is_eq}
use Rattle.std.specs.declared.cmp.Ordering.{Ordering}
use Rattle.std.specs.declared.cmp.Ordering.TheVariants.{Less, Equal, Greater}
use Rattle.host_core.specs.Names.{name_cmp}
use Rattle.host_core.specs.State.{Files}
use Rattle.conf_doc.specs.declared.configuration.Config.{Config}
use Rattle.checkpoints.specs.Migrations.{NewFile, migration, new_file, new_files, old_point}
use Rattle.checkpoints.specs.Names.{is_good_name, is_name_character, is_point_file, point_name}
use Rattle.checkpoints.specs.Points.{Held, held, point, points}
use Rattle.writing_commands.proofs.Lines.{IsOneLine}
use Rattle.command_runs.proofs.CompactTexts.{heads, tails}

-- ---- characters

first_true : (a b : Bool) → (a && b) ≡ true → a ≡ true
first_true true b e = refl
first_true false b e = absurd cc

both_true : (a b : Bool) → (a && b) ≡ true → b ≡ true
both_true true b e = e
both_true false b e = absurd cc

pub characters : (n : List ℕ) → is_good_name n ≡ true → list_all is_name_character n ≡ true
characters n good = both_true _ (list_all is_name_character n) good

-- no byte of it is this one
abbrev pub Lacks : ℕ → List ℕ → Type 0
Lacks c [] = Unit {0}
Lacks c (b ∷ bs) = (b ≢ c) × Lacks c bs

pub name_lacks : (c : ℕ) → (is_name_character c ≡ true → ⊥) → (n : List ℕ) → list_all is_name_character n ≡ true
    → Lacks c n
name_lacks c none [] good = tt
name_lacks c none (b ∷ n) good = (
  λ is. none (subst (λ d. is_name_character d ≡ true) is (first_true (is_name_character b) _ good)),
  name_lacks c
      none n (both_true (is_name_character b) _ good),
)

pub no_space : is_name_character 32 ≡ true → ⊥
no_space e = cc

no_end : is_name_character 10 ≡ true → ⊥
no_end e = cc

one_line_of : (n : List ℕ) → Lacks 10 n → IsOneLine n
one_line_of [] h = tt
one_line_of (b ∷ n) h = (h.0, one_line_of n h.1)

pub characters_are_one_line : (n : List ℕ) → list_all is_name_character n ≡ true → IsOneLine n
characters_are_one_line n good = one_line_of n (name_lacks 10 no_end n good)

pub name_is_one_line : (n : List ℕ) → is_good_name n ≡ true → IsOneLine n
name_is_one_line n good = characters_are_one_line n (characters n good)

-- where two texts begin with a word and a space, that is the same word
pub first_words : (a b x y : List ℕ) → Lacks 32 a → Lacks 32 b → a ++ 32 ∷ x ≡ b ++ 32 ∷ y → a ≡ b
first_words [] [] x y ha hb e = refl
first_words [] (d ∷ b) x y ha hb e = let first = heads 32 d x (b ++ 32 ∷ y) e in absurd (hb.0 (sym first))
first_words (c ∷ a) [] x y ha hb e = let first = heads c 32 (a ++ 32 ∷ x) y e in absurd (ha.0 first)
first_words (c ∷ a) (d ∷ b) x y ha hb e =
    let first = heads c d (a ++ 32 ∷ x) (b ++ 32 ∷ y) e in
    let word = first_words a b x y ha.1 hb.1 (tails c d (a ++ 32 ∷ x) (b ++ 32 ∷ y) e) in
    λ i. first i ∷ word i

-- ---- checkpoints

tie_of : (x y : List ℕ) → is_eq (name_cmp x y) ≡ true → x ≡ y
tie_of x y ties = finmap.slice_cmp-IsAntisymmetric finmap.nat_cmp-IsAntisymmetric x y (is_equal (name_cmp x y) ties)
  where
    is_equal : (r : Ordering) → is_eq r ≡ true → r ≡ Equal
    is_equal Less e = absurd cc
    is_equal Equal e = refl
    is_equal Greater e = absurd cc

-- the checkpoints in these files
abbrev points_in : List (List ℕ × List ℕ) → List (List ℕ × Held)
points_in es = map point (filter (λ f. is_point_file f.0) es)

found_good : (es : List (List ℕ × List ℕ)) (k : List ℕ) (v : Held) → find name_cmp k (points_in es) ≡ Some v
    → is_good_name k ≡ true
found_good [] k v e = absurd cc
found_good (f ∷ es) k v e =
    by (is_point_file f.0) refl (is_eq (name_cmp k (point_name f.0))) refl (λ h. found_good es k v h) e
  where
    by : (b : Bool) → is_point_file f.0 ≡ b → (c : Bool) → is_eq (name_cmp k (point_name f.0)) ≡ c
        → (find name_cmp k (points_in es) ≡ Some v → is_good_name k ≡ true)
        → find name_cmp k (map point (cond b (f ∷ filter (λ g. is_point_file g.0) es)
        (filter (λ g. is_point_file g.0) es))) ≡ Some v
        → is_good_name k ≡ true
    by false not c is later h = later h
    by true good true is later h =
        ap is_good_name (tie_of k (point_name f.0) is) ∙ both_true _ (is_good_name (point_name f.0)) good
    by true good false is later h =
        later (sym (ap (λ t. cond t (Some (held f.1)) (find name_cmp k (points_in es))) is) ∙ h)

-- each of them is a good name
abbrev pub AreGood : List (List ℕ) → Type 0
AreGood [] = Unit {0}
AreGood (k ∷ ks) = (is_good_name k ≡ true) × AreGood ks

-- each key of a map has a value
all_found : (es : List (List ℕ × Held))
    → ((k : List ℕ) (v : Held) → find name_cmp k es ≡ Some v → is_good_name k ≡ true) → AreGood (map (λ e. e.0) es)
all_found [] found = tt
all_found (f ∷ es) found = (
  found f.0 f.1 (ap (λ t. cond t (Some f.1) (find name_cmp f.0 es))
      (ap is_eq (tied_itself nat_list_cmp_total f.0))),
  all_found es (λ k v e. later k v e),
)
  where
    later : (k : List ℕ) (v : Held) → find name_cmp k es ≡ Some v → is_good_name k ≡ true
    later k v e = by (is_eq (name_cmp k f.0)) refl
      where
        by : (b : Bool) → is_eq (name_cmp k f.0) ≡ b → is_good_name k ≡ true
        by true is = found k f.1 (ap (λ t. cond t (Some f.1) (find name_cmp k es)) is)
        by false is = found k v (ap (λ t. cond t (Some f.1) (find name_cmp k es)) is ∙ e)

pub points_good : (files : Files) → AreGood (keys (points files))
points_good files =
    all_found (entries (points files))
    (λ k v e. found_good (entries files) k v
    (sym (finmap.get-from_entries nat_list_cmp_total (points_in (entries files)) k)
    ∙ finmap.get-entries (points files) k ∙ e))

-- ---- those that are put anew

abbrev pub HaveGoodNames : List NewFile → Type 0
HaveGoodNames [] = Unit {0}
HaveGoodNames (new ∷ news) = (is_good_name new.0 ≡ true) × HaveGoodNames news

one_more_good : (k : List ℕ) (o : Option Config) (news : List NewFile) → is_good_name k ≡ true → HaveGoodNames news
    → HaveGoodNames (cons_option (option_map (new_file k) o) news)
one_more_good k None news good all = all
one_more_good k (Some c) news good all = (good, all)

news_good : (files : Files) (ks : List (List ℕ)) → AreGood ks → HaveGoodNames (new_files files ks)
news_good files [] good = tt
news_good files (k ∷ ks) good =
    one_more_good k (old_point files k) (new_files files ks) good.0 (news_good files ks good.1)

pub migration_good : (files : Files) → HaveGoodNames (migration files)
migration_good files = news_good files (keys (points files)) (points_good files)
