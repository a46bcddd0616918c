-- Maps of files: what changes of them make of one another.
use Rattle.std.proofs.Common.{◌≡◌, ℕ, List, Bool, true, false, cond, Option, Some, None, Ordering, Less, Equal, Greater, refl, sym, ap, ◌∙◌}
use Rattle.std.specs.Cmp.{tied_itself}
use Rattle.std.specs.Cmp.Lexicographic.{nat_list_cmp_total}
use Rattle.std.specs.Ordering.{eq_by_cmp, is_eq}
use Rattle.std.specs.FinMap as finmap
use Rattle.std.specs.FinMap.{get}
use Rattle.host_core.specs.Names.{name_cmp}
use Rattle.host_core.specs.State.{Files, with_file}

-- maps of files that answer alike are equal
pub same_files : (m n : Files) → ((q : List ℕ) → get m q ≡ get n q) → m ≡ n
same_files m n alike =
    finmap.same_map nat_list_cmp_total (finmap.slice_cmp-IsAntisymmetric finmap.nat_cmp-IsAntisymmetric) m n alike

-- the same name?
abbrev pub is_name : List ℕ → List ℕ → Bool
is_name = eq_by_cmp name_cmp

-- what a name finds in files with another file
pub get_with : (name : List ℕ) (content : Option (List ℕ)) (files : Files) (q : List ℕ)
    → get (with_file name content files) q ≡ cond (is_name q name) content (get files q)
get_with name None files q = finmap.get-remove nat_list_cmp_total files name q
get_with name (Some bytes) files q = finmap.get-insert nat_list_cmp_total files name bytes q

-- what was put there is there
pub get_there : (name : List ℕ) (content : Option (List ℕ)) (files : Files) → get (with_file name content files) name ≡ content
get_there name content files =
    get_with name content files name ∙ ap (λ r. cond (is_eq r) content (get files name)) (tied_itself nat_list_cmp_total name)

-- of two files of one name the second counts
pub with_twice : (name : List ℕ) (one two : Option (List ℕ)) (files : Files)
    → with_file name two (with_file name one files) ≡ with_file name two files
with_twice name one two files = same_files _ _ (λ q.
    get_with name two (with_file name one files) q
    ∙ ap (cond (is_name q name) two) (get_with name one files q)
    ∙ twice (is_name q name) two one (get files q)
    ∙ sym (get_with name two files q))
  where
    twice : (b : Bool) (x y z : Option (List ℕ)) → cond b x (cond b y z) ≡ cond b x z
    twice true x y z = refl
    twice false x y z = refl

-- what is gone in the end may have been gone before
pub gone_twice : (gone name : List ℕ) (content : Option (List ℕ)) (files : Files)
    → with_file gone None (with_file name content (with_file gone None files)) ≡ with_file gone None (with_file name content files)
gone_twice gone name content files = same_files _ _ (λ q.
    get_with gone None _ q
    ∙ ap (cond (is_name q gone) None) (get_with name content (with_file gone None files) q
    ∙ ap (cond (is_name q name) content) (get_with gone None files q))
    ∙ once (is_name q gone) (is_name q name) content (get files q)
    ∙ sym (get_with gone None (with_file name content files) q ∙ ap (cond (is_name q gone) None) (get_with name content files q)))
  where
    once : (a b : Bool) (x z : Option (List ℕ)) → cond a None (cond b x (cond a None z)) ≡ cond a None (cond b x z)
    once true b x z = refl
    once false b x z = refl

-- another name has what it had
pub get_other : (name : List ℕ) (content : Option (List ℕ)) (files : Files) (q : List ℕ) → (q ≡ name → ⊥)
    → get (with_file name content files) q ≡ get files q
get_other name content files q apart = get_with name content files q ∙ by (name_cmp q name) refl
  where
    by : (r : Ordering) → name_cmp q name ≡ r → cond (is_eq (name_cmp q name)) content (get files q) ≡ get files q
    by Less e = ap (λ r. cond (is_eq r) content (get files q)) e
    by Equal e = absurd (apart (finmap.slice_cmp-IsAntisymmetric finmap.nat_cmp-IsAntisymmetric q name e))
    by Greater e = ap (λ r. cond (is_eq r) content (get files q)) e
