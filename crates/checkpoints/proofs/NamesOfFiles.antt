-- The names of checkpoints and of their files give one another.
use Rattle.std.proofs.Common.{◌≡◌, ℕ, ◌-◌, ◌≤◌, ◌==◌, List, ◌++◌, ◌⊎◌, Bool, true, false, ◌&&◌, length, take, drop, nat_eq, nat_le, not, inl, inr, refl, sym, ap, ◌∙◌, arith, length-append, take-append-drop}
use Rattle.std.proofs.Math.Seq.{drop-append_seam, take-append_seam}
use Rattle.std.proofs.lemmas.Bool.{and_from, and_parts, leb-true}
use Rattle.std.specs.Cmp.{tied_itself}
use Rattle.std.specs.Cmp.Lexicographic.{nat_list_cmp_total, pointwise, same_text}
use Rattle.std.specs.List.{ends_with, list_all}
use Rattle.std.specs.FinMap as finmap
use Rattle.std.specs.Ordering.{eq_by_cmp, is_eq}
use Rattle.std.specs.declared.cmp.Ordering.{Ordering}
use Rattle.std.specs.declared.cmp.Ordering.TheVariants.{Less, Equal, Greater}
use Rattle.host_core.specs.Names.{name_cmp}
use Rattle.checkpoints.specs.Names.{is_good_name, is_name_character, is_point_file, longest_name, point_end, point_file, point_name}

-- ---- equal names

-- the same name?
abbrev pub is_name : List ℕ → List ℕ → Bool
is_name = eq_by_cmp name_cmp

pub same_name : (p q : List ℕ) → p ≡ q → is_name p q ≡ true
same_name p q e = ap (is_name p) (sym e) ∙ ap is_eq (tied_itself nat_list_cmp_total p)

pub other_name : (p q : List ℕ) → (p ≡ q → ⊥) → is_name p q ≡ false
other_name p q apart = by (name_cmp p q) refl
  where
    by : (r : Ordering) → name_cmp p q ≡ r → is_eq (name_cmp p q) ≡ false
    by Less e = ap is_eq e
    by Equal e = absurd (apart (finmap.slice_cmp-IsAntisymmetric finmap.nat_cmp-IsAntisymmetric p q e))
    by Greater e = ap is_eq e

pub by_name : (p q : List ℕ) → (p ≡ q) ⊎ (p ≡ q → ⊥)
by_name p q = by (name_cmp p q) refl
  where
    not_equal : (r : Ordering) → is_eq r ≡ false → name_cmp p q ≡ r → p ≡ q → ⊥
    not_equal r isnt e same =
        let is : is_eq r ≡ true = ap is_eq (sym e) ∙ same_name p q same in
        absurd cc

    by : (r : Ordering) → name_cmp p q ≡ r → (p ≡ q) ⊎ (p ≡ q → ⊥)
    by Less e = inr (not_equal Less refl e)
    by Equal e = inl (finmap.slice_cmp-IsAntisymmetric finmap.nat_cmp-IsAntisymmetric p q e)
    by Greater e = inr (not_equal Greater refl e)

-- ---- names and files

-- the name of a checkpoint without its ending is there again
pub name_back : (name : List ℕ) → point_name (point_file name) ≡ name
name_back name =
    let front : length (point_file name) - length point_end ≡ length name = omega (arith, length-append name point_end) in
    ap (λ n. take n (point_file name)) front ∙ take-append_seam name point_end

ends : (file : List ℕ) → is_point_file file ≡ true → drop (length file - length point_end) file ≡ point_end
ends file is = sym (same_text point_end _ (sym (and_parts (ends_with nat_eq file point_end) (is_good_name (point_name file)) is).0))

pub file_back : (file : List ℕ) → is_point_file file ≡ true → point_file (point_name file) ≡ file
file_back file is =
    ap (λ (e : List ℕ). point_name file ++ e) (sym (ends file is)) ∙ take-append-drop (length file - length point_end) file

pub good_back : (file : List ℕ) → is_point_file file ≡ true → is_good_name (point_name file) ≡ true
good_back file is = (and_parts (ends_with nat_eq file point_end) (is_good_name (point_name file)) is).1

-- a good name has a file
pub good_file : (name : List ℕ) → is_good_name name ≡ true → is_point_file (point_file name) ≡ true
good_file name good =
    let front : length (point_file name) - length point_end ≡ length name = omega (arith, length-append name point_end) in
    let end : drop (length (point_file name) - length point_end) (point_file name) ≡ point_end =
    ap (λ n. drop n (point_file name)) front ∙ drop-append_seam name point_end in
    and_from (ends_with nat_eq (point_file name) point_end) (is_good_name (point_name (point_file name)))
    (ap (pointwise nat_eq point_end) end)
    (ap is_good_name (name_back name) ∙ good)

-- other names have other files
pub files_differ : (p q : List ℕ) → (p ≡ q → ⊥) → point_file p ≡ point_file q → ⊥
files_differ p q apart e = apart (sym (name_back p) ∙ ap point_name e ∙ name_back q)

-- ---- the name in a file

-- a file without the ending is no checkpoint's
pub no_ending : (file : List ℕ) → ((front : List ℕ) → file ≡ front ++ point_end → ⊥) → is_point_file file ≡ false
no_ending file without = by (is_point_file file) refl
  where
    by : (is : Bool) → is_point_file file ≡ is → is_point_file file ≡ false
    by true is = absurd (without (point_name file) (sym (file_back file is)))
    by false isnt = isnt

-- with it the file is one if what is in front of it is a good name
pub with_ending : (file name : List ℕ) → file ≡ name ++ point_end → is_point_file file ≡ is_good_name name
with_ending file name e =
    ap is_point_file e ∙ by (is_good_name name) refl (is_point_file (point_file name)) refl
  where
    by : (good : Bool) → is_good_name name ≡ good → (is : Bool) → is_point_file (point_file name) ≡ is → is_point_file (point_file name) ≡ is_good_name name
    by true good is e = good_file name good ∙ sym good
    by false bad true is =
        let good : is_good_name name ≡ true = ap is_good_name (sym (name_back name)) ∙ good_back (point_file name) is in absurd cc
    by false bad false isnt = isnt ∙ sym bad

pub name_in_file : (file name : List ℕ) → file ≡ name ++ point_end → name ≡ point_name file
name_in_file file name e = sym (name_back name) ∙ ap point_name (sym e)

-- a file's name is short enough
pub short_file : (name : List ℕ) → is_good_name name ≡ true → length (point_file name) ≤ 72
short_file name good =
    let two = (and_parts (not (length name == 0) && nat_le (length name) longest_name) (list_all is_name_character name) good).0 in
    let few : length name ≤ 64 = leb-true (length name) longest_name (and_parts (not (length name == 0)) (nat_le (length name) longest_name) two).1 in
    omega (arith, few, length-append name point_end)
