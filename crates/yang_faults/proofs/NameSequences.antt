-- Names that are given one after another.
use Rattle.std.proofs.Common.{◌≡◌, ◌<◌, ◌||◌, ℕ, ◌+◌, Bool, true, false, cond, List, [], ◌∷◌, ◌++◌, map, take, length, get_or, String, Option, Decides, append_assoc, refl, ap, ◌∙◌, sym, subst}
use Rattle.std.specs.Global.{Global}
use Rattle.std.specs.BTreeSet.{BTreeSet, contains_text}
use Rattle.std.specs.List.{flat_map, list_any}
use Rattle.std.specs.Str.{bytes_eq}
use Rattle.std.proofs.lemmas.Bool.Decides.{same_from_decides}
use Rattle.std.proofs.lemmas.Slice.Eq.{bytes_eq-Decides}
use Rattle.std.proofs.lemmas.List.Folds.{list_any-append}
use Rattle.std.proofs.lemmas.List.Sums.{fold-append}
use Rattle.yang_text.specs.Declarations.{Declaration}
use Rattle.yang_text.specs.Statements.{declaration}
use Rattle.yang_text.specs.declared.statements.Statement.{Statement}
use Rattle.yang_faults.specs.Duplicates.{Given, given_twice, earlier_from}
use Rattle.yang_scope.specs.Faults.{lesser, least_of}
use Rattle.yang_faults.specs.NameSets.{IsSetOf, NotesGiven}
use Rattle.yang_scope.specs.declared.faults.Fault.{Fault}
use Rattle.yang_faults.specs.declared.name_sets.NameSet.{NameSet}
use Rattle.yang_faults.proofs.Steps.{flat_map-one_more}

pub bytes_eq-swap : (x y : List ℕ) → bytes_eq x y ≡ bytes_eq y x
bytes_eq-swap x y = same_from_decides _ _ (bytes_eq-Decides x y) (swapped x y)
  where
    swapped : (x y : List ℕ) → Decides (bytes_eq y x) (x ≡ y)
    swapped x y = (λ e. sym ((bytes_eq-Decides y x).0 e), λ e. (bytes_eq-Decides y x).1 (sym e))

true_or : (a b x : Bool) → a ≡ b → cond a true x ≡ (b || x)
true_or true true x same = refl
true_or false false x same = refl
true_or true false x same = absurd (cc)
true_or false true x same = absurd (cc)

pub IsSetOf-added : (old new : BTreeSet (String Global)) (names : List (List ℕ)) (name : List ℕ)
    → ((q : List ℕ) → contains_text new q ≡ cond (bytes_eq name q) true (contains_text old q)) → IsSetOf old names → IsSetOf new (name ∷ names)
IsSetOf-added old new names name updates set = record {
  holds = λ q.
      updates q
      ∙ ap (λ b. cond (bytes_eq name q) true b) (set.holds q)
      ∙ true_or (bytes_eq name q) (bytes_eq q name) (list_any (bytes_eq q) names) (bytes_eq-swap name q);
}

list_any-swap : (p : List ℕ → Bool) (names : List (List ℕ)) (name : List ℕ) → list_any p (name ∷ names) ≡ list_any p (names ++ name ∷ [])
list_any-swap p names name =
    or-comm (p name) (list_any p names)
    ∙ ap (λ b. list_any p names || b) (sym (or_false (p name)))
    ∙ sym (list_any-append p names (name ∷ []))
  where
    or_false : (b : Bool) → (b || false) ≡ b
    or_false true = refl
    or_false false = refl

    or-comm : (a b : Bool) → (a || b) ≡ (b || a)
    or-comm true true = refl
    or-comm true false = refl
    or-comm false true = refl
    or-comm false false = refl

-- a name may be counted first or last
pub IsSetOf-last : (set : BTreeSet (String Global)) (names : List (List ℕ)) (name : List ℕ) → IsSetOf set (name ∷ names) → IsSetOf set (names ++ name ∷ [])
IsSetOf-last set names name is = record { holds = λ q. is.holds q ∙ list_any-swap (bytes_eq q) names name }

again : (b a x : Bool) → (b ≡ true → a ≡ true) → a ≡ x → a ≡ (b || x)
again true a x there is = there refl
again false a x there is = is

-- a name that is there already
pub IsSetOf-again : (set : BTreeSet (String Global)) (names : List (List ℕ)) (name : List ℕ) → contains_text set name ≡ true → IsSetOf set names → IsSetOf set (name ∷ names)
IsSetOf-again set names name there is = record {
  holds = λ q. again (bytes_eq q name) (contains_text set q) (list_any (bytes_eq q) names) (λ e. ap (contains_text set) ((bytes_eq-Decides q name).0 e) ∙ there) (is.holds q);
}

pub given_twice-append : (earlier : List (List ℕ)) (gs hs : List Given) → given_twice earlier (gs ++ hs) ≡ given_twice earlier gs ++ given_twice (earlier_from earlier gs) hs
given_twice-append earlier [] hs = refl
given_twice-append earlier (g ∷ gs) hs =
    ap (λ fs. cond (list_any (bytes_eq g.0) earlier) (g.1 ∷ []) [] ++ fs) (given_twice-append (g.0 ∷ earlier) gs hs)
    ∙ sym (append_assoc (cond (list_any (bytes_eq g.0) earlier) (g.1 ∷ []) []) (given_twice (g.0 ∷ earlier) gs) (given_twice (earlier_from (g.0 ∷ earlier) gs) hs))

pub earlier_from-append : (earlier : List (List ℕ)) (gs hs : List Given) → earlier_from earlier (gs ++ hs) ≡ earlier_from (earlier_from earlier gs) hs
earlier_from-append earlier [] hs = refl
earlier_from-append earlier (g ∷ gs) hs = earlier_from-append (g.0 ∷ earlier) gs hs

-- nothing is given
pub NotesGiven-none : (least : Option Fault) (set : NameSet) → NotesGiven least least set set []
NotesGiven-none least set = λ earlier is. (refl, is)

-- what is given after what was given
pub NotesGiven-append : (l m n : Option Fault) (s t u : NameSet) (gs hs : List Given)
    → NotesGiven l m s t gs → NotesGiven m n t u hs → NotesGiven l n s u (gs ++ hs)
NotesGiven-append l m n s t u gs hs first second = λ earlier is.
    let a = first earlier is in
    let b = second (earlier_from earlier gs) a.1 in
    let P : List (List ℕ) → Type 0 = λ names. IsSetOf u.names names in (
      b.0
          ∙ ap (λ o. least_of o (given_twice (earlier_from earlier gs) hs)) a.0
          ∙ sym (fold-append lesser l (given_twice earlier gs) (given_twice (earlier_from earlier gs) hs))
          ∙ ap (least_of l) (sym (given_twice-append earlier gs hs)),
      subst P (sym (earlier_from-append earlier gs hs)) b.1,
    )

module _ (give : Declaration → List Given) (ss : List Statement) (i : ℕ) (s : Statement) (within : i < length ss) (is : s ≡ get_or ss i s) where
  -- what one more statement gives
  pub NotesGiven-more : (l m n : Option Fault) (r t u : NameSet)
      → NotesGiven l m r t (flat_map give (map declaration (take i ss))) → NotesGiven m n t u (give (declaration s))
      → NotesGiven l n r u (flat_map give (map declaration (take (i + 1) ss)))
  NotesGiven-more l m n r t u before here =
      let P : List Given → Type 0 = λ gs. NotesGiven l n r u gs in
      subst P (sym (flat_map-one_more ss i s within is declaration give))
      (NotesGiven-append l m n r t u (flat_map give (map declaration (take i ss))) (give (declaration s)) before here)
