-- What a token does at one node, by cases on where it leads.
use Rattle.std.specs.Prelude.{◌≡◌, ℕ, zero, suc, ◌<◌, ◌≤◌, List, [], ◌∷◌, ◌++◌, length, slice_get, slice_set, insert, remove as removed_at, Option, Some, None, Result, Ok, Err, IsSome}
use Rattle.std.proofs.Common.{refl, sym, ap, ◌∙◌, arith, cond, subst}
use Rattle.std.proofs.lemmas.Option.{slice_get_past}
use Rattle.std.proofs.lemmas.List.Edits.{insert_end}
use Rattle.std.proofs.lemmas.Bool.{le-leb, lt-leb}
use Rattle.std.specs.declared.cmp.Ordering.{Ordering}
use Rattle.std.specs.declared.cmp.Ordering.TheVariants.{Less, Equal, Greater}
use Rattle.std.specs.FinMap.Entries.{by_order, find-put}
use Rattle.std.specs.Ordering.{is_eq}
use Rattle.std.specs.Cmp.Lexicographic.{nat_list_cmp_total}
use Rattle.std.proofs.lemmas.Cmp.{tied_itself}
use Rattle.host_core.specs.Names.{name_cmp}
use Rattle.conf_doc.specs.Document.{Document, list, object, items_of, members_of, documents, pairs}
use Rattle.conf_doc.specs.Pairs.{find, put, without}
use Rattle.host_core.specs.Answers.{◌>>=◌}
use Rattle.patch_core.specs.Apply.{below, with_below, without_below, with_new}
use Rattle.patch_core.specs.Indexes.{index, behind_last, list_token}
use Rattle.patch_core.specs.declared.errors.FailWhy.{FailWhy}
use Rattle.patch_core.specs.declared.errors.FailWhy.TheVariants.{BadIndex, NoTarget}
use Rattle.patch_core.specs.Edits.{remove_below, replace_below}

abbrev pub ok_of : Document → Result Document FailWhy
ok_of d = Ok d

abbrev pub listed : List Document → Document
listed ds = list (items_of ds)

abbrev pub of_pairs : List (List ℕ × Document) → Document
of_pairs ms = object (members_of ms)

pub documents-items_of : (ds : List Document) → documents (items_of ds) ≡ ds
documents-items_of [] = refl
documents-items_of (d ∷ ds) = ap (λ (es : List Document). d ∷ es) (documents-items_of ds)

pub pairs-members_of : (ms : List (List ℕ × Document)) → pairs (members_of ms) ≡ ms
pairs-members_of [] = refl
pairs-members_of (m ∷ ms) = ap (λ (ns : List (List ℕ × Document)). m ∷ ns) (pairs-members_of ms)

-- ---- the child that a token names

pub below_item : (missing : FailWhy) (token : List ℕ) (ds : List Document) (i : ℕ) (d : Document) → list_token token ≡ index i → slice_get ds i ≡ Some d → below missing token (list (items_of ds)) ≡ Ok d
below_item missing token ds i d e g = rw (documents-items_of ds, e, g) refl

pub below_past : (missing : FailWhy) (token : List ℕ) (ds : List Document) (i : ℕ) → list_token token ≡ index i → length ds ≤ i → below missing token (list (items_of ds)) ≡ Err missing
below_past missing token ds i e past = rw (documents-items_of ds, e, slice_get_past ds i past) refl

pub below_member : (missing : FailWhy) (token : List ℕ) (ms : List (List ℕ × Document)) (d : Document) → find token ms ≡ Some d → below missing token (object (members_of ms)) ≡ Ok d
below_member missing token ms d e = rw (pairs-members_of ms, e) refl

pub below_no_member : (missing : FailWhy) (token : List ℕ) (ms : List (List ℕ × Document)) → find token ms ≡ None → below missing token (object (members_of ms)) ≡ Err missing
below_no_member missing token ms e = rw (pairs-members_of ms, e) refl

-- ---- another child in its list_token

pub with_below_item : (token : List ℕ) (d : Document) (ds : List Document) (i : ℕ) → list_token token ≡ index i → with_below token d (list (items_of ds)) ≡ list (items_of (slice_set ds i d))
with_below_item token d ds i e = rw (documents-items_of ds, e) refl

pub with_below_member : (token : List ℕ) (d : Document) (ms : List (List ℕ × Document)) → with_below token d (object (members_of ms)) ≡ object (members_of (put token d ms))
with_below_member token d ms = rw (pairs-members_of ms) refl

-- ---- without it

pub cut_item : (token : List ℕ) (ds : List Document) (i : ℕ) → list_token token ≡ index i → without_below token (list (items_of ds)) ≡ list (items_of (removed_at ds i))
cut_item token ds i e = rw (documents-items_of ds, e) refl

pub cut_member : (token : List ℕ) (ms : List (List ℕ × Document)) → without_below token (object (members_of ms)) ≡ object (members_of (without token ms))
cut_member token ms = rw (pairs-members_of ms) refl

-- ---- one more

pub with_new_at : (token : List ℕ) (d : Document) (ds : List Document) (i : ℕ) → list_token token ≡ index i → i ≤ length ds → with_new token d (list (items_of ds)) ≡ Ok (list (items_of (insert ds i d)))
with_new_at token d ds i e within = rw (documents-items_of ds, e, le-leb i (length ds) within) refl

pub with_new_end : (token : List ℕ) (d : Document) (ds : List Document) → list_token token ≡ index (length ds) → with_new token d (list (items_of ds)) ≡ Ok (list (items_of (ds ++ d ∷ [])))
with_new_end token d ds e = with_new_at token d ds (length ds) e (omega arith) ∙ ap (λ (es : List Document). Ok (list (items_of es))) (insert_end ds d)

pub with_new_past : (token : List ℕ) (d : Document) (ds : List Document) (i : ℕ) → list_token token ≡ index i → length ds < i → with_new token d (list (items_of ds)) ≡ Err BadIndex
with_new_past token d ds i e past = rw (documents-items_of ds, e, lt-leb i (length ds) past) refl

pub with_new_dash : (token : List ℕ) (d : Document) (ds : List Document) → list_token token ≡ behind_last → with_new token d (list (items_of ds)) ≡ Ok (list (items_of (ds ++ d ∷ [])))
with_new_dash token d ds e = rw (documents-items_of ds, e) refl

pub with_new_member : (token : List ℕ) (d : Document) (ms : List (List ℕ × Document)) → with_new token d (object (members_of ms)) ≡ Ok (object (members_of (put token d ms)))
with_new_member token d ms = rw (pairs-members_of ms) refl

-- ---- a child out of a node and another in

pub set_again : {A : Type 0} (xs : List A) (i : ℕ) (x y : A) → slice_set (slice_set xs i x) i y ≡ slice_set xs i y
set_again [] i x y = refl
set_again (z ∷ xs) zero x y = refl
set_again {A = A} (z ∷ xs) (suc i) x y = ap (λ (ys : List A). z ∷ ys) (set_again xs i x y)

pub put_again : {A : Type 0} (name : List ℕ) (x y : A) (ps : List (List ℕ × A)) → put name y (put name x ps) ≡ put name y ps
put_again name x y [] = rw (tied_itself nat_list_cmp_total name) refl
put_again {A = A} name x y (p ∷ ps) =
    elim (name_cmp name p.0) as (λ o. name_cmp name p.0 ≡ o → put name y (by_order o ((name, x) ∷ p ∷ ps) ((p.0, x) ∷ ps) (p ∷ put name x ps)) ≡ by_order o ((name, y) ∷ p ∷ ps) ((p.0, y) ∷ ps) (p ∷ put name y ps)) [
      | Less ↦ λ e. rw (tied_itself nat_list_cmp_total name) refl
      | Equal ↦ λ e. rw e refl
      | Greater ↦ λ e. rw e (ap (λ (qs : List (List ℕ × A)). p ∷ qs) (put_again name x y ps))
    ] refl

pub find_put : {A : Type 0} (name : List ℕ) (x : A) (ps : List (List ℕ × A)) → find name (put name x ps) ≡ Some x
find_put {A = A} name x ps = find-put name_cmp nat_list_cmp_total name name x ps ∙ ap (λ (o : Ordering). cond (is_eq o) (Some x) (find name ps)) (tied_itself nat_list_cmp_total name)

pub is_some_here : {A : Type 0} (o : Option A) (x : A) → o ≡ Some x → IsSome o
is_some_here {A = A} o x e = subst (λ (p : Option A). IsSome p) (sym e) refl

-- ---- edits of a child that is there, or isn't

pub removed_there : (token : List ℕ) (d child e : Document) → below NoTarget token d ≡ Ok child → without_below token d ≡ e → remove_below token d ≡ Ok e
removed_there token d child e there is = ap (λ (r : Result Document FailWhy). r >>= λ _. Ok (without_below token d)) there ∙ ap ok_of is

pub removed_fails : (token : List ℕ) (d : Document) (why : FailWhy) → below NoTarget token d ≡ Err why → remove_below token d ≡ Err why
removed_fails token d why fails = ap (λ (r : Result Document FailWhy). r >>= λ _. Ok (without_below token d)) fails

pub replaced_there : (token : List ℕ) (v d child e : Document) → below NoTarget token d ≡ Ok child → with_below token v d ≡ e → replace_below token v d ≡ Ok e
replaced_there token v d child e there is = ap (λ (r : Result Document FailWhy). r >>= λ _. Ok (with_below token v d)) there ∙ ap ok_of is

pub replaced_fails : (token : List ℕ) (v d : Document) (why : FailWhy) → below NoTarget token d ≡ Err why → replace_below token v d ≡ Err why
replaced_fails token v d why fails = ap (λ (r : Result Document FailWhy). r >>= λ _. Ok (with_below token v d)) fails
