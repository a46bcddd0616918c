-- What a patch makes of a document by the relations is what the functions that tell refusals make of it.
use Rattle.std.proofs.Common.{◌≡◌, ◌↔◌, inl, inr, ◌+◌, ℕ, List, [], ◌∷◌, ◌++◌, length, Bool, true, false, nat_le, nat_eq, if◌then◌else◌, refl, sym, ap, ◌∙◌, subst, arith, Option, Some, None, Result, Ok, Err}
use Rattle.std.specs.Prelude.{insert, slice_get, IsSome}
use Rattle.std.specs.Cmp.Lexicographic.{pointwise, same_text}
use Rattle.std.proofs.lemmas.Bool.{and_parts, and_from, eq-eqb, false_from_ne_true, leb-true, le-leb}
use Rattle.std.proofs.lemmas.List.Edits.{insert_end}
use Rattle.std.proofs.lemmas.Option.{slice_get_within, slice_get-get_or}
use Rattle.host_core.specs.Answers.{◌>>=◌}
use Rattle.conf_doc.specs.Document.{Document, text, list, object, Items, Members, documents, items_of, members_of, pairs}
use Rattle.conf_doc.specs.Pairs.{find, put}
use Rattle.patch_core.specs.Apply as apply
use Rattle.patch_core.specs.Apply.{below, with_below, without_below, with_new, target, edit_parent, edit_there, leads_into, result_of, result_within, in_order, within_limit, apply_plain}
use Rattle.patch_core.specs.Indexes.{ListToken, behind_last, index, list_token, no_index}
use Rattle.patch_core.specs.Operation.{Tokens, Operation, add, remove, replace, move_to, copy_to, test}
use Rattle.patch_core.specs.Same.{same}
use Rattle.patch_core.specs.declared.errors.FailWhy.{FailWhy}
use Rattle.patch_core.specs.declared.errors.FailWhy.TheVariants.{NoParent, NoTarget, TestFailed, TooLarge}
use Rattle.patch_core.proofs.Sameness.{same_is_equal}
use Rattle.move_core.specs.Operations.{index_text}
use Rattle.move_core.proofs.IndexTokens.{index_token}
use Rattle.gcu_engine.specs.Patching.{IsAbove, IsAdded, IsEdited, IsPatched, IsPut, IsRemoved, IsReplaced, IsResult, Lead, Names, NodeEdit}
use Rattle.gcu_engine.proofs.IndexTexts.{token_is_dash, token_is_index}

-- ---- results

pub first_ok : {A B E : Type 0} (r : Result A E) (f : A → Result B E) (b : B) → (r >>= f) ≡ Ok b
    → (a : A) × (r ≡ Ok a) × (f a ≡ Ok b)
first_ok (Ok a) f b e = (a, refl, e)
first_ok (Err why) f b e = absurd cc

pub then_ok : {A B E : Type 0} (r : Result A E) (f : A → Result B E) (a : A) (b : B) → r ≡ Ok a → f a ≡ Ok b
    → (r >>= f) ≡ Ok b
then_ok r f a b is e = ap (λ x. x >>= f) is ∙ e

-- ---- the child that a token names

there_at : (why : FailWhy) (token : List ℕ) (ds : Items) (child : Document) (i : ℕ) → list_token token ≡ index i
    → (o : Option Document) → slice_get (documents ds) i ≡ o
    → below why token (list ds) ≡ Ok child → slice_get (documents ds) i ≡ Some child
there_at why token ds child i at None none h = let k = rw (at, none) at h in absurd cc
there_at why token ds child i at (Some d) some h =
    let k = rw (at, some) at h in
    let same : d ≡ child = cc in some ∙ ap (λ x. Some x) same

named_item : (why : FailWhy) (token : List ℕ) (ds : Items) (child : Document) (t : ListToken) → list_token token ≡ t
    → below why token (list ds) ≡ Ok child → Names token (list ds) child
named_item why token ds child (index i) e h = (i, token_is_index token i e, there_at why token ds child i e _ refl h)
named_item why token ds child behind_last e h = let k = rw e at h in absurd cc
named_item why token ds child no_index e h = let k = rw e at h in absurd cc

named_member : (why : FailWhy) (token : List ℕ) (ms : Members) (child : Document) (o : Option Document)
    → find token (pairs ms) ≡ o → below why token (object ms) ≡ Ok child → o ≡ Some child
named_member why token ms child None e h = let k = rw e at h in absurd cc
named_member why token ms child (Some d) e h =
    let k = rw e at h in
    let same : d ≡ child = cc in ap (λ x. Some x) same

names_there : (why : FailWhy) (token : List ℕ) (d child : Document) → below why token d ≡ Ok child → Names token d child
names_there why token (text s) child h = absurd cc
names_there why token (list ds) child h = named_item why token ds child (list_token token) refl h
names_there why token (object ms) child h = named_member why token ms child (find token (pairs ms)) refl h

index_at : (token : List ℕ) (i : ℕ) → token ≡ index_text i → list_token token ≡ index i
index_at token i e = ap list_token e ∙ index_token i

there_names : (why : FailWhy) (token : List ℕ) (d child : Document) → Names token d child → below why token d ≡ Ok child
there_names why token (text s) child never = absurd never
there_names why token (list ds) child (i, is, at) = rw (index_at token i is, at) refl
there_names why token (object ms) child at = rw at refl

-- ---- what the tokens lead to

leads_there : (path : Tokens) (d x : Document) → target path d ≡ Ok x → Lead path d x
leads_there [] d x e = let same : x ≡ d = cc in same
leads_there (token ∷ []) d x e = (x, names_there NoTarget token d x e, refl)
leads_there (token ∷ next ∷ rest) d x e =
    let (child, at, more) = first_ok (below NoParent token d) (target (next ∷ rest)) x e in
    (child, names_there NoParent token d child at, leads_there (next ∷ rest) child x more)

there_leads : (path : Tokens) (d x : Document) → Lead path d x → target path d ≡ Ok x
there_leads [] d x e = ap (λ y. Ok y) (sym e)
there_leads (token ∷ []) d x (child, at, e) = there_names NoTarget token d child at ∙ ap (λ y. Ok y) (sym e)
there_leads (token ∷ next ∷ rest) d x (child, at, more) =
    then_ok (below NoParent token d) (target (next ∷ rest)) child x (there_names NoParent token d child at)
    (there_leads (next ∷ rest) child x more)

-- ---- the three edits at a token

some_is : {A : Type 0} (o : Option A) → IsSome o → (a : A) × (o ≡ Some a)
some_is None some = absurd cc
some_is (Some a) some = (a, refl)

is_some : {A : Type 0} (o : Option A) (a : A) → o ≡ Some a → IsSome o
is_some {A = A} o a e = subst (λ (p : Option A). IsSome p) (sym e) refl

-- what is set of a child that is there is its replacement
replaces_named : (token : List ℕ) (v d child e : Document) → Names token d child → e ≡ with_below token v d
    → IsReplaced v token d e
replaces_named token v (text s) child e never is = absurd never
replaces_named token v (list ds) child e (i, at, found) is =
    (i, at, slice_get_within (documents ds) i child found, is ∙ rw (index_at token i at) refl)
replaces_named token v (object ms) child e found is = (is_some (find token (pairs ms)) child found, is)

named_replaces : (token : List ℕ) (v d e : Document) → IsReplaced v token d e
    → (child : Document) × Names token d child × (e ≡ with_below token v d)
named_replaces token v (text s) e never = absurd never
named_replaces token v (list ds) e (i, at, below, is) =
    let found = slice_get-get_or (documents ds) i v below in
    (_, (i, at, found), is ∙ rw (index_at token i at) refl)
named_replaces token v (object ms) e (some, is) =
    let (child, found) = some_is (find token (pairs ms)) some in (child, found, is)

removes_named : (token : List ℕ) (d child e : Document) → Names token d child → e ≡ without_below token d
    → IsRemoved token d e
removes_named token (text s) child e never is = absurd never
removes_named token (list ds) child e (i, at, found) is =
    (i, at, slice_get_within (documents ds) i child found, is ∙ rw (index_at token i at) refl)
removes_named token (object ms) child e found is = (is_some (find token (pairs ms)) child found, is)

named_removes : (token : List ℕ) (d e : Document) → IsRemoved token d e
    → (child : Document) × Names token d child × (e ≡ without_below token d)
named_removes token (text s) e never = absurd never
named_removes token (list ds) e (i, at, below, is) =
    let found = slice_get-get_or (documents ds) i (text []) below in
    (_, (i, at, found), is ∙ rw (index_at token i at) refl)
named_removes token (object ms) e (some, is) =
    let (child, found) = some_is (find token (pairs ms)) some in (child, found, is)

added_item : (v : Document) (token : List ℕ) (ds : Items) (e : Document) (t : ListToken) → list_token token ≡ t
    → with_new token v (list ds) ≡ Ok e → IsAdded v token (list ds) e
added_item v token ds e (index i) at h = by (nat_le i (length (documents ds))) refl
  where
    by : (b : Bool) → nat_le i (length (documents ds)) ≡ b → IsAdded v token (list ds) e
    by true fits =
        let k = rw (at, fits) at h in
        let same : e ≡ list (items_of (insert (documents ds) i v)) = cc in
        (i, inl (token_is_index token i at), leb-true i (length (documents ds)) fits, same)
    by false over = let k = rw (at, over) at h in absurd cc
added_item v token ds e behind_last at h =
    let k = rw at at h in
    let same : e ≡ list (items_of (documents ds ++ v ∷ [])) = cc in (
      length (documents ds),
      inr (token_is_dash token at, refl),
      omega arith,
      same ∙ ap (λ (es : List Document). list (items_of es)) (sym (insert_end (documents ds) v)),
    )
added_item v token ds e no_index at h = let k = rw at at h in absurd cc

added_there : (v : Document) (token : List ℕ) (d e : Document) → with_new token v d ≡ Ok e → IsAdded v token d e
added_there v token (text s) e h = absurd cc
added_there v token (list ds) e h = added_item v token ds e (list_token token) refl h
added_there v token (object ms) e h = let same : e ≡ object (members_of (put token v (pairs ms))) = cc in same

there_added : (v : Document) (token : List ℕ) (d e : Document) → IsAdded v token d e → with_new token v d ≡ Ok e
there_added v token (text s) e never = absurd never
there_added v token (list ds) e (i, inl at, within, same) =
    rw (index_at token i at, le-leb i (length (documents ds)) within) (ap (λ x. Ok x) (sym same))
there_added v token (list ds) e (i, inr (dash, end), within, same) =
    let behind : list_token token ≡ behind_last = ap list_token dash in
    let inserted = insert_end (documents ds) v in
    rw behind (ap (λ x. Ok x)
    (ap (λ (es : List Document). list (items_of es)) (sym inserted ∙ ap (λ n. insert (documents ds) n v) (sym end))
    ∙ sym same))
there_added v token (object ms) e same = ap (λ x. Ok x) (sym same)

removed_there : (token : List ℕ) (d e : Document) → edit_there without_below token d ≡ Ok e → IsRemoved token d e
removed_there token d e h =
    let (child, at, is) = first_ok (below NoTarget token d) (λ _. Ok (without_below token d)) e h in
    let same : e ≡ without_below token d = cc in
    removes_named token d child e (names_there NoTarget token d child at) same

there_removed : (token : List ℕ) (d e : Document) → IsRemoved token d e → edit_there without_below token d ≡ Ok e
there_removed token d e h =
    let (child, names, same) = named_removes token d e h in
    then_ok (below NoTarget token d) (λ _. Ok (without_below token d)) child e
    (there_names NoTarget token d child names) (ap (λ x. Ok x) (sym same))

-- with a value in the place of what is there
abbrev with_other : Document → apply.NodeEdit
with_other v = edit_there (λ last node. with_below last v node)

replaced_there : (v : Document) (token : List ℕ) (d e : Document) → with_other v token d ≡ Ok e → IsReplaced v token d e
replaced_there v token d e h =
    let (child, at, is) = first_ok (below NoTarget token d) (λ _. Ok (with_below token v d)) e h in
    let same : e ≡ with_below token v d = cc in
    replaces_named token v d child e (names_there NoTarget token d child at) same

there_replaced : (v : Document) (token : List ℕ) (d e : Document) → IsReplaced v token d e → with_other v token d ≡ Ok e
there_replaced v token d e h =
    let (child, names, same) = named_replaces token v d e h in
    then_ok (below NoTarget token d) (λ _. Ok (with_below token v d)) child e
    (there_names NoTarget token d child names) (ap (λ x. Ok x) (sym same))

-- ---- an edit at the end of a path

module _ (E : NodeEdit) (f : apply.NodeEdit) where
  edited_there : ((token : List ℕ) (d e : Document) → f token d ≡ Ok e → E token d e)
      → (token : List ℕ) (rest : Tokens) (d e : Document) → edit_parent f token rest d ≡ Ok e
      → IsEdited E (token ∷ rest) d e
  edited_there is token [] d e h = is token d e h
  edited_there is token (next ∷ rest) d e h =
      let (child, at, more) = first_ok (below NoParent token d)
      (λ child. edit_parent f next rest child >>= λ new. Ok (with_below token new d)) e h in
      let (new, edits, puts) = first_ok (edit_parent f next rest child) (λ new. Ok (with_below token new d)) e more in
      let names = names_there NoParent token d child at in
      let same : e ≡ with_below token new d = cc in
      (child, new, names, edited_there is next rest child new edits, replaces_named token new d child e names same)

  there_edited : ((token : List ℕ) (d e : Document) → E token d e → f token d ≡ Ok e)
      → (token : List ℕ) (rest : Tokens) (d e : Document) → IsEdited E (token ∷ rest) d e
      → edit_parent f token rest d ≡ Ok e
  there_edited is token [] d e h = is token d e h
  there_edited is token (next ∷ rest) d e (child, new, names, edits, puts) =
      let (old, at, same) = named_replaces token new d e puts in
      then_ok (below NoParent token d) (λ child. edit_parent f next rest child >>= λ new. Ok (with_below token new d))
      child e (there_names NoParent token d child names)
      (then_ok (edit_parent f next rest child) (λ new. Ok (with_below token new d)) new e
      (there_edited is next rest child new edits) (ap (λ x. Ok x) (sym same)))

put_there : (v : Document) (path : Tokens) (d e : Document) → apply.after_add path v d ≡ Ok e → IsPut IsAdded v path d e
put_there v [] d e h = let same : e ≡ v = cc in same
put_there v (token ∷ rest) d e h =
    edited_there (IsAdded v) (λ last node. with_new last v node) (added_there v) token rest d e h

there_put : (v : Document) (path : Tokens) (d e : Document) → IsPut IsAdded v path d e → apply.after_add path v d ≡ Ok e
there_put v [] d e h = ap (λ x. Ok x) (sym h)
there_put v (token ∷ rest) d e h =
    there_edited (IsAdded v) (λ last node. with_new last v node) (there_added v) token rest d e h

cut_there : (path : Tokens) (d e : Document) → apply.after_remove path d ≡ Ok e → IsEdited IsRemoved path d e
cut_there [] d e h = absurd cc
cut_there (token ∷ rest) d e h = edited_there IsRemoved (edit_there without_below) removed_there token rest d e h

there_cut : (path : Tokens) (d e : Document) → IsEdited IsRemoved path d e → apply.after_remove path d ≡ Ok e
there_cut [] d e never = absurd never
there_cut (token ∷ rest) d e h = there_edited IsRemoved (edit_there without_below) there_removed token rest d e h

set_there : (v : Document) (path : Tokens) (d e : Document) → apply.after_replace path v d ≡ Ok e
    → IsPut IsReplaced v path d e
set_there v [] d e h = let same : e ≡ v = cc in same
set_there v (token ∷ rest) d e h = edited_there (IsReplaced v) (with_other v) (replaced_there v) token rest d e h

there_set : (v : Document) (path : Tokens) (d e : Document) → IsPut IsReplaced v path d e
    → apply.after_replace path v d ≡ Ok e
there_set v [] d e h = ap (λ x. Ok x) (sym h)
there_set v (token ∷ rest) d e h = there_edited (IsReplaced v) (with_other v) (there_replaced v) token rest d e h

-- ---- a path above another

text_itself : (s : List ℕ) → pointwise nat_eq s s ≡ true
text_itself [] = refl
text_itself (b ∷ bs) = and_from (nat_eq b b) (pointwise nat_eq bs bs) (eq-eqb b b refl) (text_itself bs)

above_leads : (from : Tokens) (token : List ℕ) (rest : Tokens) → leads_into from (from ++ token ∷ rest) ≡ true
above_leads [] token rest = refl
above_leads (one ∷ from) token rest =
    and_from (pointwise nat_eq one one) (leads_into from (from ++ token ∷ rest)) (text_itself one)
    (above_leads from token rest)

leads_above : (from path : Tokens) → leads_into from path ≡ true → IsAbove from path
leads_above [] [] h = absurd cc
leads_above (one ∷ from) [] h = absurd cc
leads_above [] (token ∷ rest) h = (token, rest, refl)
leads_above (one ∷ from) (other ∷ path) h =
    let parts = and_parts (pointwise nat_eq one other) (leads_into from path) h in
    let (token, rest, e) = leads_above from path parts.1 in
    let same = same_text one other (sym parts.0) in
    (token, rest, λ j. sym same j ∷ e j)

not_above : (from path : Tokens) → leads_into from path ≡ false → ¬ IsAbove from path
not_above from path into (token, rest, e) =
    let leads : leads_into from path ≡ true = ap (leads_into from) e ∙ above_leads from token rest in absurd cc

not_into : (from path : Tokens) → ¬ IsAbove from path → leads_into from path ≡ false
not_into from path other = false_from_ne_true (leads_into from path) (λ leads. other (leads_above from path leads))

-- ---- the six operations

copied_there : (from path : Tokens) (d e : Document) → result_of (copy_to from path) d ≡ Ok e
    → IsResult (copy_to from path) d e
copied_there from path d e h =
    let (v, at, puts) = first_ok (target from d) (λ v. apply.after_add path v d) e h in
    (v, leads_there from d v at, put_there v path d e puts)

moved_there : (from path : Tokens) (d e : Document) (b : Bool) → leads_into from path ≡ b
    → result_of (move_to from path) d ≡ Ok e → IsResult (move_to from path) d e
moved_there from path d e true into h = let k = rw into at h in absurd cc
moved_there from path d e false into h =
    let k = rw into at h in
    let (v, at, more) = first_ok (target from d) (λ v. apply.after_remove from d >>= apply.after_add path v) e k in
    let (left, cuts, puts) = first_ok (apply.after_remove from d) (apply.after_add path v) e more in (
      v,
      left,
      not_above from path into,
      leads_there from d v at,
      cut_there from d left cuts,
      put_there v path left e
          puts,
    )

tested_there : (path : Tokens) (v d e : Document) → result_of (test path v) d ≡ Ok e → IsResult (test path v) d e
tested_there path v d e h =
    let (w, at, is) = first_ok (target path d) (λ w. if same v w then Ok d else Err TestFailed) e h in
    by w at (same v w) refl is
  where
    by : (w : Document) → target path d ≡ Ok w → (b : Bool) → same v w ≡ b
        → (if b then Ok d else Err TestFailed) ≡ Ok e → IsResult (test path v) d e
    by w at true alike is =
        let equal : v ≡ w = (same_is_equal v w).0 alike in
        let kept : e ≡ d = cc in
        (leads_there path d v (at ∙ ap (λ x. Ok x) (sym equal)), kept)
    by w at false other is = absurd cc

result_there : (op : Operation) (d e : Document) → result_of op d ≡ Ok e → IsResult op d e
result_there (add path v) d e h = put_there v path d e h
result_there (remove path) d e h = cut_there path d e h
result_there (replace path v) d e h = set_there v path d e h
result_there (move_to from path) d e h = moved_there from path d e (leads_into from path) refl h
result_there (copy_to from path) d e h = copied_there from path d e h
result_there (test path v) d e h = tested_there path v d e h

there_result : (op : Operation) (d e : Document) → IsResult op d e → result_of op d ≡ Ok e
there_result (add path v) d e h = there_put v path d e h
there_result (remove path) d e h = there_cut path d e h
there_result (replace path v) d e h = there_set v path d e h
there_result (move_to from path) d e (v, left, other, leads, cuts, puts) =
    rw (not_into from path other) (then_ok (target from d) (λ v. apply.after_remove from d >>= apply.after_add path v)
    v e (there_leads from d v leads)
    (then_ok (apply.after_remove from d) (apply.after_add path v) left e (there_cut from d left cuts)
    (there_put v path left e puts)))
there_result (copy_to from path) d e (v, leads, puts) =
    then_ok (target from d) (λ v. apply.after_add path v d) v e (there_leads from d v leads) (there_put v path d e puts)
there_result (test path v) d e (leads, kept) =
    then_ok (target path d) (λ w. if same v w then Ok d else Err TestFailed) v e (there_leads path d v leads)
    (ap (λ (b : Bool). if b then Ok d else Err TestFailed) ((same_is_equal v v).1 refl) ∙ ap (λ x. Ok x) (sym kept))

-- what an operation makes of a document is decided by the function that tells refusals
pub result_is : (op : Operation) (d e : Document) → IsResult op d e ↔ (result_of op d ≡ Ok e)
result_is op d e = (there_result op d e, result_there op d e)

-- ---- the operations in order

first_step : (step : apply.Step) (i : ℕ) (op : Operation) (ops : List Operation) (d e : Document)
    (r : Result Document FailWhy) → step op d ≡ r → in_order step i (op ∷ ops) d ≡ Ok e
    → (next : Document) × (step op d ≡ Ok next) × (in_order step (i + 1) ops next ≡ Ok e)
first_step step i op ops d e (Ok next) is h = (next, is, rw is at h)
first_step step i op ops d e (Err why) is h = let k = rw is at h in absurd cc

-- where each step gives the result of its operation, the operations in order give what the patch makes
patched_by : (step : apply.Step) → ((op : Operation) (d e : Document) → step op d ≡ Ok e → IsResult op d e)
    → (i : ℕ) (ops : List Operation) (d e : Document) → in_order step i ops d ≡ Ok e → IsPatched ops d e
patched_by step results i [] d e h = let kept : e ≡ d = cc in kept
patched_by step results i (op ∷ ops) d e h =
    let (next, is, more) = first_step step i op ops d e (step op d) refl h in
    (next, results op d next is, patched_by step results (i + 1) ops next e more)

there_patched : (i : ℕ) (ops : List Operation) (d e : Document) → IsPatched ops d e → in_order result_of i ops d ≡ Ok e
there_patched i [] d e h = ap (λ x. Ok x) (sym h)
there_patched i (op ∷ ops) d e (next, is, more) =
    rw ((result_is op d next).0 is) (there_patched (i + 1) ops next e more)

-- what a patch makes of a document is decided by the function that tells refusals
pub patched_is : (ops : List Operation) (d e : Document) → IsPatched ops d e ↔ (apply_plain ops d ≡ Ok e)
patched_is ops d e =
    (there_patched 0 ops d e, patched_by result_of (λ op before after. (result_is op before after).1) 0 ops d e)

if_fits : (b : Bool) (d e : Document) → (if b then Ok d else Err TooLarge) ≡ Ok e → d ≡ e
if_fits true d e is = let same : d ≡ e = cc in same
if_fits false d e is = absurd cc

-- a result within the limit is the result
within_is : (op : Operation) (d e : Document) → result_within op d ≡ Ok e → IsResult op d e
within_is op d e h =
    let (next, is, fits) = first_ok (result_of op d) within_limit e h in
    (result_is op d e).1 (is ∙ ap (λ x. Ok x) (if_fits (apply.fits next) next e fits))

-- so is that of a patch
pub patched_within : (ops : List Operation) (d e : Document) → apply.apply ops d ≡ Ok e → IsPatched ops d e
patched_within ops d e h = patched_by result_within within_is 0 ops d e h
