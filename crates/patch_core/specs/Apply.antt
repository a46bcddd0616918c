-- The application of a patch (RFC 6902, section 4): by recursion on the tokens of a pointer, and
-- then on the operations.
use Rattle.std.specs.Prelude.{ℕ, ◌+◌, List, [], ◌∷◌, ◌++◌, length, slice_get, slice_set, insert, remove as removed_at, Bool, true, false, ◌&&◌, nat_eq, nat_le, if◌then◌else◌, Option, Some, None, Result, Ok, Err}
use Rattle.std.specs.Cmp.Lexicographic.{pointwise}
use Rattle.host_core.specs.Answers.{◌>>=◌, map_ok}
use Rattle.conf_doc.specs.Document.{Document, text, list, object, documents, items_of, pairs, members_of, depth, weight}
use Rattle.conf_doc.specs.Pairs.{find, put, without}
use Rattle.patch_core.specs.Operation.{Tokens, Operation, add, remove, replace, move_to, copy_to, test}
use Rattle.patch_core.specs.Indexes.{ListToken, index, behind_last, no_index, list_token}
use Rattle.patch_core.specs.Same.{same}
use Rattle.patch_core.specs.declared.errors.FailWhy.{FailWhy}
use Rattle.patch_core.specs.declared.errors.FailWhy.TheVariants.{NoParent, BadIndex, NoTarget, RootRemove, TestFailed, IntoItself, TooLarge}
use Rattle.patch_core.specs.declared.errors.ApplyError.{ApplyError}
use Rattle.patch_core.specs.declared.errors.ApplyError.TheVariants.{Failed, Memory}

-- ---- one token

-- what is there, or the answer where there is nothing
abbrev or_missing : {A : Type 0} → FailWhy → Option A → Result A FailWhy
or_missing missing None = Err missing
or_missing missing (Some a) = Ok a

abbrev item_at : FailWhy → ListToken → List Document → Result Document FailWhy
item_at missing (index i) ds = or_missing missing (slice_get ds i)
item_at missing behind_last ds = Err missing
item_at missing no_index ds = Err BadIndex

-- what a token names in a node, or the answer where it names nothing
abbrev pub below : FailWhy → List ℕ → Document → Result Document FailWhy
below missing token (text s) = Err NoParent
below missing token (list ds) = item_at missing (list_token token) (documents ds)
below missing token (object ms) = or_missing missing (find token (pairs ms))

abbrev set_at : ListToken → Document → List Document → List Document
set_at (index i) d ds = slice_set ds i d
set_at behind_last d ds = ds
set_at no_index d ds = ds

-- the node with another document in the place of what the token names
abbrev pub with_below : List ℕ → Document → Document → Document
with_below token d (text s) = text s
with_below token d (list ds) = list (items_of (set_at (list_token token) d (documents ds)))
with_below token d (object ms) = object (members_of (put token d (pairs ms)))

abbrev cut_at : ListToken → List Document → List Document
cut_at (index i) ds = removed_at ds i
cut_at behind_last ds = ds
cut_at no_index ds = ds

-- the node without what the token names
abbrev pub without_below : List ℕ → Document → Document
without_below token (text s) = text s
without_below token (list ds) = list (items_of (cut_at (list_token token) (documents ds)))
without_below token (object ms) = object (members_of (without token (pairs ms)))

abbrev insert_at : ListToken → Document → List Document → Result (List Document) FailWhy
insert_at (index i) d ds = if nat_le i (length ds) then Ok (insert ds i d) else Err BadIndex
insert_at behind_last d ds = Ok (ds ++ d ∷ [])
insert_at no_index d ds = Err BadIndex

-- the node with one more document: a member is set, an item goes in at its index or behind the last
abbrev pub with_new : List ℕ → Document → Document → Result Document FailWhy
with_new token d (text s) = Err NoParent
with_new token d (list ds) =
    map_ok (λ es. list (items_of es)) (insert_at (list_token token) d (documents ds))
with_new token d (object ms) = Ok (object (members_of (put token d (pairs ms))))

-- ---- the tokens of a pointer

-- what the tokens lead to
abbrev pub target : Tokens → Document → Result Document FailWhy
target [] d = Ok d
target (token ∷ []) d = below NoTarget token d
target (token ∷ next ∷ rest) d = below NoParent token d >>= target (next ∷ rest)

-- what is done to a node at a token
abbrev pub NodeEdit : Type 0
NodeEdit = List ℕ → Document → Result Document FailWhy

-- the document after an edit at the last token, of the node that all tokens before it lead to
abbrev pub edit_parent : NodeEdit → List ℕ → Tokens → Document → Result Document FailWhy
edit_parent f token [] d = f token d
edit_parent f token (next ∷ rest) d =
    below NoParent token d >>= λ child.
    edit_parent f next rest child >>= λ new.
    Ok (with_below token new d)

-- ---- the six operations

-- a document put at a path, in the place of a member or before an item
abbrev pub after_add : Tokens → Document → Document → Result Document FailWhy
after_add [] v d = Ok v
after_add (token ∷ rest) v d = edit_parent (λ last node. with_new last v node) token rest d

-- an edit of what is there
abbrev pub edit_there : (List ℕ → Document → Document) → NodeEdit
edit_there f token d = below NoTarget token d >>= λ _. Ok (f token d)

-- the document without what a path leads to
abbrev pub after_remove : Tokens → Document → Result Document FailWhy
after_remove [] d = Err RootRemove
after_remove (token ∷ rest) d = edit_parent (edit_there without_below) token rest d

-- the document with another in the place of what a path leads to
abbrev pub after_replace : Tokens → Document → Document → Result Document FailWhy
after_replace [] v d = Ok v
after_replace (token ∷ rest) v d =
    edit_parent (edit_there (λ last node. with_below last v node)) token rest d

-- the one path is a beginning of the other, which is longer
abbrev pub leads_into : Tokens → Tokens → Bool
leads_into from [] = false
leads_into [] (token ∷ rest) = true
leads_into (one ∷ from) (token ∷ rest) = pointwise nat_eq one token && leads_into from rest

-- a move is a remove, and then an add of what was there
abbrev after_move : (from path : Tokens) → Document → Result Document FailWhy
after_move from path d = target from d >>= λ v. after_remove from d >>= after_add path v

-- the document after one operation, or why it fails
abbrev pub result_of : Operation → Document → Result Document FailWhy
result_of (add path v) d = after_add path v d
result_of (remove path) d = after_remove path d
result_of (replace path v) d = after_replace path v d
result_of (move_to from path) d =
    if leads_into from path then Err IntoItself else after_move from path d
result_of (copy_to from path) d = target from d >>= λ v. after_add path v d
result_of (test path v) d = target path d >>= λ w. if same v w then Ok d else Err TestFailed

-- ---- the limit

-- how deep a tree may nest
abbrev pub most_levels : ℕ
most_levels = 127

-- how much a tree may weigh: one for each node, and the bytes of each text and name
abbrev pub most_weight : ℕ
most_weight = 8388608

-- a tree within the limit
abbrev pub fits : Document → Bool
fits d = nat_le (depth d) most_levels && nat_le (weight d) most_weight

-- a tree, where it is within the limit
abbrev pub within_limit : Document → Result Document FailWhy
within_limit d = if fits d then Ok d else Err TooLarge

-- the document after one operation, within the limit
abbrev pub result_within : Operation → Document → Result Document FailWhy
result_within op d = result_of op d >>= within_limit

-- ---- a patch

abbrev failed_at : ℕ → Result Document FailWhy → Result Document ApplyError
failed_at i (Ok d) = Ok d
failed_at i (Err why) = Err (Failed i why)

-- what an operation makes of a document
abbrev pub Step : Type 0
Step = Operation → Document → Result Document FailWhy

-- the operations in order, counted from i: each on what the one before it left
abbrev pub in_order : Step → ℕ → List Operation → Document → Result Document ApplyError
in_order step i [] d = Ok d
in_order step i (op ∷ ops) d = failed_at i (step op d) >>= in_order step (i + 1) ops

-- the document after a patch, or the first operation that fails
abbrev pub apply : List Operation → Document → Result Document ApplyError
apply ops d = in_order result_within 0 ops d

-- the same with no limit on the document's size
abbrev pub apply_plain : List Operation → Document → Result Document ApplyError
apply_plain ops d = in_order result_of 0 ops d

-- the fault that an error tells, or none for want of memory
abbrev pub apply_fault : ApplyError → Option ApplyError
apply_fault (Failed i why) = Some (Failed i why)
apply_fault Memory = None
