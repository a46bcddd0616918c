-- One element of a patch document (RFC 6902, section 4): the operation that it is, or its first
-- fault.
use Rattle.std.specs.Prelude.{ℕ, List, [], ◌∷◌, codes, Bool, false, not, ◌&&◌, nat_eq, if◌then◌else◌, Option, Some, None, is_none, option_map, option_and_then, Result, Ok, Err}
use Rattle.std.specs.Cmp.Lexicographic.{pointwise}
use Rattle.std.specs.List.{list_any}
use Rattle.serde_json.specs.Data.{Data}
use Rattle.serde_json.specs.Find.{get, as_str, as_object}
use Rattle.conf_doc.specs.Document.{Document}
use Rattle.conf_doc.specs.Reading.{document_of}
use Rattle.patch_core.specs.Operation.{Tokens, Operation, add, remove, replace, move_to, copy_to, test}
use Rattle.patch_core.specs.Tokens.{tokens}
use Rattle.patch_core.specs.declared.errors.PatchWhy.{PatchWhy}
use Rattle.patch_core.specs.declared.errors.PatchWhy.TheVariants.{NotObject, NoOp, UnknownOp, NoPath, BadPath, NoValue, BadValue, NoFrom, BadFrom}

-- ---- the members of an element

-- a member that is a text
abbrev pub text_in : List ℕ → Data → Option (List ℕ)
text_in name d = option_and_then as_str (get name d)

-- a member that is a text and a pointer
abbrev pub pointer_in : List ℕ → Data → Option Tokens
pointer_in name d = option_and_then tokens (text_in name d)

-- the value, where nothing was at fault
abbrev pub ok_value : {A F : Type 0} → Result A F → Option A
ok_value (Ok a) = Some a
ok_value (Err e) = None

-- a member without a number, true, false or null in it
abbrev pub document_in : List ℕ → Data → Option Document
document_in name d = option_and_then (λ v. ok_value (document_of v)) (get name d)

-- the text is there, and one of these names
abbrev pub is_one_of : List (List ℕ) → Option (List ℕ) → Bool
is_one_of names None = false
is_one_of names (Some text) = list_any (λ name. pointwise nat_eq text name) names

-- the member `op` is one of these names
abbrev pub has_op : List (List ℕ) → Data → Bool
has_op names d = is_one_of names (text_in (codes "op") d)

-- the operations that need a member `value`
abbrev pub with_value : List (List ℕ)
with_value = codes "add" ∷ codes "replace" ∷ codes "test" ∷ []

-- the operations that need a member `from`
abbrev pub with_from : List (List ℕ)
with_from = codes "move" ∷ codes "copy" ∷ []

-- all operations
abbrev pub all_names : List (List ℕ)
all_names = codes "remove" ∷ codes "move" ∷ codes "copy" ∷ with_value

-- ---- the operation

-- what f makes of two, where both are there
abbrev pub of_both : {A B C : Type 0} → (A → B → C) → Option A → Option B → Option C
of_both f one other = option_and_then (λ a. option_map (f a) other) one

-- the operation that an element is; other members play no part
abbrev pub operation : Data → Option Operation
operation d =
    let path = pointer_in (codes "path") d in
    let from = pointer_in (codes "from") d in
    let value = document_in (codes "value") d in
    if has_op (codes "add" ∷ []) d then of_both add path value
    else if has_op (codes "remove" ∷ []) d then option_map remove path
    else if has_op (codes "replace" ∷ []) d then of_both replace path value
    else if has_op (codes "move" ∷ []) d then of_both (λ p f. move_to f p) path from
    else if has_op (codes "copy" ∷ []) d then of_both (λ p f. copy_to f p) path from
    else if has_op (codes "test" ∷ []) d then of_both test path value
    else None

-- ---- the first fault

-- the first fault, in this order, of an element that is no operation
abbrev pub first_fault : Data → PatchWhy
first_fault d =
    if is_none (as_object d) then NotObject
    else if is_none (text_in (codes "op") d) then NoOp
    else if not (has_op all_names d) then UnknownOp
    else if is_none (text_in (codes "path") d) then NoPath
    else if is_none (pointer_in (codes "path") d) then BadPath
    else if has_op with_value d && is_none (get (codes "value") d) then NoValue
    else if has_op with_value d then BadValue
    else if is_none (text_in (codes "from") d) then NoFrom
    else BadFrom

-- what an element is, or why it is nothing
abbrev pub or_fault : PatchWhy → Option Operation → Result Operation PatchWhy
or_fault why None = Err why
or_fault why (Some op) = Ok op

-- the operation that an element is, or else its first fault
abbrev pub element : Data → Result Operation PatchWhy
element d = or_fault (first_fault d) (operation d)
