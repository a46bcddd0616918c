-- The members of an element as they are read one after another. It comes to `element`, by a lemma.
use Rattle.std.specs.Prelude.{ℕ, List, codes, Bool, nat_eq, if◌then◌else◌, Option, Some, None, option_and_then, Result, Ok, Err}
use Rattle.std.specs.Cmp.Lexicographic.{pointwise}
use Rattle.host_core.specs.Answers.{◌>>=◌, map_ok}
use Rattle.serde_json.specs.Data.{Data, Members}
use Rattle.serde_json.specs.Find.{get_member, as_str, as_object}
use Rattle.conf_doc.specs.Document.{Document}
use Rattle.conf_doc.specs.Reading.{Way, document_of}
use Rattle.patch_core.specs.Operation.{Tokens, Operation, add, remove, replace, move_to, copy_to, test}
use Rattle.patch_core.specs.Tokens.{tokens}
use Rattle.patch_core.specs.declared.elements.Kind.{Kind}
use Rattle.patch_core.specs.declared.elements.Kind.TheVariants.{Add, Remove, Replace, Move, Copy, Test}
use Rattle.patch_core.specs.declared.errors.ElementError.{ElementError}
use Rattle.patch_core.specs.declared.errors.ElementError.TheVariants as elements
use Rattle.patch_core.specs.declared.errors.PatchWhy.{PatchWhy}
use Rattle.patch_core.specs.declared.errors.PatchWhy.TheVariants.{NotObject, NoOp, UnknownOp, NoPath, BadPath, NoValue, BadValue, NoFrom, BadFrom}

-- what is there, or the fault that it is missing
abbrev pub present : {A : Type 0} → PatchWhy → Option A → Result A PatchWhy
present missing None = Err missing
present missing (Some a) = Ok a

-- a member that is a text
abbrev pub read_text : PatchWhy → List ℕ → Members → Result (List ℕ) PatchWhy
read_text missing name ms = present missing (option_and_then as_str (get_member name ms))

-- a member that is a pointer
abbrev pub read_tokens : PatchWhy → PatchWhy → List ℕ → Members → Result Tokens PatchWhy
read_tokens missing malformed name ms =
    read_text missing name ms >>= λ s. present malformed (tokens s)

-- a number, true, false or null in a value is its fault
abbrev pub or_bad_value : Result Document Way → Result Document PatchWhy
or_bad_value (Ok d) = Ok d
or_bad_value (Err way) = Err BadValue

-- the member `value`
abbrev pub read_value : Members → Result Document PatchWhy
read_value ms =
    present NoValue (get_member (codes "value") ms) >>= λ d. or_bad_value (document_of d)

-- the member `path`
abbrev pub read_path : Members → Result Tokens PatchWhy
read_path ms = read_tokens NoPath BadPath (codes "path") ms

-- the member `from`
abbrev pub read_from : Members → Result Tokens PatchWhy
read_from ms = read_tokens NoFrom BadFrom (codes "from") ms

-- equal, byte by byte
abbrev pub is : List ℕ → List ℕ → Bool
is = pointwise nat_eq

-- what `op` names
abbrev pub kind : List ℕ → Result Kind PatchWhy
kind name =
    if is name (codes "add") then Ok Add
    else if is name (codes "remove") then Ok Remove
    else if is name (codes "replace") then Ok Replace
    else if is name (codes "move") then Ok Move
    else if is name (codes "copy") then Ok Copy
    else if is name (codes "test") then Ok Test
    else Err UnknownOp

-- the operation of that kind; what it needs besides its path is read here
abbrev pub read_rest : Kind → Tokens → Members → Result Operation PatchWhy
read_rest Add path ms = map_ok (add path) (read_value ms)
read_rest Remove path ms = Ok (remove path)
read_rest Replace path ms = map_ok (replace path) (read_value ms)
read_rest Move path ms = map_ok (λ from. move_to from path) (read_from ms)
read_rest Copy path ms = map_ok (λ from. copy_to from path) (read_from ms)
read_rest Test path ms = map_ok (test path) (read_value ms)

-- the members of an element; the first fault in this order
abbrev pub read_members : Members → Result Operation PatchWhy
read_members ms =
    read_text NoOp (codes "op") ms >>= kind >>= λ k.
    read_path ms >>= λ path. read_rest k path ms

-- one element of a patch
abbrev pub read_element : Data → Result Operation PatchWhy
read_element d = present NotObject (as_object d) >>= read_members

-- the fault that an element's error tells, or none for want of memory
abbrev pub element_fault : ElementError → Option PatchWhy
element_fault (elements.Malformed why) = Some why
element_fault elements.Memory = None
