-- The members of an element, read one after another, come to what the element is.
use Rattle.std.specs.Prelude.{◌≡◌, ℕ, List, codes, Bool, true, false, if◌then◌else◌, Option, Some, None, is_none, option_map, option_and_then, Result, Ok, Err}
use Rattle.std.proofs.Common.{refl, sym, ap, ◌∙◌}
use Rattle.std.specs.Cmp.Lexicographic.{same_text}
use Rattle.host_core.specs.Answers.{◌>>=◌, map_ok}
use Rattle.serde_json.specs.Data.{Data, null, boolean, number, string, array, object, Members}
use Rattle.serde_json.specs.Find.{get_member, as_str}
use Rattle.conf_doc.specs.Document.{Document}
use Rattle.conf_doc.specs.Reading.{Way, document_of}
use Rattle.patch_core.specs.Elements.{element, of_both, ok_value, or_fault}
use Rattle.patch_core.specs.Operation.{Tokens, Operation, add, remove, replace, move_to, copy_to, test}
use Rattle.patch_core.specs.Tokens.{tokens}
use Rattle.patch_core.specs.MemberReading.{is, or_bad_value, present, read_element, read_members}
use Rattle.patch_core.specs.declared.errors.PatchWhy.{PatchWhy}
use Rattle.patch_core.specs.declared.errors.PatchWhy.TheVariants.{NoPath, BadPath, NoValue, BadValue, NoFrom, BadFrom}

-- ---- the members path, value and from

abbrev text_of : List ℕ → Members → Option (List ℕ)
text_of name ms = option_and_then as_str (get_member name ms)

-- a pointer, read
abbrev read_pointer : PatchWhy → PatchWhy → Option (List ℕ) → Result Tokens PatchWhy
read_pointer missing malformed p = present missing p >>= λ s. present malformed (tokens s)

abbrev pointer_of : Option (List ℕ) → Option Tokens
pointer_of p = option_and_then tokens p

-- a value, read
abbrev read_value : Option Data → Result Document PatchWhy
read_value v = present NoValue v >>= λ d. or_bad_value (document_of d)

abbrev value_of : Option Data → Option Document
value_of v = option_and_then (λ d. ok_value (document_of d)) v

-- the fault of a path, or another
abbrev path_fault : Option (List ℕ) → PatchWhy → PatchWhy
path_fault p other = if is_none p then NoPath else if is_none (pointer_of p) then BadPath else other

-- ---- operations with a value

abbrev ValueRow : (Tokens → Document → Operation) → Option (List ℕ) → Option Data → Type 0
ValueRow f p v =
    (read_pointer NoPath BadPath p >>= λ path. map_ok (f path) (read_value v))
    ≡ or_fault (path_fault p (if is_none v then NoValue else BadValue)) (of_both f (pointer_of p) (value_of v))

value_document : (f : Tokens → Document → Operation) (t : List ℕ) (d : Data) (path : Tokens) (r : Result Document Way)
    → tokens t ≡ Some path → document_of d ≡ r → ValueRow f (Some t) (Some d)
value_document f t d path (Ok v) e h = rw (e, h) refl
value_document f t d path (Err way) e h = rw (e, h) refl

value_tokens : (f : Tokens → Document → Operation) (t : List ℕ) (v : Option Data) (q : Option Tokens)
    → tokens t ≡ q → ValueRow f (Some t) v
value_tokens f t v None e = rw e refl
value_tokens f t None (Some path) e = rw e refl
value_tokens f t (Some d) (Some path) e = value_document f t d path _ e refl

value_row : (f : Tokens → Document → Operation) (p : Option (List ℕ)) (v : Option Data) → ValueRow f p v
value_row f None v = refl
value_row f (Some t) v = value_tokens f t v _ refl

-- ---- operations with another pointer

abbrev FromRow : (Tokens → Tokens → Operation) → (p f : Option (List ℕ)) → Type 0
FromRow g p f =
    (read_pointer NoPath BadPath p >>= λ path. map_ok (g path) (read_pointer NoFrom BadFrom f))
    ≡ or_fault (path_fault p (if is_none f then NoFrom else BadFrom)) (of_both g (pointer_of p) (pointer_of f))

from_other : (g : Tokens → Tokens → Operation) (t u : List ℕ) (path : Tokens) (q : Option Tokens)
    → tokens t ≡ Some path → tokens u ≡ q → FromRow g (Some t) (Some u)
from_other g t u path None e h = rw (e, h) refl
from_other g t u path (Some from) e h = rw (e, h) refl

from_tokens : (g : Tokens → Tokens → Operation) (t : List ℕ) (f : Option (List ℕ)) (q : Option Tokens)
    → tokens t ≡ q → FromRow g (Some t) f
from_tokens g t f None e = rw e refl
from_tokens g t None (Some path) e = rw e refl
from_tokens g t (Some u) (Some path) e = from_other g t u path _ e refl

from_row : (g : Tokens → Tokens → Operation) (p f : Option (List ℕ)) → FromRow g p f
from_row g None f = refl
from_row g (Some t) f = from_tokens g t f _ refl

-- ---- the removes

abbrev PathRow : Option (List ℕ) → PatchWhy → Type 0
PathRow p other = (read_pointer NoPath BadPath p >>= λ path. Ok (remove path)) ≡ or_fault (path_fault p other) (option_map remove (pointer_of p))

path_tokens : (t : List ℕ) (other : PatchWhy) (q : Option Tokens) → tokens t ≡ q → PathRow (Some t) other
path_tokens t other None e = rw e refl
path_tokens t other (Some path) e = rw e refl

path_row : (p : Option (List ℕ)) (other : PatchWhy) → PathRow p other
path_row None other = refl
path_row (Some t) other = path_tokens t other _ refl

-- ---- the name of the operation

abbrev Row : Members → Type 0
Row ms = read_members ms ≡ element (object ms)

abbrev Names : Members → List ℕ → Type 0
Names ms s = text_of (codes "op") ms ≡ Some s

named : (ms : Members) (s name : List ℕ) → Names ms s → is s name ≡ true → Names ms name
named ms s name n h = n ∙ ap Some (same_text s name (sym h))

by_name : (ms : Members) (s : List ℕ) (b1 b2 b3 b4 b5 b6 : Bool) → Names ms s
    → is s (codes "add") ≡ b1 → is s (codes "remove") ≡ b2 → is s (codes "replace") ≡ b3
    → is s (codes "move") ≡ b4 → is s (codes "copy") ≡ b5 → is s (codes "test") ≡ b6 → Row ms
by_name ms s true b2 b3 b4 b5 b6 n h1 h2 h3 h4 h5 h6 =
    rw (named ms s (codes "add") n h1) (value_row add (text_of (codes "path") ms) (get_member (codes "value") ms))
by_name ms s false true b3 b4 b5 b6 n h1 h2 h3 h4 h5 h6 =
    rw (named ms s (codes "remove") n h2) (path_row (text_of (codes "path") ms) _)
by_name ms s false false true b4 b5 b6 n h1 h2 h3 h4 h5 h6 =
    rw (named ms s (codes "replace") n h3) (value_row replace (text_of (codes "path") ms) (get_member (codes "value") ms))
by_name ms s false false false true b5 b6 n h1 h2 h3 h4 h5 h6 =
    rw (named ms s (codes "move") n h4) (from_row (λ path from. move_to from path) (text_of (codes "path") ms) (text_of (codes "from") ms))
by_name ms s false false false false true b6 n h1 h2 h3 h4 h5 h6 =
    rw (named ms s (codes "copy") n h5) (from_row (λ path from. copy_to from path) (text_of (codes "path") ms) (text_of (codes "from") ms))
by_name ms s false false false false false true n h1 h2 h3 h4 h5 h6 =
    rw (named ms s (codes "test") n h6) (value_row test (text_of (codes "path") ms) (get_member (codes "value") ms))
by_name ms s false false false false false false n h1 h2 h3 h4 h5 h6 = rw (n, h1, h2, h3, h4, h5, h6) refl

by_op : (ms : Members) (n : Option (List ℕ)) → text_of (codes "op") ms ≡ n → Row ms
by_op ms None n = rw n refl
by_op ms (Some s) n = by_name ms s _ _ _ _ _ _ n refl refl refl refl refl refl

pub read_is_element : (d : Data) → read_element d ≡ element d
read_is_element null = refl
read_is_element (boolean b) = refl
read_is_element (number n) = refl
read_is_element (string s) = refl
read_is_element (array ds) = refl
read_is_element (object ms) = by_op ms _ refl
