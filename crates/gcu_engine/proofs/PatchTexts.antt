-- Bytes hold the operations of a patch where they are read as them.
use Rattle.std.proofs.Common.{◌≡◌, ◌↔◌, ◌+◌, ℕ, zero, suc, List, [], ◌∷◌, Bool, true, false, nat_eq, if◌then◌else◌, inl, inr, refl, sym, ap, ◌∙◌, subst, arith, Option, Some, None, Result, Ok, Err, decimal}
use Rattle.std.specs.Prelude.{◌⊎◌, All, codes, option_and_then, option_map}
use Rattle.std.specs.Cmp.Lexicographic.{pointwise, same_text}
use Rattle.std.proofs.lemmas.Bool.{or_cases}
use Rattle.host_core.specs.Answers.{◌>>=◌, both, map_ok}
use Rattle.serde_json.specs.Data as values
use Rattle.serde_json.specs.Find.{as_array, as_str, get}
use Rattle.conf_doc.specs.Document.{Document, text, list, object, Items, no_items, item, Members, no_members, member}
use Rattle.conf_doc.specs.Pointer.{pointer}
use Rattle.conf_doc.specs.Reading.{Way, below, document_of, items_from, json, members_from}
use Rattle.conf_doc.specs.Texts.{item_values, member_values, value}
use Rattle.patch_core.specs.Elements.{document_in, is_one_of, of_both, ok_value, operation, pointer_in, text_in}
use Rattle.patch_core.specs.Operation.{Tokens, Operation, add, remove, replace, move_to, copy_to, test}
use Rattle.patch_core.specs.Reading as reading
use Rattle.patch_core.specs.Reading.{operations_from, patch}
use Rattle.patch_core.specs.Tokens.{tokens}
use Rattle.patch_core.specs.declared.errors.PatchError.{PatchError}
use Rattle.patch_core.proofs.FirstFaults.{operations_are, operations_there}
use Rattle.patch_core.proofs.RoundTrip.{pointer-tokens, tokens-pointer}
use Rattle.gcu_engine.specs.Patching.{AreElements, HoldOperations, IsOperation}

-- ---- a document and its JSON value

both_ok : {A B C E : Type 0} (f : A → B → C) (r : Result A E) (s : Result B E) (c : C) → both f r s ≡ Ok c
    → (a : A) × (b : B) × (r ≡ Ok a) × (s ≡ Ok b) × (c ≡ f a b)
both_ok f (Ok a) (Ok b) c h = (a, b, refl, refl, cc)
both_ok f (Ok a) (Err e) c h = absurd cc
both_ok f (Err e) s c h = absurd cc

map_is : {A B E : Type 0} (f : A → B) (r : Result A E) (b : B) → map_ok f r ≡ Ok b → (a : A) × (r ≡ Ok a) × (b ≡ f a)
map_is f (Ok a) b h = (a, refl, cc)
map_is f (Err e) b h = absurd cc

below_ok : {A : Type 0} (token : List ℕ) (r : Result A Way) (a : A) → below token r ≡ Ok a → r ≡ Ok a
below_ok token (Ok x) a h = h
below_ok token (Err way) a h = absurd cc

mutual
  pub value_there : (x : values.Data) (d : Document) → document_of x ≡ Ok d → x ≡ value d
  value_there values.null d h = absurd cc
  value_there (values.boolean b) d h = absurd cc
  value_there (values.number n) d h = absurd cc
  value_there (values.string s) d h = let same : d ≡ text s = cc in ap value (sym same)
  value_there (values.array xs) d h =
      let (ds, are, is) = map_is list (items_from 0 xs) d h in
      ap values.array (items_there 0 xs ds are) ∙ ap value (sym is)
  value_there (values.object ms) d h =
      let (ns, are, is) = map_is object (members_from ms) d h in
      ap values.object (members_there ms ns are) ∙ ap value (sym is)

  items_there : (i : ℕ) (xs : values.Items) (ds : Items) → items_from i xs ≡ Ok ds → xs ≡ item_values ds
  items_there i values.no_items ds h = let same : ds ≡ no_items = cc in ap item_values (sym same)
  items_there i (values.item x xs) ds h =
      let (d, more, first, rest, is) = both_ok item (below (decimal i) (document_of x)) (items_from (i + 1) xs) ds h in
      (λ j. values.item (value_there x d (below_ok (decimal i) (document_of x) d first) j)
      (items_there (i + 1) xs more rest j)) ∙ ap item_values (sym is)

  members_there : (ms : values.Members) (ns : Members) → members_from ms ≡ Ok ns → ms ≡ member_values ns
  members_there values.no_members ns h = let same : ns ≡ no_members = cc in ap member_values (sym same)
  members_there (values.member k x ms) ns h =
      let (d, more, first, rest, is) = both_ok (member k) (below k (document_of x)) (members_from ms) ns h in
      (λ j. values.member k (value_there x d (below_ok k (document_of x) d first) j) (members_there ms more rest j))
      ∙ ap member_values (sym is)

mutual
  pub there_value : (d : Document) → document_of (value d) ≡ Ok d
  there_value (text s) = refl
  there_value (list ds) = ap (map_ok list) (there_items 0 ds)
  there_value (object ms) = ap (map_ok object) (there_members ms)

  there_items : (i : ℕ) (ds : Items) → items_from i (item_values ds) ≡ Ok ds
  there_items i no_items = refl
  there_items i (item d ds) = λ j. both item (below (decimal i) (there_value d j)) (there_items (i + 1) ds j)

  there_members : (ms : Members) → members_from (member_values ms) ≡ Ok ms
  there_members no_members = refl
  there_members (member k d ms) = λ j. both (member k) (below k (there_value d j)) (there_members ms j)

-- ---- the members of an element

string_is : (o : Option values.Data) (s : List ℕ) → option_and_then as_str o ≡ Some s → o ≡ Some (values.string s)
string_is None s h = absurd cc
string_is (Some values.null) s h = absurd cc
string_is (Some (values.boolean b)) s h = absurd cc
string_is (Some (values.number n)) s h = absurd cc
string_is (Some (values.string t)) s h = let same : t ≡ s = cc in ap (λ u. Some (values.string u)) same
string_is (Some (values.array xs)) s h = absurd cc
string_is (Some (values.object ms)) s h = absurd cc

some_first : {A B : Type 0} (f : A → Option B) (o : Option A) (b : B) → option_and_then f o ≡ Some b
    → (a : A) × (o ≡ Some a) × (f a ≡ Some b)
some_first f None b h = absurd cc
some_first f (Some a) b h = (a, refl, h)

ok_is : {A E : Type 0} (r : Result A E) (a : A) → ok_value r ≡ Some a → r ≡ Ok a
ok_is (Ok x) a h = let same : x ≡ a = cc in ap (λ y. Ok y) same
ok_is (Err e) a h = absurd cc

pointer_there : (name : List ℕ) (x : values.Data) (path : Tokens) → pointer_in name x ≡ Some path
    → get name x ≡ Some (values.string (pointer path))
pointer_there name x path h =
    let (s, at, are) = some_first tokens (text_in name x) path h in
    string_is (get name x) s at ∙ ap (λ u. Some (values.string u)) (pointer-tokens s path are)

document_there : (name : List ℕ) (x : values.Data) (d : Document) → document_in name x ≡ Some d
    → get name x ≡ Some (value d)
document_there name x d h =
    let (y, at, is) = some_first (λ y. ok_value (document_of y)) (get name x) d h in
    at ∙ ap (λ z. Some z) (value_there y d (ok_is (document_of y) d is))

text_of : (name : List ℕ) (x : values.Data) (s : List ℕ) → get name x ≡ Some (values.string s) → text_in name x ≡ Some s
text_of name x s h = ap (option_and_then as_str) h

pointer_of : (name : List ℕ) (x : values.Data) (path : Tokens) → get name x ≡ Some (values.string (pointer path))
    → pointer_in name x ≡ Some path
pointer_of name x path h = ap (option_and_then tokens) (text_of name x (pointer path) h) ∙ tokens-pointer path

document_for : (name : List ℕ) (x : values.Data) (d : Document) → get name x ≡ Some (value d)
    → document_in name x ≡ Some d
document_for name x d h = ap (option_and_then (λ y. ok_value (document_of y))) h ∙ ap ok_value (there_value d)

-- ---- an element by its parts

-- the operation of that name, with what it needs besides
abbrev operation_by : Option (List ℕ) → Option Tokens → Option Tokens → Option Document → Option Operation
operation_by name path from v =
    if is_one_of (codes "add" ∷ []) name then of_both add path v
    else if is_one_of (codes "remove" ∷ []) name then option_map remove path
    else if is_one_of (codes "replace" ∷ []) name then of_both replace path v
    else if is_one_of (codes "move" ∷ []) name then of_both (λ p f. move_to f p) path from
    else if is_one_of (codes "copy" ∷ []) name then of_both (λ p f. copy_to f p) path from
    else if is_one_of (codes "test" ∷ []) name then of_both test path v
    else None

-- the parts are those of the operation
abbrev HasParts : Option (List ℕ) → Option Tokens → Option Tokens → Option Document → Operation → Type 0
HasParts name path from v (add p d) = (name ≡ Some (codes "add")) × (path ≡ Some p) × (v ≡ Some d)
HasParts name path from v (remove p) = (name ≡ Some (codes "remove")) × (path ≡ Some p)
HasParts name path from v (replace p d) = (name ≡ Some (codes "replace")) × (path ≡ Some p) × (v ≡ Some d)
HasParts name path from v (move_to f p) = (name ≡ Some (codes "move")) × (path ≡ Some p) × (from ≡ Some f)
HasParts name path from v (copy_to f p) = (name ≡ Some (codes "copy")) × (path ≡ Some p) × (from ≡ Some f)
HasParts name path from v (test p d) = (name ≡ Some (codes "test")) × (path ≡ Some p) × (v ≡ Some d)

both_there : {A B C : Type 0} (f : A → B → C) (o : Option A) (p : Option B) (c : C) → of_both f o p ≡ Some c
    → (a : A) × (b : B) × (o ≡ Some a) × (p ≡ Some b) × (f a b ≡ c)
both_there f None p c h = absurd cc
both_there f (Some a) None c h = absurd cc
both_there f (Some a) (Some b) c h = (a, b, refl, refl, cc)

one_there : {A B : Type 0} (f : A → B) (o : Option A) (b : B) → option_map f o ≡ Some b
    → (a : A) × (o ≡ Some a) × (f a ≡ b)
one_there f None b h = absurd cc
one_there f (Some a) b h = (a, refl, cc)

name_is : (name other : List ℕ) → is_one_of (other ∷ []) (Some name) ≡ true → name ≡ other
name_is name other h = by (or_cases (pointwise nat_eq name other) false h)
  where
    by : (pointwise nat_eq name other ≡ true) ⊎ (false ≡ true) → name ≡ other
    by (inl is) = same_text name other (sym is)
    by (inr never) = absurd cc

-- the tests of the name, one after another: the first that holds tells the operation
abbrev IsNamed : List ℕ → Bool → List ℕ → Type 0
IsNamed name b other = b ≡ true → Some name ≡ Some other

picked : (a r p m c t : Bool) (name : List ℕ) (path from : Option Tokens) (v : Option Document) (op : Operation)
    → IsNamed name a (codes "add") → IsNamed name r (codes "remove") → IsNamed name p (codes "replace")
    → IsNamed name m (codes "move") → IsNamed name c (codes "copy") → IsNamed name t (codes "test")
    → (if a then of_both add path v else if r then option_map remove path else if p then of_both replace path v else if
    m then of_both (λ p f. move_to f p) path from
    else if c then of_both (λ p f. copy_to f p) path from else if t then of_both test path v else None) ≡ Some op
    → HasParts (Some name) path from v op
picked true r p m c t name path from v op ia ir ip im ic it h =
    let (at, d, there, what, same) = both_there add path v op h in
    subst (HasParts (Some name) path from v) same (ia refl, there, what)
picked false true p m c t name path from v op ia ir ip im ic it h =
    let (at, there, same) = one_there remove path op h in subst (HasParts (Some name) path from v) same (ir refl, there)
picked false false true m c t name path from v op ia ir ip im ic it h =
    let (at, d, there, what, same) = both_there replace path v op h in
    subst (HasParts (Some name) path from v) same (ip refl, there, what)
picked false false false true c t name path from v op ia ir ip im ic it h =
    let (at, f, there, what, same) = both_there (λ p f. move_to f p) path from op h in
    subst (HasParts (Some name) path from v) same (im refl, there, what)
picked false false false false true t name path from v op ia ir ip im ic it h =
    let (at, f, there, what, same) = both_there (λ p f. copy_to f p) path from op h in
    subst (HasParts (Some name) path from v) same (ic refl, there, what)
picked false false false false false true name path from v op ia ir ip im ic it h =
    let (at, d, there, what, same) = both_there test path v op h in
    subst (HasParts (Some name) path from v) same (it refl, there, what)
picked false false false false false false name path from v op ia ir ip im ic it h = absurd cc

parts_there : (name : Option (List ℕ)) (path from : Option Tokens) (v : Option Document) (op : Operation)
    → operation_by name path from v ≡ Some op → HasParts name path from v op
parts_there None path from v op h = absurd cc
parts_there (Some name) path from v op h =
    picked _ _ _ _ _ _ name path from v op (is (codes "add")) (is (codes "remove")) (is (codes "replace"))
    (is (codes "move")) (is (codes "copy")) (is (codes "test")) h
  where
    is : (other : List ℕ) → IsNamed name (is_one_of (other ∷ []) (Some name)) other
    is other h = ap (λ s. Some s) (name_is name other h)

there_parts : (name : Option (List ℕ)) (path from : Option Tokens) (v : Option Document) (op : Operation)
    → HasParts name path from v op → operation_by name path from v ≡ Some op
there_parts name path from v (add p d) (is, at, what) = rw (is, at, what) refl
there_parts name path from v (remove p) (is, at) = rw (is, at) refl
there_parts name path from v (replace p d) (is, at, what) = rw (is, at, what) refl
there_parts name path from v (move_to f p) (is, at, what) = rw (is, at, what) refl
there_parts name path from v (copy_to f p) (is, at, what) = rw (is, at, what) refl
there_parts name path from v (test p d) (is, at, what) = rw (is, at, what) refl

-- ---- an element by its members

abbrev HasPartsOf : values.Data → Operation → Type 0
HasPartsOf x op = HasParts (text_in (codes "op") x) (pointer_in (codes "path") x) (pointer_in (codes "from") x)
    (document_in (codes "value") x) op

-- a member of the value is as one of the operation's document
abbrev HasMember : values.Data → List ℕ × Document → Type 0
HasMember x m = get m.0 x ≡ Some (value m.1)

of_two : (x : values.Data) (a b : List ℕ × Document) → HasMember x a → HasMember x b → All (HasMember x) (a ∷ b ∷ [])
of_two x a b p q zero d below = p
of_two x a b p q (suc zero) d below = q
of_two x a b p q (suc (suc k)) d below = absurd (omega arith)

of_three : (x : values.Data) (a b c : List ℕ × Document) → HasMember x a → HasMember x b → HasMember x c
    → All (HasMember x) (a ∷ b ∷ c ∷ [])
of_three x a b c p q r zero d below = p
of_three x a b c p q r (suc zero) d below = q
of_three x a b c p q r (suc (suc zero)) d below = r
of_three x a b c p q r (suc (suc (suc k))) d below = absurd (omega arith)

op_there : (x : values.Data) (name : List ℕ) → text_in (codes "op") x ≡ Some name
    → get (codes "op") x ≡ Some (values.string name)
op_there x name h = string_is (get (codes "op") x) name h

members_are : (x : values.Data) (op : Operation) → HasPartsOf x op → IsOperation x op
members_are x (add p d) (is, at, what) =
    of_three x _ _ _ (op_there x (codes "add") is) (pointer_there (codes "path") x p at)
    (document_there (codes "value") x d what)
members_are x (remove p) (is, at) = of_two x _ _ (op_there x (codes "remove") is) (pointer_there (codes "path") x p at)
members_are x (replace p d) (is, at, what) =
    of_three x _ _ _ (op_there x (codes "replace") is) (pointer_there (codes "path") x p at)
    (document_there (codes "value") x d what)
members_are x (move_to f p) (is, at, what) =
    of_three x _ _ _ (pointer_there (codes "from") x f what) (op_there x (codes "move") is)
    (pointer_there (codes "path") x p at)
members_are x (copy_to f p) (is, at, what) =
    of_three x _ _ _ (pointer_there (codes "from") x f what) (op_there x (codes "copy") is)
    (pointer_there (codes "path") x p at)
members_are x (test p d) (is, at, what) =
    of_three x _ _ _ (op_there x (codes "test") is) (pointer_there (codes "path") x p at)
    (document_there (codes "value") x d what)

-- the member at an index; the second argument stands where there is none
abbrev none : List ℕ × Document
none = ([], text [])

are_members : (x : values.Data) (op : Operation) → IsOperation x op → HasPartsOf x op
are_members x (add p d) h = (
  text_of (codes "op") x (codes "add") (h 0 none (omega arith)),
  pointer_of (codes "path") x p
      (h 1 none (omega arith)),
  document_for (codes "value") x d (h 2 none (omega arith)),
)
are_members x (remove p) h = (
  text_of (codes "op") x (codes "remove") (h 0 none (omega arith)),
  pointer_of (codes "path") x p
      (h 1 none (omega arith)),
)
are_members x (replace p d) h = (
  text_of (codes "op") x (codes "replace") (h 0 none (omega arith)),
  pointer_of (codes "path") x p
      (h 1 none (omega arith)),
  document_for (codes "value") x d (h 2 none (omega arith)),
)
are_members x (move_to f p) h = (
  text_of (codes "op") x (codes "move") (h 1 none (omega arith)),
  pointer_of (codes "path") x p
      (h 2 none (omega arith)),
  pointer_of (codes "from") x f (h 0 none (omega arith)),
)
are_members x (copy_to f p) h = (
  text_of (codes "op") x (codes "copy") (h 1 none (omega arith)),
  pointer_of (codes "path") x p
      (h 2 none (omega arith)),
  pointer_of (codes "from") x f (h 0 none (omega arith)),
)
are_members x (test p d) h = (
  text_of (codes "op") x (codes "test") (h 0 none (omega arith)),
  pointer_of (codes "path") x p
      (h 1 none (omega arith)),
  document_for (codes "value") x d (h 2 none (omega arith)),
)

-- an element is the operation that is read of it
pub operation_is : (x : values.Data) (op : Operation) → IsOperation x op ↔ (operation x ≡ Some op)
operation_is x op = (
  λ h. there_parts (text_in (codes "op") x) (pointer_in (codes "path") x) (pointer_in (codes "from") x)
      (document_in (codes "value") x) op (are_members x op h),
  λ h. members_are x op (parts_there (text_in (codes "op") x) (pointer_in (codes "path") x)
      (pointer_in (codes "from") x) (document_in (codes "value") x) op h),
)

-- ---- the elements of a patch

elements_there : (xs : values.Items) (ops : List Operation) → reading.AreOperations xs ops → AreElements xs ops
elements_there values.no_items [] are = tt
elements_there values.no_items (op ∷ ops) are = absurd are
elements_there (values.item x xs) [] are = absurd are
elements_there (values.item x xs) (op ∷ ops) (is, are) = ((operation_is x op).1 is, elements_there xs ops are)

there_elements : (xs : values.Items) (ops : List Operation) → AreElements xs ops → reading.AreOperations xs ops
there_elements values.no_items [] are = tt
there_elements values.no_items (op ∷ ops) are = absurd are
there_elements (values.item x xs) [] are = absurd are
there_elements (values.item x xs) (op ∷ ops) (is, are) = ((operation_is x op).0 is, there_elements xs ops are)

-- the value that was read, if one was
json_told : (o : Option values.Data) (f : values.Data → Result (List Operation) PatchError) (ops : List Operation)
    → (reading.or_bad_json o >>= f) ≡ Ok ops → (x : values.Data) × (o ≡ Some x) × (f x ≡ Ok ops)
json_told None f ops h = absurd cc
json_told (Some x) f ops h = (x, refl, h)

array_told : (x : values.Data) (ops : List Operation)
    → (reading.or_no_array (as_array x) >>= λ xs. operations_from 0 xs) ≡ Ok ops
    → (xs : values.Items) × (x ≡ values.array xs) × (operations_from 0 xs ≡ Ok ops)
array_told values.null ops h = absurd cc
array_told (values.boolean b) ops h = absurd cc
array_told (values.number n) ops h = absurd cc
array_told (values.string s) ops h = absurd cc
array_told (values.array xs) ops h = (xs, refl, h)
array_told (values.object ms) ops h = absurd cc

operations_held : (bytes : List ℕ) (ops : List Operation) → patch bytes ≡ Ok ops → HoldOperations bytes ops
operations_held bytes ops h =
    let (x, is, more) = json_told (json bytes) (λ d. reading.or_no_array (as_array d) >>= λ ds. operations_from 0 ds)
    ops h in
    let (xs, same, are) = array_told x ops more in
    (xs, is ∙ ap (λ y. Some y) same, elements_there xs ops (operations_there 0 xs ops are))

held_operations : (bytes : List ℕ) (ops : List Operation) → HoldOperations bytes ops → patch bytes ≡ Ok ops
held_operations bytes ops (xs, is, are) = rw is (operations_are 0 xs ops (there_elements xs ops are))

-- bytes hold the operations of a patch where they are read as them
pub operations_are_held : (bytes : List ℕ) (ops : List Operation) → HoldOperations bytes ops ↔ (patch bytes ≡ Ok ops)
operations_are_held bytes ops = (held_operations bytes ops, operations_held bytes ops)
