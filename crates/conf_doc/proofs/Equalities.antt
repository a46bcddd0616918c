-- When lists and documents are the same.
use Rattle.std.proofs.Common.{◌≡◌, ◌↔◌, ℕ, zero, suc, ◌<◌, ◌≤◌, Bool, List, [], ◌∷◌, length, map, slice_get, Some, IsTrue, refl, sym, ap, ◌∙◌, arith}
use Rattle.conf_doc.specs.Document.{Document, list, object, Items, Members, documents, pairs, items_of, members_of, weight, items_weight, members_weight}

pub documents-items_of : (ds : List Document) → documents (items_of ds) ≡ ds
documents-items_of [] = refl
documents-items_of (d ∷ ds) = ap (λ es. d ∷ es) (documents-items_of ds)

pub pairs-members_of : (ms : List (List ℕ × Document)) → pairs (members_of ms) ≡ ms
pairs-members_of [] = refl
pairs-members_of (m ∷ ms) = ap (λ ns. m ∷ ns) (pairs-members_of ms)

same_list : (a b : Items) → list a ≡ list b → a ≡ b
same_list a b e = cc

same_object : (a b : Members) → object a ≡ object b → a ≡ b
same_object a b e = cc

pub both_lists : (x y : Document) (ds es : List Document) (b : Bool) → x ≡ list (items_of ds) → y ≡ list (items_of es) → (IsTrue b ↔ (ds ≡ es)) → (IsTrue b ↔ (x ≡ y))
both_lists x y ds es b left right h = (
  λ yes. left ∙ ap (λ fs. list (items_of fs)) (h.0 yes) ∙ sym right,
  λ e. h.1 (sym (documents-items_of ds) ∙ ap documents (same_list _ _ (sym left ∙ e ∙ right)) ∙ documents-items_of es),
)

pub both_maps : (x y : Document) (ms ns : List (List ℕ × Document)) (b : Bool) → x ≡ object (members_of ms) → y ≡ object (members_of ns) → (IsTrue b ↔ (ms ≡ ns)) → (IsTrue b ↔ (x ≡ y))
both_maps x y ms ns b left right h = (
  λ yes. left ∙ ap (λ fs. object (members_of fs)) (h.0 yes) ∙ sym right,
  λ e. h.1 (sym (pairs-members_of ms) ∙ ap pairs (same_object _ _ (sym left ∙ e ∙ right)) ∙ pairs-members_of ns),
)

pub all_same : {A : Type 0} (xs ys : List A) → length xs ≡ length ys → ((k : ℕ) → k < length xs → slice_get xs k ≡ slice_get ys k) → xs ≡ ys
all_same [] [] long same = refl
all_same [] (y ∷ ys) long same = absurd (omega arith)
all_same (x ∷ xs) [] long same = absurd (omega arith)
all_same (x ∷ xs) (y ∷ ys) long same =
    let first : Some x ≡ Some y = same 0 (omega arith) in
    let here : x ≡ y = cc in
    λ i. here i ∷ all_same xs ys (omega arith) (λ k within. same (suc k) (omega arith)) i

pub all_same_pairs : {A B : Type 0} (xs ys : List (A × B)) → length xs ≡ length ys → ((k : ℕ) → k < length xs → (slice_get (map (λ m. m.0) xs) k ≡ slice_get (map (λ m. m.0) ys) k) × (slice_get (map (λ m. m.1) xs) k ≡ slice_get (map (λ m. m.1) ys) k)) → xs ≡ ys
all_same_pairs [] [] long same = refl
all_same_pairs [] (y ∷ ys) long same = absurd (omega arith)
all_same_pairs (x ∷ xs) [] long same = absurd (omega arith)
all_same_pairs (x ∷ xs) (y ∷ ys) long same =
    let first = same 0 (omega arith) in
    let left : x.0 ≡ y.0 = cc (first.0) in
    let right : x.1 ≡ y.1 = cc (first.1) in
    λ i. (left i, right i) ∷ all_same_pairs xs ys (omega arith) (λ k within. same (suc k) (omega arith)) i

-- a part weighs no more than the whole
pub item_light : (ds : List Document) (i : ℕ) (d : Document) → slice_get ds i ≡ Some d → weight d ≤ items_weight (items_of ds)
item_light [] i d is = cc
item_light (e ∷ ds) zero d is = let same : e ≡ d = cc in let w : weight e ≡ weight d = ap weight same in omega arith
item_light (e ∷ ds) (suc i) d is = let rest = item_light ds i d is in omega arith

pub member_light : (ms : List (List ℕ × Document)) (i : ℕ) (d : Document) → slice_get (map (λ m. m.1) ms) i ≡ Some d → weight d ≤ members_weight (members_of ms)
member_light [] i d is = cc
member_light (e ∷ ms) zero d is = let same : e.1 ≡ d = cc in let w : weight e.1 ≡ weight d = ap weight same in omega arith
member_light (e ∷ ms) (suc i) d is = let rest = member_light ms i d is in omega arith
