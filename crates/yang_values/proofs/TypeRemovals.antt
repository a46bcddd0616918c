-- Types taken off others one by one.
use Rattle.std.proofs.Common.{◌≡◌, ◌<◌, ◌≤◌, ◌+◌, ℕ, zero, suc, Bool, List, [], ◌∷◌, ◌++◌, map, reverse, length, take, drop, get_or, add-one, refl, sym, ap, ◌∙◌, arith}
use Rattle.std.proofs.Math.Seq.{drop-cons}
use Rattle.std.proofs.lemmas.List.{map-append, drop_all}
use Rattle.yang_types.specs.DataType.{DataType}
use Rattle.yang_scope.specs.Modules.{Module}
use Rattle.yang_values.specs.TypeValues.{only_type, type_by}
use Rattle.yang_values.specs.Walks.{IsTaken, placed, visited, built}
use Rattle.yang_values.specs.declared.walks.Visit.{Visit}
use Rattle.yang_values.proofs.Visits.{reverse_push}

take-next : {X : Type 0} (i : ℕ) (xs : List X) (x : X) (rest : List X) → drop i xs ≡ x ∷ rest → take (suc i) xs ≡ take i xs ++ x ∷ []
take-next zero [] x rest is = cc
take-next zero (y ∷ xs) x rest is = let e : y ≡ x = cc in ap (λ z. z ∷ []) e
take-next (suc i) [] x rest is = cc
take-next (suc i) (y ∷ xs) x rest is = ap (λ ys. y ∷ ys) (take-next i xs x rest is)

drop-next : {X : Type 0} (i : ℕ) (xs : List X) (x : X) (rest : List X) → drop i xs ≡ x ∷ rest → drop (suc i) xs ≡ rest
drop-next zero [] x rest is = cc
drop-next zero (y ∷ xs) x rest is = cc
drop-next (suc i) [] x rest is = cc
drop-next (suc i) (y ∷ xs) x rest is = drop-next i xs x rest is

take-none : {X : Type 0} (i n : ℕ) (xs : List X) → i ≤ n → drop i xs ≡ [] → take i xs ≡ take n xs
take-none zero zero xs within is = refl
take-none zero (suc n) [] within is = refl
take-none zero (suc n) (x ∷ xs) within is = cc
take-none (suc i) zero xs within is = absurd (omega arith)
take-none (suc i) (suc n) [] within is = refl
take-none (suc i) (suc n) (x ∷ xs) within is = ap (λ ys. x ∷ ys) (take-none i n xs (omega arith) is)

drop-none : {X : Type 0} (i n : ℕ) (xs : List X) → i ≤ n → drop i xs ≡ [] → [] ≡ drop n xs
drop-none zero zero xs within is = sym is
drop-none zero (suc n) [] within is = refl
drop-none zero (suc n) (x ∷ xs) within is = cc
drop-none (suc i) zero xs within is = absurd (omega arith)
drop-none (suc i) (suc n) [] within is = refl
drop-none (suc i) (suc n) (x ∷ xs) within is = drop-none i n xs (omega arith) is

-- one type more
pub taken_more : {W : Type 0} (f : W → DataType) (i : ℕ) (all : List DataType) (first next rest left : List W) (w : W)
    → IsTaken i all (map f first) (reverse (map f rest)) → rest ≡ left ++ w ∷ [] → next ≡ first ++ w ∷ []
    → IsTaken (i + 1) all (map f next) (reverse (map f left))
taken_more f i all first next rest left w before popped pushed =
    let turned : reverse (map f rest) ≡ f w ∷ reverse (map f left) = ap (λ ws. reverse (map f ws)) popped ∙ ap reverse (map-append f left (w ∷ [])) ∙ reverse_push (map f left) (f w) in
    let dropped : drop i all ≡ f w ∷ reverse (map f left) = sym before.left ∙ turned in
    record {
      taken = ap (map f) pushed ∙ map-append f first (w ∷ []) ∙ ap (λ ts. ts ++ f w ∷ []) before.taken ∙ sym (take-next i all (f w) (reverse (map f left)) dropped) ∙ ap (λ n. take n all) (sym (add-one i));
      left = sym (drop-next i all (f w) (reverse (map f left)) dropped) ∙ ap (λ n. drop n all) (sym (add-one i));
    }

-- none is left
pub taken_all : {W : Type 0} (f : W → DataType) (i count : ℕ) (all : List DataType) (first : List DataType) (rest left : List W)
    → i ≤ count → IsTaken i all first (reverse (map f rest)) → rest ≡ [] → left ≡ []
    → IsTaken count all first (reverse (map f left))
taken_all f i count all first rest left within before empty same =
    let none : drop i all ≡ [] = sym before.left ∙ ap (λ ws. reverse (map f ws)) empty in
    record {
      taken = before.taken ∙ take-none i count all within none;
      left = ap (λ ws. reverse (map f ws)) same ∙ drop-none i count all within none;
    }

-- one visit more
pub built_next : {W : Type 0} (f : W → DataType) (is_pattern : List ℕ → Bool) (modules : List Module) (visits : List Visit) (i : ℕ) (v : Visit) (types taken left next : List W) (w : W)
    → i < length visits → get_or visits i v ≡ v
    → IsTaken v.children (reverse (map f types)) (map f taken) (reverse (map f left))
    → f w ≡ type_by is_pattern modules (placed v.place) (map f taken) → next ≡ left ++ w ∷ []
    → built is_pattern modules (map visited (drop i visits)) (reverse (map f types))
    ≡ built is_pattern modules (map visited (drop (i + 1) visits)) (reverse (map f next))
built_next f is_pattern modules visits i v types taken left next w within is off made pushed =
    ap (λ vs. built is_pattern modules (map visited vs) (reverse (map f types)))
    (drop-cons visits i v within ∙ ap (λ u. u ∷ drop (suc i) visits) is)
    ∙ ap (built is_pattern modules (map visited (drop (suc i) visits)))
    (ap (λ ts. type_by is_pattern modules (placed v.place) ts ∷ drop v.children (reverse (map f types))) (sym off.taken)
    ∙ ap (λ t. t ∷ drop v.children (reverse (map f types))) (sym made)
    ∙ ap (λ ts. f w ∷ ts) (sym off.left)
    ∙ sym (ap (λ ws. reverse (map f ws)) pushed ∙ ap reverse (map-append f left (w ∷ [])) ∙ reverse_push (map f left) (f w)))
    ∙ ap (λ n. built is_pattern modules (map visited (drop n visits)) (reverse (map f next))) (sym (add-one i))

-- no visit more
pub built_end : (is_pattern : List ℕ → Bool) (modules : List Module) (visits : List Visit) (i : ℕ) (types : List DataType) → length visits ≤ i
    → built is_pattern modules (map visited (drop i visits)) types ≡ only_type types
built_end is_pattern modules visits i types past = ap (λ vs. built is_pattern modules (map visited vs) types) (drop_all i visits past)
