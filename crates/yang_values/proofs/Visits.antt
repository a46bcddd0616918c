-- A walk over type statements, one visit after another.
use Rattle.std.proofs.Common.{◌≡◌, ℕ, suc, Bool, List, [], ◌∷◌, ◌++◌, map, reverse, length, drop, refl, sym, ap, ◌∙◌}
use Rattle.std.proofs.lemmas.List.{map-append, reverse-append, take_at, drop_at}
use Rattle.yang_types.specs.DataType.{DataType}
use Rattle.yang_scope.specs.Modules.{Module}
use Rattle.yang_scope.specs.Paths.{Placed}
use Rattle.yang_scope.proofs.Blocks.{map-map}
use Rattle.yang_values.specs.TypeValues.{next, type_by, type_within}
use Rattle.yang_values.specs.Walks.{placed, step_type, Visited, visited, built}
use Rattle.yang_values.specs.declared.walks.Place.{Place}
use Rattle.yang_values.specs.declared.walks.Step.{Step}
use Rattle.yang_values.specs.declared.walks.Visit.{Visit}

-- the last one comes first
pub reverse_push : {X : Type 0} (xs : List X) (x : X) → reverse (xs ++ x ∷ []) ≡ x ∷ reverse xs
reverse_push xs x = reverse-append xs (x ∷ [])

pub reverse_twice : {X : Type 0} (xs : List X) → reverse (reverse xs) ≡ xs
reverse_twice [] = refl
reverse_twice (x ∷ xs) = ap reverse (reverse-append (x ∷ []) xs) ∙ reverse_push (reverse xs) x ∙ ap (λ ys. x ∷ ys) (reverse_twice xs)

length-map : {X Y : Type 0} (f : X → Y) (xs : List X) → length (map f xs) ≡ length xs
length-map f [] = refl
length-map f (x ∷ xs) = ap suc (length-map f xs)

type_within-suc : (is_pattern : List ℕ → Bool) (modules : List Module) (n : ℕ) (p : Placed)
    → type_within is_pattern modules (suc n) p ≡ type_by is_pattern modules p (map (type_within is_pattern modules n) (next modules p))
unfolding type_within
type_within-suc is_pattern modules n p = refl

taken : (is_pattern : List ℕ → Bool) (modules : List Module) (v : Visited) (vs : List Visited) (a b : List DataType) → length a ≡ v.1
    → built is_pattern modules (v ∷ vs) (a ++ b) ≡ built is_pattern modules vs (type_by is_pattern modules v.0 a ∷ b)
taken is_pattern modules v vs a b same =
    ap (λ ts. built is_pattern modules vs (type_by is_pattern modules v.0 ts ∷ drop v.1 (a ++ b))) (take_at a b v.1 same)
    ∙ ap (λ ts. built is_pattern modules vs (type_by is_pattern modules v.0 a ∷ ts)) (drop_at a b v.1 same)

-- the statements that a visit adds have the types that the visited one is made of
pub visit_more : (is_pattern : List ℕ → Bool) (modules : List Module) (found : List Visit) (rest : List Step) (step : Step) (n : ℕ) (places : List Place)
    → step.most ≡ suc n → map placed places ≡ next modules (placed step.place)
    → built is_pattern modules (reverse (map visited found)) (map (step_type is_pattern modules) (step ∷ rest))
    ≡ built is_pattern modules (reverse (map visited (found ++ record { place = step.place; children = length places } ∷ [])))
    (map (step_type is_pattern modules) (map (λ p. record { most = n; place = p }) places ++ rest))
visit_more is_pattern modules found rest step n places most leads =
    sym (ap (λ vs. built is_pattern modules vs (map st (map mk places ++ rest))) (ap reverse (map-append visited found (v ∷ [])) ∙ reverse_push (map visited found) (visited v))
    ∙ ap (built is_pattern modules (visited v ∷ reverse (map visited found))) (map-append st (map mk places) rest)
    ∙ taken is_pattern modules (visited v) (reverse (map visited found)) (map st (map mk places)) (map st rest) (length-map st (map mk places) ∙ length-map mk places)
    ∙ ap (λ t. built is_pattern modules (reverse (map visited found)) (t ∷ map st rest)) type)
  where
    st : Step → DataType
    st = step_type is_pattern modules

    mk : Place → Step
    mk p = record { most = n; place = p }

    v : Visit
    v = record { place = step.place; children = length places }

    type : type_by is_pattern modules (placed step.place) (map st (map mk places)) ≡ st step
    type =
        ap (type_by is_pattern modules (placed step.place))
        (map-map st mk places ∙ sym (map-map (type_within is_pattern modules n) placed places) ∙ ap (map (type_within is_pattern modules n)) leads)
        ∙ sym (type_within-suc is_pattern modules n (placed step.place))
        ∙ ap (λ m. type_within is_pattern modules m (placed step.place)) (sym most)

-- the statements on top, the first of them uppermost
pub steps_pushed : (most : ℕ) (places twice : List Place) (pending old : List Step) (step : Step) (before : List Step)
    → before ≡ old ++ step ∷ [] → twice ≡ reverse places → reverse pending ≡ map (λ p. record { most = most; place = p }) (reverse twice) ++ reverse old
    → (reverse pending ≡ map (λ p. record { most = most; place = p }) places ++ reverse old) × (reverse before ≡ step ∷ reverse old)
steps_pushed most places twice pending old step before popped turned pushed = (
  pushed ∙ ap (λ ps. map (λ p. record { most = most; place = p }) ps ++ reverse old) (ap reverse turned ∙ reverse_twice places),
  ap reverse popped ∙ reverse_push old step,
)
