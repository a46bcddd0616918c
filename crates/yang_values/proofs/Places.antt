-- The place of an element among those that pass a test, one element after another.
use Rattle.std.proofs.Common.{◌≡◌, ◌<◌, ◌≤◌, ◌+◌, ℕ, zero, suc, Bool, true, false, cond, List, [], ◌∷◌, map, filter, length, drop, get_or, Option, Some, None, add-one, refl, sym, ap, ◌∙◌, arith}
use Rattle.std.proofs.Math.Seq.{drop-cons}
use Rattle.std.proofs.lemmas.List.{drop_all}
use Rattle.yang_values.specs.Targets.{place_from}

abbrev pub among : {X : Type 0} → (X → Bool) → (X → Bool) → ℕ → List X → Option ℕ
among test pass place xs = place_from test place (filter pass xs)

here : {X : Type 0} (test pass : X → Bool) (place : ℕ) (xs : List X) (i : ℕ) (x : X) → i < length xs → get_or xs i x ≡ x
    → among test pass place (drop i xs) ≡ among test pass place (x ∷ drop (i + 1) xs)
here test pass place xs i x within is =
    ap (among test pass place) (drop-cons xs i x within ∙ ap (λ y. y ∷ drop (suc i) xs) is ∙ ap (λ n. x ∷ drop n xs) (sym (add-one i)))

-- an element that is passed over
pub skip_place : {X : Type 0} (test pass : X → Bool) (place : ℕ) (xs : List X) (i : ℕ) (x : X) → i < length xs → get_or xs i x ≡ x
    → pass x ≡ false → among test pass place (drop i xs) ≡ among test pass place (drop (i + 1) xs)
skip_place test pass place xs i x within is fails =
    here test pass place xs i x within is
    ∙ ap (λ b. place_from test place (cond b (x ∷ filter pass (drop (i + 1) xs)) (filter pass (drop (i + 1) xs)))) fails

either : {X : Type 0} (test pass : X → Bool) (place : ℕ) (xs : List X) (i : ℕ) (x : X) → i < length xs → get_or xs i x ≡ x
    → pass x ≡ true → among test pass place (drop i xs) ≡ cond (test x) (Some place) (among test pass (suc place) (drop (i + 1) xs))
either test pass place xs i x within is passes =
    here test pass place xs i x within is
    ∙ ap (λ b. place_from test place (cond b (x ∷ filter pass (drop (i + 1) xs)) (filter pass (drop (i + 1) xs)))) passes

-- the element that is looked for
pub found_place : {X : Type 0} (test pass : X → Bool) (place : ℕ) (xs : List X) (i : ℕ) (x : X) → i < length xs → get_or xs i x ≡ x
    → pass x ≡ true → test x ≡ true → among test pass place (drop i xs) ≡ Some place
found_place test pass place xs i x within is passes found =
    either test pass place xs i x within is passes
    ∙ ap (λ b. cond b (Some place) (among test pass (suc place) (drop (i + 1) xs))) found

-- another one
pub next_place : {X : Type 0} (test pass : X → Bool) (place : ℕ) (xs : List X) (i : ℕ) (x : X) → i < length xs → get_or xs i x ≡ x
    → pass x ≡ true → test x ≡ false → among test pass place (drop i xs) ≡ among test pass (place + 1) (drop (i + 1) xs)
next_place test pass place xs i x within is passes other =
    either test pass place xs i x within is passes
    ∙ ap (λ b. cond b (Some place) (among test pass (suc place) (drop (i + 1) xs))) other
    ∙ ap (λ n. among test pass n (drop (i + 1) xs)) (sym (add-one place))

-- none is left
pub no_place : {X : Type 0} (test pass : X → Bool) (place : ℕ) (xs : List X) (i : ℕ) → length xs ≤ i → among test pass place (drop i xs) ≡ None
no_place test pass place xs i past = ap (among test pass place) (drop_all i xs past)

mapped : {W X : Type 0} (test : X → Bool) (g : W → X) (w : W) (b : Bool) (xs : List X) (ws : List W) → ((n : ℕ) → place_from test n xs ≡ place_from (λ v. test (g v)) n ws)
    → (place : ℕ) → place_from test place (cond b (g w ∷ xs) xs) ≡ place_from (λ v. test (g v)) place (cond b (w ∷ ws) ws)
mapped test g w true xs ws same place = ap (cond (test (g w)) (Some place)) (same (suc place))
mapped test g w false xs ws same place = same place

-- the same of what stands behind a function
pub among-map : {W X : Type 0} (test pass : X → Bool) (g : W → X) (ws : List W) (place : ℕ)
    → among test pass place (map g ws) ≡ among (λ w. test (g w)) (λ w. pass (g w)) place ws
among-map test pass g [] place = refl
among-map test pass g (w ∷ ws) place =
    mapped test g w (pass (g w)) (filter pass (map g ws)) (filter (λ v. pass (g v)) ws) (λ n. among-map test pass g ws n) place

pub get_or-again : {X : Type 0} (xs : List X) (i : ℕ) (d : X) → i < length xs → get_or xs i (get_or xs i d) ≡ get_or xs i d
get_or-again [] i d within = absurd (omega arith)
get_or-again (x ∷ xs) zero d within = refl
get_or-again (x ∷ xs) (suc i) d within = other xs i _ d (omega arith)
  where
    other : {Y : Type 0} (ys : List Y) (j : ℕ) (d e : Y) → j < length ys → get_or ys j d ≡ get_or ys j e
    other [] j d e w = absurd (omega arith)
    other (y ∷ ys) zero d e w = refl
    other (y ∷ ys) (suc j) d e w = other ys j d e (omega arith)
