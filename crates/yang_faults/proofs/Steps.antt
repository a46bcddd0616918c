-- One more element of a list that a loop goes along.
use Rattle.std.proofs.Common.{◌≡◌, ◌<◌, ℕ, ◌+◌, zero, suc, Bor, List, [], ◌∷◌, ◌++◌, map, take, drop, length, get_or, add-one, refl, ap, ◌∙◌, sym, arith}
use Rattle.std.proofs.Math.Seq.{take-suc, drop-cons}
use Rattle.std.proofs.lemmas.List.{map-append, append-nil}
use Rattle.std.proofs.lemmas.Grind.{flat_map-append}
use Rattle.std.specs.List.{flat_map}

-- an element of a list is what it is, whatever stands past its end
pub get_or-self : {X : Type 0} (xs : List X) (i : ℕ) (d : X) → i < length xs → get_or xs i d ≡ get_or xs i (get_or xs i d)
get_or-self [] i d within = absurd (omega arith)
get_or-self (x ∷ xs) zero d within = refl
get_or-self (x ∷ xs) (suc i) d within = get_or-self-any xs i d (get_or xs i d) (omega arith)
  where
    get_or-self-any : {X : Type 0} (xs : List X) (i : ℕ) (d e : X) → i < length xs → get_or xs i d ≡ get_or xs i e
    get_or-self-any [] i d e within = absurd (omega arith)
    get_or-self-any (x ∷ xs) zero d e within = refl
    get_or-self-any (x ∷ xs) (suc i) d e within = get_or-self-any xs i d e (omega arith)

-- what stands past the end of a list of texts
abbrev pub no_text : Bor (List ℕ)
no_text = record { ref_ptr = (0, 0); now = [] }

module _ {X : Type 0} (xs : List X) (i : ℕ) (x : X) (within : i < length xs) (is : x ≡ get_or xs i x) where
  -- it is the last of those taken
  pub take-one_more : take (i + 1) xs ≡ take i xs ++ x ∷ []
  take-one_more = ap (λ (n : ℕ). take n xs) (add-one i) ∙ take-suc xs i x within ∙ ap (λ (y : X). take i xs ++ y ∷ []) (sym is)

  -- and the first of those left
  pub drop-one_less : drop i xs ≡ x ∷ drop (i + 1) xs
  drop-one_less = drop-cons xs i x within ∙ ap (λ (y : X). y ∷ drop (suc i) xs) (sym is) ∙ ap (λ (n : ℕ). x ∷ drop n xs) (sym (add-one i))

  pub map-one_more : {Y : Type 0} (v : X → Y) → map v (take (i + 1) xs) ≡ map v (take i xs) ++ v x ∷ []
  map-one_more v = ap (map v) take-one_more ∙ map-append v (take i xs) (x ∷ [])

  pub flat_map-one_more : {Y A : Type 0} (v : X → Y) (f : Y → List A) → flat_map f (map v (take (i + 1) xs)) ≡ flat_map f (map v (take i xs)) ++ f (v x)
  flat_map-one_more v f = ap (flat_map f) (map-one_more v) ∙ flat_map-append f (map v (take i xs)) (v x ∷ []) ∙ ap (λ rest. flat_map f (map v (take i xs)) ++ rest) (append-nil (f (v x)))
