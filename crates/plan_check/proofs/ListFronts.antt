-- Lists that begin alike.
use Rattle.std.proofs.Common.{◌≡◌, ℕ, zero, suc, ◌+◌, ◌<◌, List, [], ◌∷◌, take, slice_get, add-one, refl, sym, ap, ◌∙◌, arith}

module _ {A : Type 0} where
  at_taken : (xs : List A) (n i : ℕ) → i < n → slice_get (take n xs) i ≡ slice_get xs i
  at_taken [] zero i lt = refl
  at_taken [] (suc n) i lt = refl
  at_taken (x ∷ xs) zero i lt = absurd (omega arith)
  at_taken (x ∷ xs) (suc n) zero lt = refl
  at_taken (x ∷ xs) (suc n) (suc i) lt = at_taken xs n i (omega arith)

  -- lists that are alike before an end have the same item before it
  pub agree_below : (xs ys : List A) (n i : ℕ) → i < n → take n xs ≡ take n ys → slice_get xs i ≡ slice_get ys i
  agree_below xs ys n i lt alike = sym (at_taken xs n i lt) ∙ ap (λ l. slice_get l i) alike ∙ at_taken ys n i lt

  longer : (xs ys : List A) (i : ℕ) → take i xs ≡ take i ys → slice_get xs i ≡ slice_get ys i → take (suc i) xs ≡ take (suc i) ys
  longer [] [] i alike same = refl
  longer [] (y ∷ ys) zero alike same = cc
  longer [] (y ∷ ys) (suc i) alike same = cc
  longer (x ∷ xs) [] zero alike same = cc
  longer (x ∷ xs) [] (suc i) alike same = cc
  longer (x ∷ xs) (y ∷ ys) zero alike same = let first : x ≡ y = cc in ap (λ z. z ∷ []) first
  longer (x ∷ xs) (y ∷ ys) (suc i) alike same =
      let first : x ≡ y = cc in
      let rest : take i xs ≡ take i ys = cc in
      let more = longer xs ys i rest same in
      λ j. first j ∷ more j

  -- one item more
  pub agree_more : (xs ys : List A) (i : ℕ) → take i xs ≡ take i ys → slice_get xs i ≡ slice_get ys i → take (i + 1) xs ≡ take (i + 1) ys
  agree_more xs ys i alike same = rw add-one (longer xs ys i alike same)
