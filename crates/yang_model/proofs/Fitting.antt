-- A key's parts beside the key leaves, one after another.
use Rattle.std.proofs.Common.{◌≡◌, ◌<◌, ℕ, zero, suc, List, [], ◌∷◌, length, take, get_or, slice_get, Option, Some, None, option_map, IsSomeAnd, Bor, take_all, refl, ap, sym, subst, arith}
use Rattle.std.specs.List.{AllZip}

module _ {X : Type 0} (R : X → List ℕ → Type 0) where
  -- where all parts are accepted, each one is there and is
  pub IsSomeAnd-at : (i : ℕ) (xs : List X) (ys : List (List ℕ)) (x : X) (o : Option (Bor (List ℕ)))
      → i < length xs → x ≡ get_or xs i x → option_map (λ y. y.now) o ≡ slice_get ys i → AllZip R xs ys → IsSomeAnd o (λ y. R x y.now)
  IsSomeAnd-at i [] ys x o within is m all = absurd (omega arith)
  IsSomeAnd-at i (a ∷ xs) [] x o within is m all = absurd all
  IsSomeAnd-at zero (a ∷ xs) (b ∷ ys) x None within is m all = absurd (cc)
  IsSomeAnd-at zero (a ∷ xs) (b ∷ ys) x (Some y) within is m all =
      let same : y.now ≡ b = cc in
      let P : List ℕ → Type 0 = λ z. R x z in
      let Q : X → Type 0 = λ z. R z b in
      subst P (sym same) (subst Q (sym is) all.0)
  IsSomeAnd-at (suc i) (a ∷ xs) (b ∷ ys) x o within is m all = IsSomeAnd-at i xs ys x o (omega arith) is m all.1

  -- one more part
  pub AllZip-more : (i : ℕ) (xs : List X) (ys : List (List ℕ)) (x : X) (o : Option (Bor (List ℕ)))
      → i < length xs → x ≡ get_or xs i x → option_map (λ y. y.now) o ≡ slice_get ys i → AllZip R (take i xs) (take i ys)
      → IsSomeAnd o (λ y. R x y.now) → AllZip R (take (suc i) xs) (take (suc i) ys)
  AllZip-more i [] ys x o within is m all here = absurd (omega arith)
  AllZip-more i (a ∷ xs) ys x None within is m all here = absurd here
  AllZip-more zero (a ∷ xs) [] x (Some y) within is m all here = absurd (cc)
  AllZip-more (suc i) (a ∷ xs) [] x (Some y) within is m all here = absurd (cc)
  AllZip-more zero (a ∷ xs) (b ∷ ys) x (Some y) within is m all here =
      let same : y.now ≡ b = cc in
      let P : List ℕ → Type 0 = λ z. R a z in
      let Q : X → Type 0 = λ z. R z y.now in
      (subst P same (subst Q is here), tt)
  AllZip-more (suc i) (a ∷ xs) (b ∷ ys) x (Some y) within is m all here = (all.0, AllZip-more i xs ys x (Some y) (omega arith) is m all.1 here)

  pub length-all_zip : (xs : List X) (ys : List (List ℕ)) → AllZip R xs ys → length ys ≡ length xs
  length-all_zip [] [] all = refl
  length-all_zip [] (y ∷ ys) all = absurd all
  length-all_zip (x ∷ xs) [] all = absurd all
  length-all_zip (x ∷ xs) (y ∷ ys) all = ap suc (length-all_zip xs ys all.1)

  -- two lists taken whole are the lists
  pub AllZip-whole : (i : ℕ) (xs : List X) (ys : List (List ℕ)) → i ≡ length xs → length ys ≡ length xs → AllZip R (take i xs) (take i ys) → AllZip R xs ys
  AllZip-whole i xs ys all_xs all_ys zipped =
      let P : List X → Type 0 = λ us. AllZip R us (take i ys) in
      let Q : List (List ℕ) → Type 0 = λ us. AllZip R xs us in
      subst Q (take_all i ys (omega arith)) (subst P (take_all i xs (omega arith)) zipped)
