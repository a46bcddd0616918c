-- A list of which some items were taken.
use Rattle.std.proofs.Common.{◌≡◌, ℕ, zero, suc, ◌<◌, List, [], ◌∷◌, ◌++◌, length, take, drop, get_or, sym, ap, ◌∙◌, arith}

split_at : {A : Type 0} (xs : List A) (n : ℕ) (x : A) → n < length xs → x ≡ get_or xs n x → xs ≡ take n xs ++ x ∷ drop (suc n) xs
split_at [] n x lt is = absurd (omega (arith, lt))
split_at (y ∷ xs) zero x lt is = ap (λ z. z ∷ xs) (sym is)
split_at (y ∷ xs) (suc n) x lt is = ap (λ zs. y ∷ zs) (split_at xs n x (omega (arith, lt)) is)

-- those that were taken, the next one, and the rest
pub walked : {A : Type 0} (xs done : List A) (x : A) → done ≡ take (length done) xs → length done < length xs
    → x ≡ get_or xs (length done) x → xs ≡ done ++ x ∷ drop (suc (length done)) xs
walked xs done x taken lt is =
    split_at xs (length done) x lt is ∙ ap (λ l. l ++ x ∷ drop (suc (length done)) xs) (sym taken)
