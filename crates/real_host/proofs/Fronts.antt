-- The first items of a list.
use Rattle.std.proofs.Common.{◌≡◌, ◌<◌, ℕ, List, length, take, arith, ap, ◌∙◌}
use Rattle.std.proofs.lemmas.List.{take_all, length-take}
use Rattle.std.specs.Prelude.{Option, Some, None, IfSome}

-- where fewer came than were asked for, all came
all_taken : (n : ℕ) (xs ys : List ℕ) → ys ≡ take n xs → length ys < n → ys ≡ xs
all_taken n xs ys e less = e ∙ take_all n xs (omega (arith, ap length e ∙ length-take n xs))

-- the same of bytes that may not be known
pub known_taken : (n : ℕ) (known : Option (List ℕ)) (ys : List ℕ) → length ys < n → IfSome known (λ xs. ys ≡ take n xs) → IfSome known (λ xs. ys ≡ xs)
known_taken n None ys less e = tt
known_taken n (Some xs) ys less e = all_taken n xs ys e less
