-- What the first module gives that gives something, one module after another.
use Rattle.std.proofs.Common.{◌≡◌, ◌<◌, ◌+◌, ℕ, suc, List, length, drop, get_or, Option, Some, None, add-one, sym, ap, ◌∙◌}
use Rattle.std.specs.Option.{option_map_or}
use Rattle.std.proofs.Math.Seq.{drop-cons}
use Rattle.yang_scope.specs.Modules.{Module}
use Rattle.yang_scope.specs.Paths.{Placed, first_given}

-- the module at a place
here : (f : ℕ → Module → Option Placed) (xs : List Module) (n : ℕ) (m : Module) → n < length xs → get_or xs n m ≡ m
    → first_given f n (drop n xs) ≡ option_map_or Some (f n m) (first_given f (suc n) (drop (suc n) xs))
here f xs n m within is =
    ap (first_given f n) (drop-cons xs n m within)
    ∙ ap (λ x. option_map_or Some (f n x) (first_given f (suc n) (drop (suc n) xs))) is

-- it gives something
pub given_here : (f : ℕ → Module → Option Placed) (xs : List Module) (n : ℕ) (m : Module) (p : Placed) → n < length xs → get_or xs n m ≡ m
    → f n m ≡ Some p → first_given f n (drop n xs) ≡ Some p
given_here f xs n m p within is gives =
    here f xs n m within is ∙ ap (λ o. option_map_or Some o (first_given f (suc n) (drop (suc n) xs))) gives

-- it gives nothing
pub given_behind : (f : ℕ → Module → Option Placed) (xs : List Module) (n : ℕ) (m : Module) → n < length xs → get_or xs n m ≡ m
    → f n m ≡ None → first_given f n (drop n xs) ≡ first_given f (n + 1) (drop (n + 1) xs)
given_behind f xs n m within is gives =
    here f xs n m within is
    ∙ ap (λ o. option_map_or Some o (first_given f (suc n) (drop (suc n) xs))) gives
    ∙ ap (λ k. first_given f k (drop k xs)) (sym (add-one n))
