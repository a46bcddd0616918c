-- Bytes that are appended to what may be told, and cut off again.
use Rattle.std.proofs.Common.{◌≡◌, ℕ, List, ◌++◌, length, take, append_assoc, ap, ◌∙◌}
use Rattle.std.proofs.Math.Seq.{take-append_seam}
use Rattle.std.specs.Prelude.{Option, Some, None, option_map, Result, Ok, Err, IfSome, OnErr}

-- some bytes and then others are both
pub told_twice : (before mid after : Option (List ℕ)) (xs ys : List ℕ) → mid ≡ option_map (λ all. all ++ xs) before → after ≡ option_map (λ all. all ++ ys) mid → after ≡ option_map (λ all. all ++ (xs ++ ys)) before
told_twice None mid after xs ys e f = f ∙ ap (option_map (λ all. all ++ ys)) e
told_twice (Some bytes) mid after xs ys e f = f ∙ ap (option_map (λ all. all ++ ys)) e ∙ ap Some (append_assoc bytes xs ys)

-- what was appended is cut off
pub told_again : (before mid after : Option (List ℕ)) (xs : List ℕ) (n : ℕ) → IfSome before (λ bytes. n ≡ length bytes) → mid ≡ option_map (λ all. all ++ xs) before → after ≡ option_map (take n) mid → after ≡ before
told_again None mid after xs n size e f = f ∙ ap (option_map (take n)) e
told_again (Some bytes) mid after xs n size e f = f ∙ ap (option_map (take n)) e ∙ ap (λ k. Some (take k (bytes ++ xs))) size ∙ ap Some (take-append_seam bytes xs)

-- what follows from what holds of an error
pub after_error : {T E P Q : Type 0} (r : Result T E) → OnErr r P → (P → Q) → OnErr r Q
after_error (Ok x) p f = tt
after_error (Err e) p f = f p
