-- The command that three words or more are.
use Rattle.std.proofs.Common.{◌≡◌, ◌≤◌, ℕ, ◌-◌, List, [], ◌∷◌, length, Option, slice_index_or, take, drop, ap, ◌∙◌, arith}
use Rattle.std.proofs.Math.Seq.{take-length}
use Rattle.gcu_words.specs.Form.{Form, form, form_of_more}

-- its first word, its second one, and those that are left
pub more_is : (ws : List (List ℕ)) (a b : List ℕ) (r : Option Form) → 3 ≤ length ws → a ≡ slice_index_or ws 0 a → b ≡ slice_index_or ws 1 b
    → r ≡ form_of_more a b (take (length ws - 2) (drop 2 ws)) → r ≡ form ws
more_is [] a b r few first second is = absurd (omega (arith, few))
more_is (x ∷ []) a b r few first second is = absurd (omega (arith, few))
more_is (x ∷ y ∷ []) a b r few first second is = absurd (omega (arith, few))
more_is (x ∷ y ∷ z ∷ ws) a b r few first second is =
    let left : length (x ∷ y ∷ z ∷ ws) - 2 ≡ length (z ∷ ws) = omega arith in
    is ∙ ap (λ (n : ℕ). form_of_more a b (take n (drop 2 (x ∷ y ∷ z ∷ ws)))) left
    ∙ ap (λ (f : List ℕ). form_of_more f b (take (length (z ∷ ws)) (z ∷ ws))) first
    ∙ ap (λ (s : List ℕ). form_of_more x s (take (length (z ∷ ws)) (z ∷ ws))) second
    ∙ ap (λ (l : List (List ℕ)). form_of_more x y l) (take-length (z ∷ ws))
