-- How many steps are acknowledged by what is printed.
use Rattle.std.proofs.Common.{◌≡◌, ◌≢◌, ◌≤◌, ◌<◌, ◌⊎◌, inl, inr, ℕ, zero, suc, ◌+◌, List, [], ◌∷◌, ◌++◌, length, length-append, refl, sym, ap, ◌∙◌, subst, arith}
use Rattle.change_apply.specs.Acknowledgements.{HasAcknowledged, ack, acks}

three_ways : (d k : ℕ) → (d < k) ⊎ ((d ≡ k) ⊎ (k < d))
three_ways zero zero = inr (inl refl)
three_ways zero (suc k) = inl (omega arith)
three_ways (suc d) zero = inr (inr (omega arith))
three_ways (suc d) (suc k) = up (three_ways d k)
  where
    up : (d < k) ⊎ ((d ≡ k) ⊎ (k < d)) → (suc d < suc k) ⊎ ((suc d ≡ suc k) ⊎ (suc k < suc d))
    up (inl lt) = inl (omega (arith, lt))
    up (inr (inl e)) = inr (inl (ap suc e))
    up (inr (inr gt)) = inr (inr (omega (arith, gt)))

one_length : (k : ℕ) → length (acks (suc k)) ≡ length (acks k) + length (ack (suc k))
one_length k = length-append (acks k) (ack (suc k))

more_by : (d k : ℕ) → (d < k → length (acks d) + length (ack (suc d)) ≤ length (acks k)) → d < suc k
    → (d < k) ⊎ ((d ≡ k) ⊎ (k < d))
    → length (acks d) + length (ack (suc d)) ≤ length (acks (suc k))
more_by d k so_far low (inl lt) = let less = so_far lt in let one = one_length k in omega (arith, less, one)
more_by d k so_far low (inr (inl e)) =
    subst (λ (n : ℕ). length (acks d) + length (ack (suc d)) ≤ length (acks (suc n))) e (let one = one_length d in
    omega (arith, one))
more_by d k so_far low (inr (inr gt)) = absurd (omega (arith, low, gt))

-- with more steps there is at least the next acknowledgement more
more_length : (d k : ℕ) → d < k → length (acks d) + length (ack (suc d)) ≤ length (acks k)
more_length d zero low = absurd (omega (arith, low))
more_length d (suc k) low = more_by d k (λ lt. more_length d k lt) low (three_ways d k)

some_length : (rest : List ℕ) → rest ≢ [] → 0 < length rest
some_length [] some = absurd (some refl)
some_length (x ∷ rest) some = omega arith

ack_length : (k : ℕ) → 0 < length (ack k)
ack_length k = omega arith

-- so many were printed, and no part of another one
pub acked_is : (d k : ℕ) (base : List ℕ) → HasAcknowledged d base (base ++ acks k) → d ≡ k
acked_is d k base h = by (three_ways d k)
  where
    long : length base + length (acks k) ≡ length base + length (acks d) + length h.part
    long =
        sym (length-append base (acks k)) ∙ ap (λ (l : List ℕ). length l) h.printed
        ∙ length-append (base ++ acks d) h.part ∙ ap (λ (n : ℕ). n + length h.part) (length-append base (acks d))

    line : length (ack (suc d)) ≡ length h.part + length h.rest
    line = ap (λ (l : List ℕ). length l) h.line ∙ length-append h.part h.rest

    by : (d < k) ⊎ ((d ≡ k) ⊎ (k < d)) → d ≡ k
    by (inl lt) = absurd (let more = more_length d k lt in let some = some_length h.rest h.cut in let l = long in
        let e = line in omega (arith, more, some, l, e))
    by (inr (inl e)) = e
    by (inr (inr gt)) = absurd (let more = more_length k d gt in let some = ack_length (suc k) in let l = long in
        omega (arith, more, some, l))
