-- What is printed while a change is under way is a front of what is printed for it.
use Rattle.std.proofs.Common.{◌≡◌, ◌≢◌, ℕ, zero, suc, ◌+◌, ◌-◌, ◌<◌, ◌≤◌, List, [], ◌∷◌, ◌++◌, length, sym, ap, ◌∙◌, subst, arith, append_assoc, append-nil}
use Rattle.std.proofs.lemmas.List.{length-append}
use Rattle.host_core.specs.State.{IsFront}
use Rattle.change_apply.specs.Acknowledgements.{ack, acks}
use Rattle.scopes.specs.Laws.{front_of, front_of_front}

-- the same behind the same
pub behind_same : (xs ys zs : List ℕ) → IsFront ys zs → IsFront (xs ++ ys) (xs ++ zs)
behind_same xs ys zs (rest, is) = (rest, ap (λ (l : List ℕ). xs ++ l) is ∙ sym (append_assoc xs ys rest))

acks_more : (k m : ℕ) → IsFront (acks k) (acks (m + k))
acks_more k zero = let none : 0 + k ≡ k = omega arith in ([], ap acks none ∙ sym (append-nil (acks k)))
acks_more k (suc m) =
    let more : suc (m + k) ≡ suc m + k = omega arith in
    subst (λ n. IsFront (acks k) (acks n)) more
    (front_of_front (acks k) (acks (m + k)) (acks (suc (m + k))) (acks_more k m) (front_of (acks (m + k)) (ack (suc (m + k)))))

pub acks_front : (k n : ℕ) → k ≤ n → IsFront (acks k) (acks n)
acks_front k n le =
    let whole : n - k + k ≡ n = omega (arith, le) in
    subst (λ m. IsFront (acks k) (acks m)) whole (acks_more k (n - k))

-- so many acknowledgements, and a part of the next where there is a next
pub part_front : (k n : ℕ) (part rest : List ℕ) → k ≤ n → (part ≢ [] → k < n) → ack (suc k) ≡ part ++ rest → IsFront (acks k ++ part) (acks n)
part_front k n [] rest le some line = subst (λ (l : List ℕ). IsFront l (acks n)) (sym (append-nil (acks k))) (acks_front k n le)
part_front k n (b ∷ part) rest le some line =
    let less : k < n = some (λ (e : b ∷ part ≡ []). cc) in
    front_of_front (acks k ++ (b ∷ part)) (acks (suc k)) (acks n)
    (rest, ap (λ (l : List ℕ). acks k ++ l) line ∙ sym (append_assoc (acks k) (b ∷ part) rest))
    (acks_front (suc k) n (omega (arith, less)))

-- a list with something behind it is no front of itself
pub no_longer : (xs ys zs : List ℕ) → 0 < length ys → IsFront (xs ++ ys) zs → IsFront zs xs → ⊥
no_longer xs ys zs some (r, is) (q, same) =
    let one : length zs ≡ length xs + length ys + length r = ap length is ∙ length-append (xs ++ ys) r ∙ ap (λ n. n + length r) (length-append xs ys) in
    let two : length xs ≡ length zs + length q = ap length same ∙ length-append zs q in
    omega (arith, some, one, two)
