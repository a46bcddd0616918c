-- Whether no name is empty, as a test and as a fact.
use Rattle.std.proofs.Common.{◌≡◌, ◌↔◌, ℕ, ◌<◌, ◌≤◌, ◌==◌, true, List, [], ◌∷◌, length, not, ne_eqb, refl, ap, arith}
use Rattle.std.proofs.lemmas.Bool.{and_from, and_parts}
use Rattle.conf_doc.specs.Paths.{HaveLetters, IsPath}
use Rattle.plan_texts.specs.Places.{have_letters}

some_letter : (n : List ℕ) → 0 < length n → not (length n == 0) ≡ true
some_letter n some = ap not (ne_eqb (length n) 0 (λ e. omega arith))

letter : (n : List ℕ) → not (length n == 0) ≡ true → 0 < length n
letter [] e = absurd cc
letter (b ∷ bs) e = omega arith

pub letters : (ns : List (List ℕ)) → (have_letters ns ≡ true) ↔ HaveLetters ns
letters [] = (λ _. tt, λ _. refl)
letters (n ∷ ns) = (
  λ e. let parts = and_parts _ _ e in (letter n parts.0, (letters ns).0 parts.1),
  λ h. and_from _ _ (some_letter n h.0) ((letters ns).1 h.1),
)

-- names of a place
pub is_a_path : (ns : List (List ℕ)) → 0 < length ns → length ns ≤ 3 → (have_letters ns ≡ true) ↔ IsPath ns
is_a_path ns some few = (λ e. record { some = some; few = few; named = (letters ns).0 e }, λ p. (letters ns).1 p.named)
