-- One step of a walk: what may follow the places that read a character.
use Rattle.std.proofs.Common.{◌≡◌, ℕ, ◌+◌, ◌<◌, Bool, false, ◌||◌, ◌⊎◌, List, [], ◌∷◌, sym, ◌∙◌, subst, inl, inr, arith, ◌↔◌, IsTrue}
use Rattle.std.proofs.lemmas.Bool.{cases_lt, false≢true, or_cases, or_left, or_right}
use Rattle.yang_pattern.specs.Machine.{Machine, After, From}

-- the places below i that read the character, each with what follows it
abbrev pub Visited : Machine → (ℕ → Bool) → ℕ → ℕ → List ℕ → Type 0
Visited m next c i u = (p : ℕ) × (p < i) × IsTrue (next p) × IsTrue (m.reads p c) × After m p u

-- before the first place
pub visited_none : (m : Machine) (next none : ℕ → Bool) (c : ℕ) → ((q : ℕ) → none q ≡ false) → (u : List ℕ) → From m none false u ↔ Visited m next c 0 u
visited_none m next none c empty [] = (λ h. absurd (false≢true h), λ (p, low, here, reads, ends). absurd (omega (arith, low)))
visited_none m next none c empty (d ∷ u) =
    (λ (q, within, here, reads, more). absurd (false≢true (sym (empty q) ∙ here)), λ (p, low, here, reads, more). absurd (omega (arith, low)))

-- what follows one place more
from_more : (m : Machine) (old new : ℕ → Bool) (e : Bool) (p : ℕ) → ((q : ℕ) → q < m.count → new q ≡ (old q || m.follow p q))
    → (u : List ℕ) → (From m new (e || m.last p) u → From m old e u ⊎ After m p u) × (From m old e u ⊎ After m p u → From m new (e || m.last p) u)
from_more m old new e p is [] = (
  λ h. or_cases e (m.last p) h,
  λ h. elim h [ inl x ↦ or_left e (m.last p) x | inr x ↦ or_right e (m.last p) x ],
)
from_more m old new e p is (c ∷ u) = (
  λ (q, within, here, read, more).
      elim (or_cases (old q) (m.follow p q) (sym (is q within) ∙ here)) [
        | inl x ↦ inl (q, within, x, read, more)
        | inr x ↦ inr (q, within, x, read, more)
      ],
  λ h. elim h [
    | inl (q, within, here, read, more) ↦ (q, within, is q within ∙ or_left (old q) (m.follow p q) here, read, more)
    | inr (q, within, follows, read, more) ↦ (q, within, is q within ∙ or_right (old q) (m.follow p q) follows, read, more)
  ],
)

module _ (m : Machine) (next old : ℕ → Bool) (e : Bool) (c i : ℕ) (so_far : (u : List ℕ) → From m old e u ↔ Visited m next c i u) where
  -- the place i reads the character
  pub visited_in : (new : ℕ → Bool) → ((q : ℕ) → q < m.count → new q ≡ (old q || m.follow i q)) → IsTrue (next i) → IsTrue (m.reads i c)
      → (u : List ℕ) → From m new (e || m.last i) u ↔ Visited m next c (i + 1) u
  visited_in new is here read u = (
    λ h. elim ((from_more m old new e i is u).0 h) [
      | inl x ↦ let (p, low, there, reads, more) = (so_far u).0 x in (p, omega arith, there, reads, more)
      | inr x ↦ (i, omega arith, here, read, x)
    ],
    λ (p, low, there, reads, more).
        (from_more m old new e i is u).1 (elim (cases_lt p i) [
          | inl x ↦ inl ((so_far u).1 (p, x, there, reads, more))
          | inr x ↦ let same : p ≡ i = omega arith in inr (subst (λ k. After m k u) same more)
        ]),
  )

  -- it doesn't
  pub visited_out : (IsTrue (next i) → IsTrue (m.reads i c) → ⊥) → (u : List ℕ) → From m old e u ↔ Visited m next c (i + 1) u
  visited_out not u = (
    λ h. let (p, low, there, reads, more) = (so_far u).0 h in (p, omega arith, there, reads, more),
    λ (p, low, there, reads, more).
        elim (cases_lt p i) [
          | inl x ↦ (so_far u).1 (p, x, there, reads, more)
          | inr x ↦
              let same : p ≡ i = omega arith in
              absurd (not (subst (λ k. IsTrue (next k)) same there) (subst (λ k. IsTrue (m.reads k c)) same reads))
        ],
  )
