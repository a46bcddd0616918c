-- What can't fail to be.
use Rattle.std.proofs.Common.{◌⊎◌, inl, inr, ℕ, zero, suc, ◌<◌, ◌≤◌, arith}

-- what is can't fail to be
pub surely : {A : Type 0} → A → ¬ ¬ A
surely a none = none a

-- and what follows from it
pub then_surely : {A B : Type 0} → ¬ ¬ A → (A → ¬ ¬ B) → ¬ ¬ B
then_surely a f none = a (λ x. f x none)

-- it holds or it doesn't
pub surely_decided : (P : Type 0) → ¬ ¬ (P ⊎ ¬ P)
surely_decided P none = none (inr (λ p. none (inl p)))

module _ {A : Type 0} (P : A → Type 0) (f : A → ℕ) where
  -- of the things that are as P says it has the least number
  abbrev pub IsLowest : A → Type 0
  IsLowest b = P b × ((c : A) → P c → f b ≤ f c)

  -- where no thing has the least number, none is as P says
  none_lower : ¬ ((b : A) × IsLowest b) → (n : ℕ) (b : A) → f b < n → ¬ P b
  none_lower none zero b lt is = absurd (omega (arith, lt))
  none_lower none (suc n) b lt is = none (b, (is, least (none_lower none n)))
    where
      order : (x y : ℕ) → (x ≤ y) ⊎ (y < x)
      order x y = grind arith

      least : ((c : A) → f c < n → ¬ P c) → (c : A) → P c → f b ≤ f c
      least lower c is_c = by (order (f b) (f c))
        where
          by : (f b ≤ f c) ⊎ (f c < f b) → f b ≤ f c
          by (inl le) = le
          by (inr less) = absurd (lower c (omega (arith, lt, less)) is_c)

  -- so one of them can't fail to have it
  pub surely_lowest : (a : A) → P a → ¬ ¬ ((b : A) × IsLowest b)
  surely_lowest a is none = none_lower none (suc (f a)) a (omega arith) is
