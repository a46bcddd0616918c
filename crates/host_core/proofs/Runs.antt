-- How a run of calls of a host goes on, for whoever carries `LeavesOnly` through it.
use Rattle.std.proofs.Common.{inl, inr, ⊎_elim, ℕ, arith}
use Rattle.host_core.specs.Crashes.{Left, Elapses, LeavesOnly}

module _ {H : Type 0} (moment : H → ℕ) (left_since : H → ℕ → Left → Type 0) where
  -- before the first call
  pub begins : (old : H) (P : Left → Type 0) → ((left : Left) → left_since old (moment old) left → P left)
      → LeavesOnly moment left_since old old P
  begins old P here = record { later = omega arith; each = here; before = λ t left le since. inl since }

  -- one call more, in which a crash leaves what has P
  pub goes_on : (old mid new : H) (P these : Left → Type 0) → LeavesOnly moment left_since old mid P
      → Elapses moment left_since mid new these → ((left : Left) → these left → P left) → LeavesOnly moment left_since old new P
  goes_on old mid new P these so_far time here = record {
    later = omega (arith, so_far.later, time.later);
    each = λ left since. ⊎_elim (so_far.each left) (here left) (time.nothing_else (moment old) left so_far.later since);
    before = λ t left le since.
        ⊎_elim (so_far.before t left le) (λ now. inr (here left now)) (time.nothing_else t left (omega (arith, le, so_far.later)) since);
  }

  -- one run after another
  pub joins : (old mid new : H) (P : Left → Type 0) → LeavesOnly moment left_since old mid P → LeavesOnly moment left_since mid new P
      → LeavesOnly moment left_since old new P
  joins old mid new P first second = record {
    later = omega (arith, first.later, second.later);
    each = λ left since. ⊎_elim (first.each left) (λ p. p) (second.before (moment old) left first.later since);
    before = λ t left le since.
        ⊎_elim (first.before t left le) (λ p. inr p) (second.before t left (omega (arith, le, first.later)) since);
  }

  -- what P gives instead
  pub weaker : (old new : H) (P Q : Left → Type 0) → ((left : Left) → P left → Q left) → LeavesOnly moment left_since old new P
      → LeavesOnly moment left_since old new Q
  weaker old new P Q gives run = record {
    later = run.later;
    each = λ left since. gives left (run.each left since);
    before = λ t left le since. ⊎_elim (λ b. inl b) (λ p. inr (gives left p)) (run.before t left le since);
  }
