-- How time goes on through one call of a host after another, and what a crash leaves meanwhile.
use Rattle.std.proofs.Common.{◌≡◌, inl, inr, ⊎_elim, ℕ, Option, ◌∙◌, subst, arith}
use Rattle.host_core.specs.Crashes.{Elapses, Left, MayLeaveNow}
use Rattle.host_core.specs.State.{State}

module _ {H : Type 0} (moment : H → ℕ) (left_since : H → ℕ → Left → Type 0) where
  -- what may be left of these may be left of those
  pub elapses_weaker : (old new : H) (P Q : Left → Type 0) → ((left : Left) → P left → Q left)
      → Elapses moment left_since old new P
      → Elapses moment left_since old new Q
  elapses_weaker old new P Q more h = record {
    later = h.later;
    nothing_else = λ t left le since. ⊎_elim (λ b. inl b) (λ p. inr (more left p)) (h.nothing_else t left le since);
    keeps = h.keeps;
  }

  -- the same through two calls
  pub elapses_both : (old mid new : H) (P : Left → Type 0) → Elapses moment left_since old mid P
      → Elapses moment left_since mid new P
      → Elapses moment left_since old new P
  elapses_both old mid new P a b = record {
    later = omega (arith, a.later, b.later);
    nothing_else = λ t left le since.
        ⊎_elim (a.nothing_else t left le) (λ p. inr p) (b.nothing_else t left (omega (arith, le, a.later)) since);
    keeps = λ t left le before. b.keeps t left (omega (arith, le, a.later)) (a.keeps t left le before);
  }

  -- two calls that change nothing
  pub elapses_unchanged : (old mid new : H) (told before : Option State) → told ≡ before
      → Elapses moment left_since old mid (MayLeaveNow told)
      → (after : Option State) → after ≡ told → Elapses moment left_since mid new (MayLeaveNow after)
      → Elapses moment left_since old new (MayLeaveNow before)
  elapses_unchanged old mid new told before same first after again second =
      elapses_both old mid new (MayLeaveNow before)
      (subst (λ x. Elapses moment left_since old mid (MayLeaveNow x)) same first)
      (subst (λ x. Elapses moment left_since mid new (MayLeaveNow x)) (again ∙ same) second)
