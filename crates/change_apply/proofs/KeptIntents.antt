-- What `intent` is with so many steps acknowledged, by what is known of it.
use Rattle.std.proofs.Common.{◌≡◌, ◌<◌, ◌⊎◌, inl, inr, ⊎_elim, ℕ, Result, Ok, refl, sym, ◌∙◌, arith}
use Rattle.host_core.specs.State.{Files}
use Rattle.conf_doc.specs.declared.configuration.Config.{Config}
use Rattle.conf_store.specs.Puts.{IsSame}
use Rattle.conf_store.specs.Stored.{stored}
use Rattle.change_apply.specs.Change.{Change, conf_at, goal, steps}
use Rattle.change_apply.specs.Intents.{HoldsGoal, IsOver, KeepsIntent}

same_config : {E : Type 0} (r : Result Config E) (a b : Config) → r ≡ Ok a → r ≡ Ok b → a ≡ b
same_config r a b e f = let both : Ok a ≡ Ok b = sym e ∙ f in cc

module _ (change : Change) where
  -- it holds the goal
  pub held : (k : ℕ) (before after : Files) → HoldsGoal change after → KeepsIntent change k before after
  held k before after holds = record {
    is = inr (inl holds);
    under_way = λ one less. holds;
    between = λ config stands first which. holds;
  }

  -- before the first step
  pub kept_at_start : (before after : Files) → stored after ≡ Ok (conf_at change 0) → IsSame before after ⊎ HoldsGoal change after
      → KeepsIntent change 0 before after
  kept_at_start before after stood either = record {
    is = ⊎_elim (λ same. inl (refl, same)) (λ holds. inr (inl holds)) either;
    under_way = λ one less. absurd (omega (arith, one));
    between = λ config stands first which. absurd (first (same_config (stored after) config (conf_at change 0) stands stood));
  }

  -- behind the last
  pub kept_at_end : (before after : Files) → stored after ≡ Ok (goal change) → HoldsGoal change after ⊎ IsOver change after
      → KeepsIntent change (steps change) before after
  kept_at_end before after stood either = record {
    is = ⊎_elim (λ holds. inr (inl holds)) (λ over. inr (inr (refl, over))) either;
    under_way = λ one less. absurd (omega (arith, less));
    between = λ config stands first which. absurd (neither config stands which);
  }
    where
      neither : (config : Config) → stored after ≡ Ok config → (steps change < steps change) ⊎ (config ≡ goal change → ⊥) → ⊥
      neither config stands (inl less) = omega (arith, less)
      neither config stands (inr last) = last (same_config (stored after) config (goal change) stands stood)
