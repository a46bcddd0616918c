-- The first cause against a step, by what of it is wrong.
use Rattle.std.proofs.Common.{◌≡◌, ◌≢◌, ℕ, ◌<◌, ◌≤◌, subst, arith}
use Rattle.conf_doc.specs.declared.configuration.Config.{Config}
use Rattle.move_core.specs.Listed.{IsListed}
use Rattle.move_core.specs.Moves.{IsDefined, step}
use Rattle.move_core.specs.Plans.{IsAllowed}
use Rattle.move_core.specs.Rulebook.{Rulebook}
use Rattle.move_core.specs.Rules.{EmptiesNoTable, HasNoDependency, KeepsCreateOnly}
use Rattle.move_core.specs.declared.moves.Move.{Move}
use Rattle.plan_check.specs.Checks.{IsFirstCause, Meets, rank}
use Rattle.plan_check.specs.Verdicts.{IsFine, IsFirstBroken}
use Rattle.plan_texts.specs.declared.causes.NoWhy.{NoWhy}
use Rattle.plan_texts.specs.declared.causes.NoWhy.TheVariants.{NotDefined, NotListed, Rule1, Rule2, Rule3, Rule4, Rule5, Same, WrongEnd}

module _ (book : Rulebook) (goal cur : Config) (m : Move) where
  -- what is met before a cause of that rank
  met : (n : ℕ) → n ≤ 7 → (0 < n → IsDefined cur m) → (1 < n → IsListed book cur goal m) → (2 < n → step cur m ≢ cur) → (3 < n → book.IsValid (step cur m))
      → (4 < n → HasNoDependency book cur (step cur m) m) → (5 < n → EmptiesNoTable cur (step cur m)) → (6 < n → KeepsCreateOnly book.settings cur (step cur m))
      → (w : NoWhy) → rank w < n → Meets book goal cur m w
  met n few d l s v h e k NotDefined lt = d lt
  met n few d l s v h e k NotListed lt = l lt
  met n few d l s v h e k Same lt = s lt
  met n few d l s v h e k Rule1 lt = v lt
  met n few d l s v h e k Rule2 lt = h lt
  met n few d l s v h e k Rule3 lt = e lt
  met n few d l s v h e k Rule4 lt = k lt
  met n few d l s v h e k Rule5 lt = absurd (omega arith)
  met n few d l s v h e k WrongEnd lt = tt

  module _ (defined : IsDefined cur m) where
    pub not_listed : ¬ IsListed book cur goal m → IsFirstCause book goal cur m NotListed
    not_listed broken = record {
      broken = broken;
      before = met 1 (omega arith) (λ _. defined) (λ lt. absurd (omega arith)) (λ lt. absurd (omega arith)) (λ lt. absurd (omega arith)) (λ lt. absurd (omega arith)) (λ lt. absurd (omega arith)) (λ lt. absurd (omega arith));
    }

    module _ (listed : IsListed book cur goal m) where
      of_step : (why : NoWhy) → IsFirstBroken book cur (step cur m) m why → IsFirstCause book goal cur m why
      of_step NotDefined is = absurd is
      of_step NotListed is = absurd is
      of_step Same is = record {
        broken = λ other. other is;
        before = met 2 (omega arith) (λ _. defined) (λ _. listed) (λ lt. absurd (omega arith)) (λ lt. absurd (omega arith)) (λ lt. absurd (omega arith)) (λ lt. absurd (omega arith)) (λ lt. absurd (omega arith));
      }
      of_step Rule1 is = record {
        broken = is.1;
        before = met 3 (omega arith) (λ _. defined) (λ _. listed) (λ _. is.0) (λ lt. absurd (omega arith)) (λ lt. absurd (omega arith)) (λ lt. absurd (omega arith)) (λ lt. absurd (omega arith));
      }
      of_step Rule2 is = record {
        broken = is.2;
        before = met 4 (omega arith) (λ _. defined) (λ _. listed) (λ _. is.0) (λ _. is.1) (λ lt. absurd (omega arith)) (λ lt. absurd (omega arith)) (λ lt. absurd (omega arith));
      }
      of_step Rule3 is = record {
        broken = is.3;
        before = met 5 (omega arith) (λ _. defined) (λ _. listed) (λ _. is.0) (λ _. is.1) (λ _. is.2) (λ lt. absurd (omega arith)) (λ lt. absurd (omega arith));
      }
      of_step Rule4 is = record {
        broken = is.4;
        before = met 6 (omega arith) (λ _. defined) (λ _. listed) (λ _. is.0) (λ _. is.1) (λ _. is.2) (λ _. is.3) (λ lt. absurd (omega arith));
      }
      of_step Rule5 is = record {
        broken = is.5;
        before = met 7 (omega arith) (λ _. defined) (λ _. listed) (λ _. is.0) (λ _. is.1) (λ _. is.2) (λ _. is.3) (λ _. is.4);
      }
      of_step WrongEnd is = absurd is

      -- the first that is wrong of the result
      pub of_result : (next : Config) → next ≡ step cur m → (why : NoWhy) → IsFirstBroken book cur next m why → IsFirstCause book goal cur m why
      of_result next same why is = of_step why (subst (λ x. IsFirstBroken book cur x m why) same is)

      -- nothing is wrong
      pub allowed : (next : Config) → next ≡ step cur m → IsFine book cur next m → IsAllowed book goal cur m
      allowed next same is =
          let fine = subst (λ x. IsFine book cur x m) same is in
          record { listed = listed; differs = fine.0; rules = fine.1 }
