-- That the check of a plan has one answer.
use Rattle.std.proofs.Common.{◌≡◌, ℕ, List, Result, Ok, Err, sym, ap, ◌∙◌}
use Rattle.conf_doc.specs.declared.configuration.Config.{Config}
use Rattle.move_core.specs.Contexts.{rulebook}
use Rattle.move_core.specs.Plans.{IsPlan}
use Rattle.move_core.specs.declared.contexts.Ctx.{Ctx}
use Rattle.move_core.specs.declared.moves.Move.{Move}
use Rattle.plan_texts.specs.PlanTexts.{IsPlanText}
use Rattle.plan_texts.specs.PlanTexts as texts
use Rattle.plan_check.specs.Checks.{IsFirstFault}
use Rattle.plan_texts.specs.declared.causes.NoWhy.{NoWhy}
use Rattle.gcu_output.specs.declared.outcomes.Outcome.{Outcome}
use Rattle.gcu_output.specs.declared.outcomes.Outcome.TheVariants.{BadPlan, PlanRejected}
use Rattle.gcu_requests.specs.PlanCheckAsked.{IsAccepted, IsPlanIn}
use Rattle.gcu_requests.specs.Request.{Request}

-- what holds of the texts of plans, and of plans
pub record PlanLaws : Type 0 where
  pub plan : (text : List ℕ) (ms ns : List Move) → IsPlanText text ms → IsPlanText text ns → ms ≡ ns
  pub good : (text : List ℕ) (ms : List Move) (line : ℕ) → IsPlanText text ms → ¬ texts.IsFirstFault text line
  pub line_is : (text : List ℕ) (line other : ℕ) → texts.IsFirstFault text line → texts.IsFirstFault text other
      → line ≡ other
  pub accepted : (ctx : Ctx) (start goal : Config) (ms : List Move) (step : ℕ) (why : NoWhy)
      → IsPlan (rulebook ctx) start goal ms
      → ¬ IsFirstFault (rulebook ctx) start goal ms step why
  pub fault_is : (ctx : Ctx) (start goal : Config) (ms : List Move) (step other : ℕ) (why also : NoWhy)
      → IsFirstFault (rulebook ctx) start goal ms step why
      → IsFirstFault (rulebook ctx) start goal ms other also → (step ≡ other) × (why ≡ also)

module _ (laws : PlanLaws) where
  pub plan_same : (path bytes : List ℕ) (r q : Result (List Move) Outcome) → IsPlanIn path bytes r
      → IsPlanIn path bytes q → r ≡ q
  plan_same path bytes (Ok ms) (Ok ns) h k = ap (λ (x : List Move). Ok x) (laws.plan bytes ms ns h k)
  plan_same path bytes (Ok ms) (Err f) h k = absurd (laws.good bytes ms k.0 h k.1)
  plan_same path bytes (Err e) (Ok ns) h k = absurd (laws.good bytes ns h.0 k h.1)
  plan_same path bytes (Err e) (Err f) h k =
      ap (λ (o : Outcome). Err o) (h.2 ∙ ap (λ (l : ℕ). BadPlan path l) (laws.line_is bytes h.0 k.0 h.1 k.1) ∙ sym k.2)

  module _ (ctx : Ctx) (start goal : Config) (ms : List Move) where
    pub accepted_same : (r q : Result Request Outcome) → IsAccepted ctx start goal ms r → IsAccepted ctx start goal ms q
        → r ≡ q
    accepted_same (Ok a) (Ok b) h k = ap (λ (x : Request). Ok x) (h.1 ∙ sym k.1)
    accepted_same (Ok a) (Err f) h k = absurd (laws.accepted ctx start goal ms k.0 k.1 h.0 k.2)
    accepted_same (Err e) (Ok b) h k = absurd (laws.accepted ctx start goal ms h.0 h.1 k.0 h.2)
    accepted_same (Err e) (Err f) h k =
        let same = laws.fault_is ctx start goal ms h.0 k.0 h.1 k.1 h.2 k.2 in
        ap (λ (o : Outcome). Err o) (h.3 ∙ (λ i. PlanRejected (same.0 i) (same.1 i)) ∙ sym k.3)
