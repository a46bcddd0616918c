-- How what the parts of a demonstration find makes what it says.
use Rattle.std.proofs.Common.{◌≡◌, ℕ, sym, ap, subst, Option, Some, None, Result, Ok, Err}
use Rattle.host_core.specs.State.{State}
use Rattle.conf_doc.specs.declared.configuration.Config.{Config}
use Rattle.gcu_demo.specs.Demo as generated
use Rattle.move_core.specs.declared.contexts.Ctx.{Ctx}
use Rattle.gcu_words.specs.Options.{default_budget}
use Rattle.gcu_output.specs.declared.outcomes.Outcome.{Outcome}
use Rattle.gcu_output.specs.declared.outcomes.Outcome.TheVariants.{CurrentInvalid}
use Rattle.gcu_inputs.specs.Asking.{follows_by}
use Rattle.gcu_inputs.specs.Preparing.{Finds, Found, IsRightBy}
use Rattle.gcu_inputs.specs.RulesAsked.{ctx_asked}
use Rattle.gcu_requests.specs.DemoAsked.{generating_asked, generated_asked}
use Rattle.gcu_requests.specs.PlanAsked.{IsValidOr, judged_asked}
use Rattle.gcu_requests.specs.ReadPlannings.{planning_of}
use Rattle.gcu_requests.specs.Request as request
use Rattle.gcu_requests.specs.declared.planning.Planning as code
use Rattle.gcu_inputs.proofs.Finding.{first_refused, found_told, then_found}

abbrev self : {X : Type 0} → X → X
self x = x

-- ---- what is generated

module _ (seed ports : ℕ) (ctx : Ctx) (made : Config × Config)
    (is : made ≡ (generated.start seed ports, generated.goal seed ports)) where
  start_valid : (config : Config) → IsRightBy self (Ok config) (IsValidOr CurrentInvalid ctx made.0)
      → Found self (Ok config) (follows_by (IsValidOr CurrentInvalid ctx (generated.start seed ports)))
  start_valid config valid =
      found_told self (Ok config) (IsValidOr CurrentInvalid ctx (generated.start seed ports))
      (subst (λ (p : Config × Config). IsRightBy self (Ok config) (IsValidOr CurrentInvalid ctx p.0)) is valid) tt

  -- the goal is refused
  pub no_generated_goal : (config : Config) (e : Outcome)
      → IsRightBy self (Ok config) (IsValidOr CurrentInvalid ctx made.0)
      → Found {X = Config} self (Err e) (judged_asked ctx config made.1)
      → Found {X = code.Planning} planning_of (Err e) (generated_asked seed ports ctx)
  no_generated_goal config e valid h =
      then_found self planning_of config (Err e)
      (follows_by (IsValidOr CurrentInvalid ctx (generated.start seed ports))) _ (start_valid config valid)
      (first_refused self planning_of e (judged_asked ctx config (generated.goal seed ports)) _
      (subst (λ (p : Config × Config). Found {X = Config} self (Err e) (judged_asked ctx config p.1)) is h))

abbrev planned : code.Planning → ℕ → request.Planning
planned p n = record { ctx = p.ctx; start = p.stored.config; goal = p.goal; budget = n }

-- a plan may go from the one to the other
pub generated_found : (seed ports : ℕ) (made : Config × Config) (p : code.Planning)
    → made ≡ (generated.start seed ports, generated.goal seed ports)
    → p.budget ≡ default_budget → IsRightBy self (Ok p.stored.config) (IsValidOr CurrentInvalid p.ctx made.0)
    → Found self (Ok p.goal) (judged_asked p.ctx p.stored.config made.1)
    → Found planning_of (Ok p) (generated_asked seed ports p.ctx)
generated_found seed ports made p is same valid h =
    then_found self planning_of p.stored.config (Ok p)
    (follows_by (IsValidOr CurrentInvalid p.ctx (generated.start seed ports))) _
    (start_valid seed ports p.ctx made is p.stored.config valid)
    (then_found self planning_of p.goal (Ok p) (judged_asked p.ctx p.stored.config (generated.goal seed ports)) _
    (subst (λ (q : Config × Config). Found self (Ok p.goal) (judged_asked p.ctx p.stored.config q.1)) is h)
    (record {
      gives = ap (λ (n : ℕ). Ok (planned p n)) (sym same);
      stands = tt;
    }))

-- ---- all of it

-- there is nothing to judge by
pub no_demo_ctx : (o : Option State) (seed ports : ℕ) (e : Outcome) → Finds {X = Ctx} o self (Err e) ctx_asked
    → Finds {X = code.Planning} o planning_of (Err e) (generating_asked seed ports)
no_demo_ctx None seed ports e h = tt
no_demo_ctx (Some s) seed ports e h = first_refused self planning_of e (ctx_asked s) _ h

-- there is what is generated
pub demo_found : (o : Option State) (seed ports : ℕ) (ctx : Ctx) (r : Result code.Planning Outcome)
    → Finds o self (Ok ctx) ctx_asked
    → Found planning_of r (generated_asked seed ports ctx) → Finds o planning_of r (generating_asked seed ports)
demo_found None seed ports ctx r h f = tt
demo_found (Some s) seed ports ctx r h f = then_found self planning_of ctx r (ctx_asked s) _ h f
