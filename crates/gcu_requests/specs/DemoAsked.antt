-- `demo SEED N`: what a plan between two generated configurations asks. Of the folder only the file of a change
-- under way is looked for.
use Rattle.std.specs.Prelude.{ℕ, Ok}
use Rattle.host_core.specs.State.{State}
use Rattle.move_core.specs.declared.contexts.Ctx.{Ctx}
use Rattle.gcu_words.specs.Options.{default_budget}
use Rattle.gcu_demo.specs.Demo as generated
use Rattle.gcu_output.specs.declared.outcomes.Outcome.TheVariants.{CurrentInvalid}
use Rattle.gcu_inputs.specs.Asking.{Asking, follows, follows_by, ◌>>>◌}
use Rattle.gcu_inputs.specs.IntentAsked.{uninterrupted}
use Rattle.gcu_inputs.specs.RulesAsked.{ctx_asked}
use Rattle.gcu_requests.specs.PlanAsked.{IsValidOr, judged_asked}
use Rattle.gcu_requests.specs.Request.{Planning, Request, demo}

-- from the generated start to the generated goal, where a plan may go so
abbrev pub generated_asked : (seed ports : ℕ) → Ctx → Asking Planning
generated_asked seed ports ctx =
    follows_by (IsValidOr CurrentInvalid ctx (generated.start seed ports)) >>> λ start.
    judged_asked ctx start (generated.goal seed ports) >>> λ goal.
    follows (Ok (record { ctx = ctx; start = start; goal = goal; budget = default_budget }))

-- what such a plan needs: the models and the rules are read first
abbrev pub generating_asked : (seed ports : ℕ) → State → Asking Planning
generating_asked seed ports s = ctx_asked s >>> λ ctx. generated_asked seed ports ctx

-- the same, where no change is under way
abbrev pub demo_planning_asked : (seed ports : ℕ) → State → Asking Planning
demo_planning_asked seed ports s = uninterrupted s >>> λ _. generating_asked seed ports s

-- its moves are to be counted
abbrev pub demo_asked : (seed ports : ℕ) → State → Asking Request
demo_asked seed ports s =
    demo_planning_asked seed ports s >>> λ p. follows (Ok (demo p ports))
