-- How what is found for the check of a plan makes what it says.
use Rattle.std.proofs.Common.{◌≡◌, ◌≤◌, ◌<◌, ℕ, suc, List, [], ◌∷◌, ◌++◌, length, inl, inr, ap, arith, length-append, Option, Some, None, Result, Ok, Err, IfErr}
use Rattle.host_core.specs.State.{State}
use Rattle.conf_doc.specs.Texts.{compact, line_feed}
use Rattle.conf_doc.specs.declared.configuration.Config.{Config}
use Rattle.conf_store.specs.declared.loaded.Stored.{Stored}
use Rattle.patch_core.specs.Writing.{operation_document}
use Rattle.move_core.specs.Operations.{count_line, number_text, op, plan_line, plan_lines, plan_text}
use Rattle.move_core.specs.declared.contexts.Ctx.{Ctx}
use Rattle.move_core.specs.declared.moves.Move.{Move}
use Rattle.plan_check.specs.Checks.{most_steps}
use Rattle.gcu_words.specs.Targets.{patched}
use Rattle.plan_texts.specs.PlanTexts.{IsPlanText, done_line, most_bytes}
use Rattle.gcu_output.specs.declared.outcomes.Outcome.{Outcome}
use Rattle.gcu_inputs.specs.ModelFiles.{bytes_asked}
use Rattle.gcu_inputs.specs.Preparing.{Finds, IsRightBy, RefusesAlways}
use Rattle.gcu_inputs.specs.RulesAsked.{ctx_asked}
use Rattle.gcu_requests.specs.PlanAsked.{goal_asked, start_asked}
use Rattle.gcu_requests.specs.PlanCheckAsked.{IsAccepted, IsPlanIn, checking_asked, moves_asked}
use Rattle.gcu_requests.specs.Request.{accept_plan}
use Rattle.gcu_inputs.proofs.Finding.{first_refused, found_told, then_found}
use Rattle.gcu_requests.proofs.PlanFinding.{config_of}

abbrev self : {X : Type 0} → X → X
self x = x

-- ---- the plan

-- there are no bytes
pub no_bytes : (o : Option State) (path : List ℕ) (e : Outcome)
    → Finds {X = List ℕ} o self (Err e) (bytes_asked path most_bytes)
    → Finds {X = List Move} o self (Err e) (moves_asked path)
no_bytes None path e h = tt
no_bytes (Some s) path e h = first_refused self self e (bytes_asked path most_bytes s) _ h

-- what the bytes hold
pub moves_found : (o : Option State) (path bytes : List ℕ) (r : Result (List Move) Outcome)
    → Finds o self (Ok bytes) (bytes_asked path most_bytes)
    → IsRightBy self r (IsPlanIn path bytes) → IfErr r RefusesAlways → Finds o self r (moves_asked path)
moves_found None path bytes r h told always = tt
moves_found (Some s) path bytes r h told always =
    then_found self self bytes r (bytes_asked path most_bytes s) _ h
    (found_told self r (IsPlanIn path bytes) told always)

-- ---- the check

module _ (patch plan : List ℕ) where
  -- there is nothing to judge by
  pub no_check_ctx : (o : Option State) (e : Outcome) → Finds {X = Ctx} o self (Err e) ctx_asked
      → Finds {X = ℕ} o accept_plan (Err e) (checking_asked patch plan)
  no_check_ctx None e h = tt
  no_check_ctx (Some s) e h = first_refused self accept_plan e (ctx_asked s) _ h

  -- there is no start
  pub no_check_start : (o : Option State) (ctx : Ctx) (e : Outcome) → Finds o self (Ok ctx) ctx_asked
      → Finds {X = Stored} o config_of (Err e) (start_asked ctx)
      → Finds {X = ℕ} o accept_plan (Err e) (checking_asked patch plan)
  no_check_start None ctx e h f = tt
  no_check_start (Some s) ctx e h f =
      then_found self accept_plan ctx (Err e) (ctx_asked s) _ h
      (first_refused config_of accept_plan e (start_asked ctx s) _ f)

  module _ (ctx : Ctx) (start : Stored) where
    -- there is no goal
    pub no_check_goal : (o : Option State) (e : Outcome) → Finds o self (Ok ctx) ctx_asked
        → Finds o config_of (Ok start) (start_asked ctx)
        → Finds {X = Config} o self (Err e) (goal_asked (patched patch) ctx start.config)
        → Finds {X = ℕ} o accept_plan (Err e) (checking_asked patch plan)
    no_check_goal None e h f g = tt
    no_check_goal (Some s) e h f g =
        then_found self accept_plan ctx (Err e) (ctx_asked s) _ h
        (then_found config_of accept_plan start (Err e) (start_asked ctx s) _ f
        (first_refused self accept_plan e (goal_asked (patched patch) ctx start.config s) _ g))

    -- there are no moves
    pub no_moves : (o : Option State) (goal : Config) (e : Outcome) → Finds o self (Ok ctx) ctx_asked
        → Finds o config_of (Ok start) (start_asked ctx)
        → Finds o self (Ok goal) (goal_asked (patched patch) ctx start.config)
        → Finds {X = List Move} o self (Err e) (moves_asked plan)
        → Finds {X = ℕ} o accept_plan (Err e) (checking_asked patch plan)
    no_moves None goal e h f g m = tt
    no_moves (Some s) goal e h f g m =
        then_found self accept_plan ctx (Err e) (ctx_asked s) _ h
        (then_found config_of accept_plan start (Err e) (start_asked ctx s) _ f
        (then_found self accept_plan goal (Err e) (goal_asked (patched patch) ctx start.config s) _ g
        (first_refused self accept_plan e (moves_asked plan s) _ m)))

    -- they are judged
    pub moves_judged : (o : Option State) (goal : Config) (ms : List Move) (r : Result ℕ Outcome)
        → Finds o self (Ok ctx) ctx_asked
        → Finds o config_of (Ok start) (start_asked ctx)
        → Finds o self (Ok goal) (goal_asked (patched patch) ctx start.config)
        → Finds o self (Ok ms) (moves_asked plan) → IsRightBy accept_plan r (IsAccepted ctx start.config goal ms)
        → IfErr r RefusesAlways
        → Finds o accept_plan r (checking_asked patch plan)
    moves_judged None goal ms r h f g m told always = tt
    moves_judged (Some s) goal ms r h f g m told always =
        then_found self accept_plan ctx r (ctx_asked s) _ h
        (then_found config_of accept_plan start r (start_asked ctx s) _ f
        (then_found self accept_plan goal r (goal_asked (patched patch) ctx start.config s) _ g
        (then_found self accept_plan ms r (moves_asked plan s) _ m
        (found_told accept_plan r (IsAccepted ctx start.config goal ms) told always))))

-- ---- how many moves there are

-- each has a line
lines_long : (i : ℕ) (ms : List Move) → length ms ≤ length (plan_lines i ms)
lines_long i [] = omega arith
lines_long i (m ∷ ms) =
    let rest = lines_long (suc i) ms in
    let both = length-append (plan_line i m) (plan_lines (suc i) ms) in
    let one = length-append (number_text i ++ compact (operation_document (op m))) line_feed in
    omega (arith, rest, both, one)

text_long : (ms : List Move) → length ms ≤ length (plan_text ms)
text_long ms =
    let both = length-append (count_line (length ms)) (plan_lines 1 ms) in
    let rest = lines_long 1 ms in
    omega (arith, both, rest)

-- so many bytes have few moves
pub few_moves : (bytes : List ℕ) (ms : List Move) → length bytes ≤ most_bytes → IsPlanText bytes ms
    → length ms < most_steps
few_moves bytes ms few is =
    let long = text_long ms in
    elim is.written [
      | inl all ↦ let same : length bytes ≡ length (plan_text ms) =
          ap (λ (bs : List ℕ). length bs) all in omega (arith, few, long, same)
      | inr done ↦
          let same : length bytes ≡ length (plan_text ms ++ done_line) = ap (λ (bs : List ℕ). length bs) done in
          let both = length-append (plan_text ms) done_line in
          omega (arith, few, long, same, both)
    ]
