-- How what the parts of a command that plans find makes what it says.
use Rattle.std.proofs.Common.{◌≡◌, ◌⊎◌, inl, inr, ℕ, Global, List, Vec, sym, ap, subst, Option, Some, None, Result, Ok, Err, IfErr, IfOk}
use Rattle.host_core.specs.Answers.{Gives, map_ok}
use Rattle.host_core.specs.State.{State}
use Rattle.conf_doc.specs.declared.configuration.Config.{Config}
use Rattle.conf_store.specs.declared.loaded.Stored.{Stored}
use Rattle.move_core.specs.declared.contexts.Ctx.{Ctx}
use Rattle.patch_core.specs.Operation.{operations}
use Rattle.patch_core.specs.declared.patches.Patch.{Patch as Operations}
use Rattle.gcu_words.specs.Targets.{Target, patched}
use Rattle.gcu_words.specs.Views.{target_from}
use Rattle.gcu_words.specs.declared.targets.Source.{Source}
use Rattle.gcu_words.specs.declared.targets.Source.TheVariants.{Patch, File, Checkpoint, Intent}
use Rattle.gcu_output.specs.declared.outcomes.Outcome.{Outcome}
use Rattle.gcu_output.specs.declared.outcomes.Outcome.TheVariants.{CurrentInvalid, TargetInvalid}
use Rattle.gcu_inputs.specs.Asking.{follows_by}
use Rattle.gcu_inputs.specs.IntentAsked.{gate_asked, intended_answer, intent_asked, interrupted, uninterrupted}
use Rattle.gcu_inputs.specs.ModelFiles.{bytes_asked}
use Rattle.gcu_inputs.specs.PatchAsked.{patch_asked, target}
use Rattle.gcu_inputs.specs.Preparing.{Finds, Found, IsRightBy, RefusesAlways, refusal}
use Rattle.gcu_inputs.specs.RulesAsked.{ctx_asked}
use Rattle.gcu_inputs.specs.StoredAsked.{stored_asked}
use Rattle.gcu_requests.specs.FileAsked.{config_found, file_asked, file_limit}
use Rattle.gcu_requests.specs.PlanAsked.{HasKeys, IsElsewhereAs, IsValidOr, goal_asked, judged_asked, made_asked, needs_asked, planning_asked, start_asked}
use Rattle.gcu_requests.specs.ReadPlannings.{IsHeld, planning_of}
use Rattle.gcu_requests.specs.Request as request
use Rattle.gcu_requests.specs.declared.planning.Planning as code
use Rattle.gcu_inputs.proofs.Finding.{first_refused, found_always, found_told, then_found}
use Rattle.gcu_requests.proofs.IntentFinding.{intent_found, items_in}

abbrev self : {X : Type 0} → X → X
self x = x

abbrev Held : Type 0
Held = Option (Vec ℕ Global)

-- the configuration of what was loaded
abbrev pub config_of : Stored → Config
config_of what = what.config

-- ---- the start

-- the folder stands for no configuration
pub no_start : (o : Option State) (ctx : Ctx) (e : Outcome) → Finds {X = Stored} o config_of (Err e) stored_asked
    → Finds {X = Stored} o config_of (Err e) (start_asked ctx)
no_start None ctx e h = tt
no_start (Some s) ctx e h = first_refused config_of config_of e (stored_asked s) _ h

-- the stored configuration is judged
pub start_found : (o : Option State) (ctx : Ctx) (what : Stored) (r : Result Stored Outcome)
    → Finds o config_of (Ok what) stored_asked
    → IsRightBy config_of r (IsValidOr CurrentInvalid ctx what.config) → IfErr r RefusesAlways
    → Finds o config_of r (start_asked ctx)
start_found None ctx what r h told always = tt
start_found (Some s) ctx what r h told always =
    then_found config_of config_of what r (stored_asked s) _ h
    (found_told config_of r (IsValidOr CurrentInvalid ctx what.config) told always)

-- ---- the goal

-- there is no patch
pub no_made : (o : Option State) (path : List ℕ) (start : Config) (e : Outcome)
    → Finds {X = Operations} o operations (Err e) (patch_asked path)
    → Finds {X = Config} o self (Err e) (made_asked (patched path) start)
no_made None path start e h = tt
no_made (Some s) path start e h = first_refused operations self e (patch_asked path s) _ h

-- what the patch makes of the start
pub made_found : (o : Option State) (path : List ℕ) (start : Config) (patch : Operations) (r : Result Config Outcome)
    → Finds o operations (Ok patch) (patch_asked path) → Gives self refusal r (target (operations patch) start)
    → IfErr r RefusesAlways
    → Finds o self r (made_asked (patched path) start)
made_found None path start patch r h gives always = tt
made_found (Some s) path start patch r h gives always =
    then_found operations self patch r (patch_asked path s) _ h
    (found_always self r (target (operations patch) start) _ (λ q same. same) gives always)

-- there is no file
pub no_file : (o : Option State) (path : List ℕ) (e : Outcome)
    → Finds {X = List ℕ} o self (Err e) (bytes_asked path file_limit)
    → Finds {X = Config} o self (Err e) (file_asked path)
no_file None path e h = tt
no_file (Some s) path e h = first_refused self self e (bytes_asked path file_limit s) _ h

-- what the file holds
pub file_found : (o : Option State) (path bytes : List ℕ) (r : Result Config Outcome)
    → Finds o self (Ok bytes) (bytes_asked path file_limit)
    → Gives self refusal r (config_found path bytes) → IfErr r RefusesAlways → Finds o self r (file_asked path)
file_found None path bytes r h gives always = tt
file_found (Some s) path bytes r h gives always =
    then_found self self bytes r (bytes_asked path file_limit s) _ h
    (found_always self r (config_found path bytes) _ (λ q same. same) gives always)

module _ (o : Option State) (from : Target) (ctx : Ctx) (start : Config) where
  -- nothing is made
  pub no_goal : (e : Outcome) → Finds {X = Config} o self (Err e) (made_asked from start)
      → Finds {X = Config} o self (Err e) (goal_asked from ctx start)
  no_goal e h = by o h
    where
      by : (p : Option State) → Finds {X = Config} p self (Err e) (made_asked from start)
          → Finds {X = Config} p self (Err e) (goal_asked from ctx start)
      by None h = tt
      by (Some s) h = first_refused self self e (made_asked from start s) _ h

-- a table without a model differs
pub goal_elsewhere : (ctx : Ctx) (start goal : Config) (e : Outcome)
    → IsRightBy {X = Unit {0}} self (Err e) (IsElsewhereAs ctx start goal) → RefusesAlways e
    → Found {X = Config} self (Err e) (judged_asked ctx start goal)
goal_elsewhere ctx start goal e told always =
    first_refused {X = Unit {0}} self self e (follows_by (IsElsewhereAs ctx start goal)) _
    (found_told {X = Unit {0}} self (Err e) (IsElsewhereAs ctx start goal) told always)

-- a table with a model has no keys
pub goal_empty : (ctx : Ctx) (start goal : Config) (u : Unit {0}) (e : Outcome)
    → IsRightBy self (Ok u) (IsElsewhereAs ctx start goal)
    → IsRightBy {X = Unit {0}} self (Err e) (HasKeys ctx goal) → RefusesAlways e
    → Found {X = Config} self (Err e) (judged_asked ctx start goal)
goal_empty ctx start goal u e same told always =
    then_found self self u (Err e) (follows_by (IsElsewhereAs ctx start goal)) _
    (found_told self (Ok u) (IsElsewhereAs ctx start goal) same tt)
    (first_refused {X = Unit {0}} self self e (follows_by (HasKeys ctx goal)) _
    (found_told {X = Unit {0}} self (Err e) (HasKeys ctx goal) told always))

-- it is judged
pub goal_judged : (ctx : Ctx) (start goal : Config) (u v : Unit {0}) (r : Result Config Outcome)
    → IsRightBy self (Ok u) (IsElsewhereAs ctx start goal) → IsRightBy self (Ok v) (HasKeys ctx goal)
    → IsRightBy self r (IsValidOr TargetInvalid ctx goal) → IfErr r RefusesAlways
    → Found self r (judged_asked ctx start goal)
goal_judged ctx start goal u v r same keys told always =
    then_found self self u r (follows_by (IsElsewhereAs ctx start goal)) _
    (found_told self (Ok u) (IsElsewhereAs ctx start goal) same tt)
    (then_found self self v r (follows_by (HasKeys ctx goal)) _ (found_told self (Ok v) (HasKeys ctx goal) keys tt)
    (found_told self r (IsValidOr TargetInvalid ctx goal) told always))

-- what is made is judged
pub goal_found : (o : Option State) (from : Target) (ctx : Ctx) (start goal : Config) (r : Result Config Outcome)
    → Finds o self (Ok goal) (made_asked from start)
    → Found self r (judged_asked ctx start goal) → Finds o self r (goal_asked from ctx start)
goal_found None from ctx start goal r h judged = tt
goal_found (Some s) from ctx start goal r h judged = then_found self self goal r (made_asked from start s) _ h judged

-- ---- all of it

-- there is nothing to judge by
pub no_plan_ctx : (o : Option State) (from : Target) (budget : ℕ) (e : Outcome)
    → Finds {X = Ctx} o self (Err e) ctx_asked
    → Finds o planning_of (Err e) (needs_asked from budget)
no_plan_ctx None from budget e h = tt
no_plan_ctx (Some s) from budget e h = first_refused self planning_of e (ctx_asked s) _ h

-- there is no start
pub no_plan_start : (o : Option State) (from : Target) (budget : ℕ) (ctx : Ctx) (e : Outcome)
    → Finds o self (Ok ctx) ctx_asked
    → Finds {X = Stored} o config_of (Err e) (start_asked ctx) → Finds o planning_of (Err e) (needs_asked from budget)
no_plan_start None from budget ctx e h f = tt
no_plan_start (Some s) from budget ctx e h f =
    then_found self planning_of ctx (Err e) (ctx_asked s) _ h
    (first_refused config_of planning_of e (start_asked ctx s) _ f)

-- there is no goal
pub no_plan_goal : (o : Option State) (from : Target) (budget : ℕ) (ctx : Ctx) (start : Stored) (e : Outcome)
    → Finds o self (Ok ctx) ctx_asked
    → Finds o config_of (Ok start) (start_asked ctx)
    → Finds {X = Config} o self (Err e) (goal_asked from ctx start.config)
    → Finds o planning_of (Err e) (needs_asked from budget)
no_plan_goal None from budget ctx start e h f g = tt
no_plan_goal (Some s) from budget ctx start e h f g =
    then_found self planning_of ctx (Err e) (ctx_asked s) _ h
    (then_found config_of planning_of start (Err e) (start_asked ctx s) _ f
    (first_refused self planning_of e (goal_asked from ctx start.config s) _ g))

abbrev planned : code.Planning → ℕ → request.Planning
planned p n = record { ctx = p.ctx; start = p.stored.config; goal = p.goal; budget = n }

-- there is all that a plan needs
pub planning_found : (o : Option State) (from : Target) (budget : ℕ) (p : code.Planning) → p.budget ≡ budget
    → Finds o self (Ok p.ctx) ctx_asked
    → Finds o config_of (Ok p.stored) (start_asked p.ctx)
    → Finds o self (Ok p.goal) (goal_asked from p.ctx p.stored.config)
    → Finds o planning_of (Ok p) (needs_asked from budget)
planning_found None from budget p same h f g = tt
planning_found (Some s) from budget p same h f g =
    then_found self planning_of p.ctx (Ok p) (ctx_asked s) _ h
    (then_found config_of planning_of p.stored (Ok p) (start_asked p.ctx s) _ f
    (then_found self planning_of p.goal (Ok p) (goal_asked from p.ctx p.stored.config s) _ g
    (record {
      gives = ap (λ (n : ℕ). Ok (planned p n)) (sym same);
      stands = tt;
    })))

-- ---- behind the gate

abbrev passed : {X : Type 0} → X → Unit {0}
passed x = tt

module _ (o : Option State) (from : Target) (budget : ℕ) where
  -- it is closed
  pub gate_closed : (e : Outcome) → Finds {X = Held} o passed (Err e) (gate_asked from)
      → Finds {X = code.Planning} o planning_of (Err e) (planning_asked from budget)
  gate_closed e h = by o h
    where
      by : (p : Option State) → Finds {X = Held} p passed (Err e) (gate_asked from)
          → Finds {X = code.Planning} p planning_of (Err e) (planning_asked from budget)
      by None h = tt
      by (Some s) h = first_refused {X = Held} passed planning_of e (gate_asked from s) _ h

  -- it is open
  pub gate_open : (held : Held) (r : Result code.Planning Outcome) → Finds o passed (Ok held) (gate_asked from)
      → Finds o planning_of r (needs_asked from budget)
      → Finds o planning_of r (planning_asked from budget)
  gate_open held r h f = by o h f
    where
      by : (p : Option State) → Finds p passed (Ok held) (gate_asked from)
          → Finds p planning_of r (needs_asked from budget) → Finds p planning_of r (planning_asked from budget)
      by None h f = tt
      by (Some s) h f = then_found passed planning_of held r (gate_asked from s) _ h f

-- no change is under way
pub gate_passed : (o : Option State) (r : Result (Unit {0}) Outcome) (q : Result Held Outcome) → map_ok passed q ≡ r
    → Finds o self r uninterrupted → Finds o passed q uninterrupted
gate_passed None r q same h = tt
gate_passed (Some s) r (Ok held) same h =
    let at = subst (λ x. Found self x (uninterrupted s)) (sym same) h in record { gives = at.gives; stands = tt }
gate_passed (Some s) r (Err e) same h =
    let at = subst (λ x. Found self x (uninterrupted s)) (sym same) h in record { gives = at.gives; stands = at.stands }

-- the target isn't the change that was stopped
abbrev pub IsOther : Source → Type 0
IsOther source = (source ≡ Patch) ⊎ ((source ≡ File) ⊎ (source ≡ Checkpoint))

module _ (o : Option State) (word : List ℕ) where
  pub gate_other : (source : Source) (q : Result Held Outcome) → IsOther source → Finds o passed q uninterrupted
      → Finds o passed q (gate_asked (target_from source word))
  gate_other Patch q is h = h
  gate_other File q is h = h
  gate_other Checkpoint q is h = h
  gate_other Intent q (inl is) h = absurd cc
  gate_other Intent q (inr (inl is)) h = absurd cc
  gate_other Intent q (inr (inr is)) h = absurd cc

  none_held : (source : Source) (held : Held) → IsOther source → IsHeld (target_from source word) o held
  none_held Patch held is = tt
  none_held File held is = tt
  none_held Checkpoint held is = tt
  none_held Intent held (inl is) = absurd cc
  none_held Intent held (inr (inl is)) = absurd cc
  none_held Intent held (inr (inr is)) = absurd cc

  pub other_held : (source : Source) (q : Result Held Outcome) → IsOther source
      → IfOk q (IsHeld (target_from source word) o)
  other_held source (Ok held) is = none_held source held is
  other_held source (Err e) is = tt

  -- it is
  pub gate_intent : (source : Source) (q : Result Held Outcome) → source ≡ Intent → Finds o passed q interrupted
      → Finds o passed q (gate_asked (target_from source word))
  gate_intent Intent q is h = h
  gate_intent Patch q is h = absurd cc
  gate_intent File q is h = absurd cc
  gate_intent Checkpoint q is h = absurd cc

  pub intent_held : (source : Source) (q : Result Held Outcome) → source ≡ Intent
      → IfOk q (λ found. Finds o items_in (Ok found) intent_asked)
      → IfOk q (IsHeld (target_from source word) o)
  intent_held Intent (Ok found) is h = h
  intent_held Intent (Err e) is h = tt
  intent_held Patch q is h = absurd cc
  intent_held File q is h = absurd cc
  intent_held Checkpoint q is h = absurd cc

  -- its goal
  pub held_found : (source : Source) (held : Held) (start : Config) (r : Result Config Outcome) → source ≡ Intent
      → IsHeld (target_from source word) o held
      → Gives self refusal r (intended_answer (items_in held)) → IfErr r RefusesAlways
      → Finds o self r (made_asked (target_from source word) start)
  held_found Intent held start r is h gives always = intent_found self o held r intended_answer h gives always
  held_found Patch held start r is h gives always = absurd cc
  held_found File held start r is h gives always = absurd cc
  held_found Checkpoint held start r is h gives always = absurd cc
