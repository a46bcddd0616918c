-- What the plans of several scopes need, found scope after scope.
use Rattle.std.proofs.Common.{◌≡◌, inl, inr, ℕ, List, [], ◌∷◌, ◌++◌, refl, sym, subst, Option, Some, None, Result, Ok, Err, IfOk, IfSome, option_map}
use Rattle.std.specs.List.{AllPass}
use Rattle.host_core.specs.Answers.{Gives}
use Rattle.host_core.specs.Counts.{Counts}
use Rattle.host_core.specs.State.{State}
use Rattle.conf_doc.specs.declared.configuration.Config.{Config}
use Rattle.conf_doc.specs.WellFormed.{IsConfig}
use Rattle.conf_store.specs.Files.{is_step_name}
use Rattle.conf_store.specs.Folds.{StandsFor}
use Rattle.conf_store.specs.declared.loaded.Stored.{Stored}
use Rattle.move_core.specs.Contexts.{AgreeElsewhere, IsNamed, IsValidIn}
use Rattle.move_core.specs.declared.contexts.Ctx.{Ctx}
use Rattle.patch_core.specs.Operation.{Operation}
use Rattle.scopes.specs.Splitting.{Part}
use Rattle.scopes.specs.Views.{seen, seen_files}
use Rattle.scopes.specs.declared.scope.Scope.{Scope}
use Rattle.gcu_output.specs.declared.outcomes.Outcome.{Outcome}
use Rattle.gcu_output.specs.declared.outcomes.Outcome.TheVariants.{Done, Memory, Usage, InputFault, DiskFault, PrintFault, ServiceFault, Unorderable, Budget}
use Rattle.gcu_inputs.specs.Asking.{Asking, follows}
use Rattle.gcu_inputs.specs.IntentAsked.{uninterrupted}
use Rattle.gcu_inputs.specs.PatchAsked.{target}
use Rattle.gcu_inputs.specs.Preparing.{Finds, Found, Refuses, RefusesAlways, refusal}
use Rattle.gcu_requests.specs.PlanAsked.{judged_asked, start_asked}
use Rattle.gcu_requests.specs.ScopesAsked.{part_asked, patched_asked, patched_ends, patched_goal, within}
use Rattle.gcu_requests.specs.ScopesPlannings.{AreReady, IsReadyBetween, IsRefusalOf, StandsInEach, plan_in, scope_planning}
use Rattle.gcu_requests.specs.declared.scopes_planning.Ends.{Ends}
use Rattle.gcu_requests.specs.declared.scopes_planning.ScopeEnds.{ScopeEnds}
use Rattle.gcu_inputs.proofs.Finding.{first_refused, found_always, then_found}

abbrev self : {X : Type 0} → X → X
self x = x

abbrev config_of : Stored → Config
config_of what = what.config

-- ---- one folder

module _ (ctx : Ctx) (budget : ℕ) (ops : List Operation) where
  -- the patch fails
  pub no_made : (start : Config) (e : Outcome) → Gives {X = Config} self refusal (Err e) (target ops start)
      → RefusesAlways e
      → Found {X = Ends} (plan_in ctx budget) (Err e) (patched_goal ctx budget ops start)
  no_made start e gives always =
      first_refused self (plan_in ctx budget) e (follows (target ops start)) _
      (found_always {X = Config} self (Err e) (target ops start) (follows (target ops start)) (λ q same. same) gives
      always)

  -- no plan may have what it makes for its goal
  pub no_judged : (start made : Config) (e : Outcome) → Gives self refusal (Ok made) (target ops start)
      → Found {X = Config} self (Err e) (judged_asked ctx start made)
      → Found {X = Ends} (plan_in ctx budget) (Err e) (patched_goal ctx budget ops start)
  no_judged start made e gives judged =
      then_found self (plan_in ctx budget) made (Err e) (follows (target ops start)) _
      (found_always self (Ok made) (target ops start) (follows (target ops start)) (λ q same. same) gives tt)
      (first_refused self (plan_in ctx budget) e (judged_asked ctx start made) _ judged)

  -- a plan may
  pub ends_made : (start made goal : Config) (ends : Ends) → ends.stored.config ≡ start → ends.goal ≡ goal
      → Gives self refusal (Ok made) (target ops start) → Found self (Ok goal) (judged_asked ctx start made)
      → Found (plan_in ctx budget) (Ok ends) (patched_goal ctx budget ops start)
  ends_made start made goal ends from to gives judged =
      then_found self (plan_in ctx budget) made (Ok ends) (follows (target ops start)) _
      (found_always self (Ok made) (target ops start) (follows (target ops start)) (λ q same. same) gives tt)
      (then_found self (plan_in ctx budget) goal (Ok ends) (judged_asked ctx start made) _ judged
      (record {
        gives = (λ i. Ok (record { ctx = ctx; start = sym from i; goal = sym to i; budget = budget }));
        stands = tt;
      }))

  -- there is no valid start
  pub no_start : (o : Option State) (e : Outcome) → Finds {X = Stored} o config_of (Err e) (start_asked ctx)
      → Finds {X = Ends} o (plan_in ctx budget) (Err e) (patched_ends ctx budget ops)
  no_start None e h = tt
  no_start (Some s) e h = first_refused config_of (plan_in ctx budget) e (start_asked ctx s) _ h

  -- what is found of a start
  pub ends_found : (o : Option State) (stored : Stored) (r : Result Ends Outcome)
      → Finds o config_of (Ok stored) (start_asked ctx)
      → Found (plan_in ctx budget) r (patched_goal ctx budget ops stored.config)
      → Finds o (plan_in ctx budget) r (patched_ends ctx budget ops)
  ends_found None stored r h f = tt
  ends_found (Some s) stored r h f = then_found config_of (plan_in ctx budget) stored r (start_asked ctx s) _ h f

  -- a change is under way
  pub no_ends : (o : Option State) (e : Outcome) → Finds {X = Unit {0}} o self (Err e) uninterrupted
      → Finds {X = Ends} o (plan_in ctx budget) (Err e) (patched_asked ctx budget ops)
  no_ends None e h = tt
  no_ends (Some s) e h = first_refused self (plan_in ctx budget) e (uninterrupted s) _ h

  -- what is found where none is
  pub ends_free : (o : Option State) (u : Unit {0}) (r : Result Ends Outcome) → Finds o self (Ok u) uninterrupted
      → Finds o (plan_in ctx budget) r (patched_ends ctx budget ops)
      → Finds o (plan_in ctx budget) r (patched_asked ctx budget ops)
  ends_free None u r h f = tt
  ends_free (Some s) u r h f = then_found self (plan_in ctx budget) u r (uninterrupted s) _ h f

-- ---- what a search asks

-- it may be made from a valid start to the goal that was judged
pub ends_ready : (ctx : Ctx) (stored : Stored) (r : Result Ends Outcome) → IsNamed ctx → IsConfig stored.config
    → AllPass is_step_name stored.steps
    → IsValidIn ctx stored.config → IfOk r (λ e. e.stored ≡ stored) → IfOk r (λ e. IsValidIn ctx e.goal)
    → IfOk r (λ e. AgreeElsewhere ctx e.stored.config e.goal) → IfOk r (IsReadyBetween ctx)
ends_ready ctx stored (Err e) named formed names start same goal elsewhere = tt
ends_ready ctx stored (Ok e) named formed names start same goal elsewhere = λ budget some. record {
  named = named;
  formed = subst (λ (what : Stored). IsConfig what.config) (sym same) formed;
  names = subst (λ (what : Stored). AllPass is_step_name what.steps) (sym same) names;
  start = subst (λ (what : Stored). IsValidIn ctx what.config) (sym same) start;
  goal = goal;
  elsewhere = elsewhere;
  budget = some;
}

-- and the files stand for the start
pub ends_stand : (o : Option State) (stored : Stored) (r : Result Ends Outcome)
    → IfSome o (λ s. StandsFor stored s.files)
    → IfOk r (λ e. e.stored ≡ stored) → IfOk r (λ e. IfSome o (λ s. StandsFor e.stored s.files))
ends_stand o stored (Err e) stands same = tt
ends_stand o stored (Ok e) stands same =
    subst (λ (what : Stored). IfSome o (λ s. StandsFor what s.files)) (sym same) stands

-- what is found in the folder that a scope shows
pub found_behind : {X Y : Type 0} (scope : Scope) (o : Option State) (view : X → Y) (r : Result X Outcome)
    (asking : State → Asking Y)
    → Finds (option_map (seen scope) o) view r asking → Finds o view r (λ s. asking (seen scope s))
found_behind scope None view r asking h = tt
found_behind scope (Some s) view r asking h = h

-- ---- one scope

-- a refusal that is told of a scope is one of the question to it
refused_within : {X Y Z : Type 0} (scope : Scope) (asking : Asking Y) (view : X → Y) (view' : Z → Y) (old new : Counts)
    (e r : Outcome)
    → Refuses old new e → IsRefusalOf scope e r → Found view (Err e) asking → Found view' (Err r) (within scope asking)
refused_within {X} {Y} {Z} scope asking view view' old new e r refuses told h = by e r refuses told h
  where
    told_as : (q : Outcome) → Outcome → Type 0
    told_as q f = Found {X = Z} view' (Err f) (within scope asking)

    by : (q f : Outcome) → Refuses old new q → IsRefusalOf scope q f → Found {X = X} view (Err q) asking → told_as q f
    by Done f never told found = absurd never
    by Usage f never told found = absurd never
    by (PrintFault step) f never told found = absurd never
    by (ServiceFault step service) f never told found = absurd never
    by Unorderable f never told found = absurd never
    by (Budget n) f never told found = absurd never
    by Memory f refuses told found = subst (told_as Memory) (sym told) (record { gives = tt; stands = tt })
    by InputFault f refuses told found =
        subst (told_as InputFault) (sym told) (record { gives = tt; stands = found.stands })
    by (DiskFault step) f refuses told found =
        subst (told_as (DiskFault step)) (sym told) (record { gives = tt; stands = found.stands })
    by other f refuses (inl told) found = subst (told_as other) (sym told) (record { gives = tt; stands = tt })
    by other f refuses (inr told) found =
        subst (told_as other) (sym told) (record { gives = (other, found.gives, refl); stands = tt })

-- it has its cause
pub refusal_refuses : (scope : Scope) (old new : Counts) (e r : Outcome) → Refuses old new e → IsRefusalOf scope e r
    → Refuses old new r
refusal_refuses scope old new Done r never told = absurd never
refusal_refuses scope old new Usage r never told = absurd never
refusal_refuses scope old new (PrintFault step) r never told = absurd never
refusal_refuses scope old new (ServiceFault step service) r never told = absurd never
refusal_refuses scope old new Unorderable r never told = absurd never
refusal_refuses scope old new (Budget n) r never told = absurd never
refusal_refuses scope old new Memory r refuses told = subst (Refuses old new) (sym told) tt
refusal_refuses scope old new InputFault r refuses told = subst (Refuses old new) (sym told) refuses
refusal_refuses scope old new (DiskFault step) r refuses told = subst (Refuses old new) (sym told) refuses
refusal_refuses scope old new other r refuses (inl told) = subst (Refuses old new) (sym told) tt
refusal_refuses scope old new other r refuses (inr told) = subst (Refuses old new) (sym told) tt

-- what is refused of a scope is refused by what its plan needs
pub part_refused : (scope : Scope) (part : Part) (ctx : Ctx) (budget : ℕ) (o : Option State) (old new : Counts)
    (e r : Outcome) → scope ≡ part.0
    → Refuses old new e → IsRefusalOf scope e r
    → Finds {X = Ends} o (plan_in ctx budget) (Err e) (λ s. patched_asked ctx budget part.1 (seen part.0 s))
    → Finds {X = ScopeEnds} o (scope_planning ctx budget) (Err r) (λ s. part_asked ctx budget s part)
part_refused scope part ctx budget None old new e r is refuses told h = tt
part_refused scope part ctx budget (Some s) old new e r is refuses told h =
    first_refused {X = Ends} (plan_in ctx budget) (scope_planning ctx budget) r
    (within part.0 (patched_asked ctx budget part.1 (seen part.0 s))) _
    (refused_within part.0 (patched_asked ctx budget part.1 (seen part.0 s)) (plan_in ctx budget) (plan_in ctx budget)
    old new e r
    refuses (subst (λ (sc : Scope). IsRefusalOf sc e r) is told) h)

-- what is found of it makes what its plan needs
pub part_found : (part : Part) (ctx : Ctx) (budget : ℕ) (o : Option State) (found : ScopeEnds) → found.scope ≡ part.0
    → Finds o (plan_in ctx budget) (Ok found.ends) (λ s. patched_asked ctx budget part.1 (seen part.0 s))
    → Finds o (scope_planning ctx budget) (Ok found) (λ s. part_asked ctx budget s part)
part_found part ctx budget None found is h = tt
part_found part ctx budget (Some s) found is h =
    record {
      gives = inr (plan_in ctx budget found.ends, h.gives, (λ i. Ok ((sym is i, plan_in ctx budget found.ends))));
      stands = tt;
    }

-- ---- scope after scope

-- one more is ready for a search
pub ready_more : (ctx : Ctx) (es all : List ScopeEnds) (e : ScopeEnds) → all ≡ es ++ e ∷ [] → AreReady ctx es
    → IsReadyBetween ctx e.ends → AreReady ctx all
ready_more ctx es all e longer ready here = subst (AreReady ctx) (sym longer) (by es ready)
  where
    by : (xs : List ScopeEnds) → AreReady ctx xs → AreReady ctx (xs ++ e ∷ [])
    by [] r = (here, tt)
    by (x ∷ xs) r = (r.0, by xs r.1)

one_stands : (s : State) (es : List ScopeEnds) (e : ScopeEnds) → StandsInEach es s
    → StandsFor e.ends.stored (seen_files e.scope s.files) → StandsInEach (es ++ e ∷ []) s
one_stands s [] e stands here = (here, tt)
one_stands s (x ∷ es) e stands here = (stands.0, one_stands s es e stands.1 here)

so_far_stands : (o : Option State) (es : List ScopeEnds) (e : ScopeEnds) → IfSome o (StandsInEach es)
    → IfSome o (λ s. StandsFor e.ends.stored (seen_files e.scope s.files)) → IfSome o (StandsInEach (es ++ e ∷ []))
so_far_stands None es e stands here = tt
so_far_stands (Some s) es e stands here = one_stands s es e stands here

-- and is what its files stand for
pub stands_more : (o q : Option State) (es all : List ScopeEnds) (e : ScopeEnds) → q ≡ o → all ≡ es ++ e ∷ []
    → IfSome o (StandsInEach es)
    → IfSome q (λ s. StandsFor e.ends.stored (seen_files e.scope s.files)) → IfSome o (StandsInEach all)
stands_more o q es all e same longer stands here =
    subst (λ (l : List ScopeEnds). IfSome o (StandsInEach l)) (sym longer)
    (so_far_stands o es e stands
    (subst (λ (t : Option State). IfSome t (λ s. StandsFor e.ends.stored (seen_files e.scope s.files))) same here))

pub none_stands : (o : Option State) (es : List ScopeEnds) → es ≡ [] → IfSome o (StandsInEach es)
none_stands None es is = tt
none_stands (Some s) es is = subst (λ (l : List ScopeEnds). StandsInEach l s) (sym is) tt
