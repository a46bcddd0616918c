-- How the plans of scopes make the changes that are asked.
use Rattle.std.proofs.Common.{◌≡◌, ◌<◌, inl, inr, ℕ, zero, suc, ◌+◌, List, [], ◌∷◌, ◌++◌, length, map, take, All, refl, sym, ap, ◌∙◌, subst, append-nil, Option, Some, None, Result, Ok, Err, IfSome, get_or}
use Rattle.std.specs.Prelude.{flat_map, slice_get}
use Rattle.std.proofs.lemmas.List.{length-append, length-map, map-append, take_more}
use Rattle.std.proofs.lemmas.List.Concat.{flat_map-append}
use Rattle.std.proofs.lemmas.List.Elements.{All-append, All-nil}
use Rattle.host_core.specs.State.{State}
use Rattle.conf_store.specs.Folds.{StandsFor}
use Rattle.move_core.specs.Services.{services_of}
use Rattle.move_core.specs.declared.contexts.Ctx.{Ctx}
use Rattle.move_core.specs.declared.settings.Settings.{Settings}
use Rattle.change_apply.specs.Change.{ArePositions, restarts_of}
use Rattle.change_apply.specs.declared.ready.Restart.{Restart}
use Rattle.scopes.specs.Views.{seen_files}
use Rattle.scope_changes.specs.Ends.{AreReadyFor}
use Rattle.scope_changes.specs.Works.{ScopeWork, all_steps}
use Rattle.gcu_output.specs.declared.outcomes.Outcome.{Outcome}
use Rattle.gcu_inputs.specs.Asking.{of_each}
use Rattle.gcu_inputs.specs.Preparing.{AreFound, Finds}
use Rattle.gcu_requests.specs.Request.{ScopePlan}
use Rattle.gcu_requests.specs.ScopesAsked.{ScopePlanning, scopes_asked}
use Rattle.gcu_requests.specs.ScopesPlannings.{AreReady, IsReadyBetween, StandsInEach, plan_in, plans_of, scope_planning}
use Rattle.gcu_requests.specs.declared.scopes_planning.ScopeEnds.{ScopeEnds}
use Rattle.gcu_requests.specs.declared.scopes_planning.ScopesPlanning.{ScopesPlanning}
use Rattle.writing_commands.specs.FaultLines.{AreFaultLines, AreNamed}
use Rattle.command_answers.specs.Plannings.{IsPlanFor}
use Rattle.scope_commands.specs.ReadyScopes.{AreLong, HasAllBytes, restarts_in, work_by, works_by}
use Rattle.command_answers.specs.ScopeTexts.{scopes_text, solved_asked}
use Rattle.scope_commands.specs.ScopeWorks.{AreWorks, AreWorksFor, plan_of}
use Rattle.scope_commands.specs.SolvedScopes.{scope_plan}
use Rattle.scope_commands.specs.declared.change_scopes.ReadyScopes.{ReadyScopes}
use Rattle.scope_commands.specs.declared.plan_scopes.ScopePlan as code
use Rattle.writing_commands.proofs.FaultTexts.{all_named}
use Rattle.writing_commands.proofs.ReadyChanges.{are_positions}

-- ---- what was found

abbrev scope_in : Result ScopePlan Outcome → ScopePlan → ScopePlan
scope_in (Ok p) other = p
scope_in (Err e) other = other

-- the plan of a scope is right, and that of its scope
pub plan_found : (ctx : Ctx) (budget : ℕ) (e : ScopeEnds) (p : code.ScopePlan)
    → (solved_asked (scope_planning ctx budget e)).Gives (Ok (scope_plan p))
    → IsPlanFor (plan_in ctx budget e.ends) p.plan × (e.scope ≡ p.scope)
plan_found ctx budget e p (inl never) = absurd never
plan_found ctx budget e p (inr (ms, right, same)) =
    let is : (e.scope, ms) ≡ scope_plan p = ap (λ (r : Result ScopePlan Outcome). scope_in r (e.scope, ms)) same in (
      subst (IsPlanFor (plan_in ctx budget e.ends)) (ap (λ (q : ScopePlan). q.1) is) right,
      ap (λ (q : ScopePlan). q.0)
          is,
    )

module _ (ctx : Ctx) (budget : ℕ) where
  -- there is one for each scope
  pub found_long : (es : List ScopeEnds) (ps : List code.ScopePlan)
      → AreFound scope_plan solved_asked (map (scope_planning ctx budget) es) ps → length es ≡ length ps
  found_long [] [] found = refl
  found_long [] (p ∷ ps) never = absurd never
  found_long (e ∷ es) [] never = absurd never
  found_long (e ∷ es) (p ∷ ps) found = ap suc (found_long es ps found.1)

  pub found_at : (es : List ScopeEnds) (ps : List code.ScopePlan) (i : ℕ) (e : ScopeEnds) (p : code.ScopePlan)
      → AreFound scope_plan solved_asked (map (scope_planning ctx budget) es) ps → slice_get es i ≡ Some e
      → slice_get ps i ≡ Some p
      → IsPlanFor (plan_in ctx budget e.ends) p.plan
  found_at [] ps zero e p found at there = absurd cc
  found_at [] ps (suc i) e p found at there = absurd cc
  found_at (x ∷ es) [] i e p never at there = absurd never
  found_at (x ∷ es) (y ∷ ps) zero e p found at there =
      let one : x ≡ e = cc in
      let two : y ≡ p = cc in
      subst (λ (q : code.ScopePlan). IsPlanFor (plan_in ctx budget e.ends) q.plan) two
      (subst (λ (q : ScopeEnds). IsPlanFor (plan_in ctx budget q.ends) y.plan) one
      (plan_found ctx budget x y found.0).0)
  found_at (x ∷ es) (y ∷ ps) (suc i) e p found at there = found_at es ps i e p found.1 at there

  -- the changes are those that are asked
  works_for : (s : State) (es : List ScopeEnds) (ps : List code.ScopePlan)
      → AreFound scope_plan solved_asked (map (scope_planning ctx budget) es) ps → StandsInEach es s
      → AreWorksFor s (map (scope_planning ctx budget) es) (works_by ctx.settings es ps)
  works_for s [] [] found stands = tt
  works_for s [] (p ∷ ps) never stands = absurd never
  works_for s (e ∷ es) [] never stands = absurd never
  works_for s (e ∷ es) (p ∷ ps) found stands = (
    record {
      scope = refl;
      change = record {
        stands = stands.0;
        start = refl;
        work = ((plan_found ctx budget e p found.0).0, refl);
        restarts = refl;
      };
    },
    works_for s es ps found.1 stands.1,
  )

  -- their plans are those that were found
  plans_same : (settings : Settings) (es : List ScopeEnds) (ps : List code.ScopePlan)
      → AreFound scope_plan solved_asked (map (scope_planning ctx budget) es) ps
      → map plan_of (works_by settings es ps) ≡ map scope_plan ps
  plans_same settings [] [] found = refl
  plans_same settings [] (p ∷ ps) never = absurd never
  plans_same settings (e ∷ es) [] never = absurd never
  plans_same settings (e ∷ es) (p ∷ ps) found =
      let same : e.scope ≡ p.scope = (plan_found ctx budget e p found.0).1 in
      λ i. (same i, p.plan) ∷ plans_same settings es ps found.1 i

  -- so are their restarts and their steps
  restarts_same : (settings : Settings) (es : List ScopeEnds) (ps : List code.ScopePlan)
      → AreFound scope_plan solved_asked (map (scope_planning ctx budget) es) ps
      → restarts_in (works_by settings es ps) ≡ map (restarts_of settings)
      (flat_map (λ (p : code.ScopePlan). map (services_of settings) p.plan) ps)
  restarts_same settings [] [] found = refl
  restarts_same settings [] (p ∷ ps) never = absurd never
  restarts_same settings (e ∷ es) [] never = absurd never
  restarts_same settings (e ∷ es) (p ∷ ps) found =
      ap (λ (l : List (List Restart)). map (restarts_of settings) (map (services_of settings) p.plan) ++ l)
      (restarts_same settings es ps found.1)
      ∙ sym (map-append (restarts_of settings) (map (services_of settings) p.plan)
      (flat_map (λ (q : code.ScopePlan). map (services_of settings) q.plan) ps))

  steps_same : (settings : Settings) (es : List ScopeEnds) (ps : List code.ScopePlan)
      → AreFound scope_plan solved_asked (map (scope_planning ctx budget) es) ps
      → length (flat_map (λ (p : code.ScopePlan). map (services_of settings) p.plan) ps)
      ≡ all_steps (works_by settings es ps)
  steps_same settings [] [] found = refl
  steps_same settings [] (p ∷ ps) never = absurd never
  steps_same settings (e ∷ es) [] never = absurd never
  steps_same settings (e ∷ es) (p ∷ ps) found =
      length-append (map (services_of settings) p.plan)
      (flat_map (λ (q : code.ScopePlan). map (services_of settings) q.plan) ps)
      ∙ (λ i. length-map p.plan (services_of settings) i + steps_same settings es ps found.1 i)

-- each has its restarts
all_long : (settings : Settings) (es : List ScopeEnds) (ps : List code.ScopePlan) → AreLong (works_by settings es ps)
all_long settings [] ps = tt
all_long settings (e ∷ es) [] = tt
all_long settings (e ∷ es) (p ∷ ps) = (
  length-map (map (services_of settings) p.plan) (restarts_of settings) ∙ length-map p.plan (services_of settings),
  all_long settings es ps,
)

-- services of all plans are positions in the rules file
pub all_positions : (settings : Settings) (ps : List code.ScopePlan)
    → All (ArePositions settings) (flat_map (λ (p : code.ScopePlan). map (services_of settings) p.plan) ps)
all_positions settings [] = All-nil (ArePositions settings)
all_positions settings (p ∷ ps) =
    All-append (ArePositions settings) (map (services_of settings) p.plan)
    (flat_map (λ (q : code.ScopePlan). map (services_of settings) q.plan) ps)
    (are_positions settings p.plan) (all_positions settings ps)

-- ---- all together

-- the bytes are those of the changes
pub has_all_bytes : (ready : ReadyScopes) (all : ScopesPlanning) (ps : List code.ScopePlan)
    → AreFound scope_plan solved_asked (plans_of all) ps
    → ready.changes ≡ works_by all.ctx.settings all.scopes ps → ready.text.items ≡ scopes_text (map scope_plan ps)
    → ready.steps ≡ length (flat_map (λ (p : code.ScopePlan). map (services_of all.ctx.settings) p.plan) ps)
    → AreFaultLines (map (restarts_of all.ctx.settings)
    (flat_map (λ (p : code.ScopePlan). map (services_of all.ctx.settings) p.plan) ps)) ready.lines
    → HasAllBytes ready
has_all_bytes ready all ps found is text many lines =
    let settings = all.ctx.settings in
    let services = flat_map (λ (p : code.ScopePlan). map (services_of settings) p.plan) ps in
    let restarts : map (restarts_of settings) services ≡ restarts_in ready.changes =
    sym (ap restarts_in is ∙ restarts_same all.ctx all.budget settings all.scopes ps found) in
    record {
      text = text ∙ ap scopes_text
          (sym (ap (map plan_of) is ∙ plans_same all.ctx all.budget settings all.scopes ps found));
      steps_are = many ∙ steps_same all.ctx all.budget settings all.scopes ps found ∙ ap all_steps (sym is);
      long = subst AreLong (sym is) (all_long settings all.scopes ps);
      lines_are = subst (λ (l : List (List Restart)). AreFaultLines l ready.lines) restarts lines;
      settings = settings;
      named = λ k. subst (λ (l : List (List Restart)). AreNamed settings (get_or l k [])) restarts
          (all_named settings services k);
    }

-- they are those that the patch asks for
pub are_works : (o : Option State) (path : List ℕ) (budget : ℕ) (all : ScopesPlanning) (ps : List code.ScopePlan)
    (works : List ScopeWork)
    → Finds o plans_of (Ok all) (scopes_asked path budget) → IfSome o (StandsInEach all.scopes)
    → AreFound scope_plan solved_asked (plans_of all) ps
    → works ≡ works_by all.ctx.settings all.scopes ps → IfSome o (λ s. AreWorks path budget s works)
are_works None path budget all ps works h stands found is = tt
are_works (Some s) path budget all ps works h stands found is =
    subst (AreWorks path budget s) (sym is)
    (record {
      plannings = plans_of all;
      asked = h.gives;
      each = works_for all.ctx all.budget s all.scopes ps found
          stands;
    })

-- each stands for what its scope holds
ready_each : (s : State) (plannings : List ScopePlanning) (works : List ScopeWork) → AreWorksFor s plannings works
    → AreReadyFor works s.files
ready_each s [] [] each = tt
ready_each s [] (w ∷ works) never = absurd never
ready_each s (p ∷ ps) [] never = absurd never
ready_each s (p ∷ ps) (w ∷ works) each = (
  subst (λ scope. StandsFor w.change.stored (seen_files scope s.files)) (sym each.0.scope) each.0.change.stands,
  ready_each s ps works each.1,
)

pub are_ready : (path : List ℕ) (budget : ℕ) (o q : Option State) (works : List ScopeWork) → q ≡ o
    → IfSome o (λ s. AreWorks path budget s works)
    → IfSome q (λ s. AreReadyFor works s.files)
are_ready path budget o q works same are =
    by q (subst (λ p. IfSome p (λ s. AreWorks path budget s works)) (sym same) are)
  where
    by : (p : Option State) → IfSome p (λ s. AreWorks path budget s works) → IfSome p (λ s. AreReadyFor works s.files)
    by None h = tt
    by (Some s) h = ready_each s h.plannings works h.each

-- a search may be made in each
pub ready_there : (ctx : Ctx) (es : List ScopeEnds) (i : ℕ) (e : ScopeEnds) → slice_get es i ≡ Some e → AreReady ctx es
    → IsReadyBetween ctx e.ends
ready_there ctx [] zero e at ready = absurd cc
ready_there ctx [] (suc i) e at ready = absurd cc
ready_there ctx (x ∷ es) zero e at ready = let one : x ≡ e = cc in
    subst (λ (q : ScopeEnds). IsReadyBetween ctx q.ends) one ready.0
ready_there ctx (x ∷ es) (suc i) e at ready = ready_there ctx es i e at ready.1

-- ---- one after the other

-- one more change is ready
pub works_more : (settings : Settings) (es : List ScopeEnds) (ps : List code.ScopePlan) (i : ℕ) (e : ScopeEnds)
    (p : code.ScopePlan) → slice_get es i ≡ Some e → slice_get ps i ≡ Some p
    → works_by settings (take i es) (take i ps) ++ work_by settings e p ∷ [] ≡ works_by settings (take (suc i) es)
    (take (suc i) ps)
works_more settings [] ps zero e p at there = absurd cc
works_more settings [] ps (suc i) e p at there = absurd cc
works_more settings (x ∷ es) [] zero e p at there = absurd cc
works_more settings (x ∷ es) [] (suc i) e p at there = absurd cc
works_more settings (x ∷ es) (y ∷ ps) zero e p at there =
    let one : x ≡ e = cc in
    let two : y ≡ p = cc in
    λ i. work_by settings (sym one i) (sym two i) ∷ []
works_more settings (x ∷ es) (y ∷ ps) (suc i) e p at there =
    ap (λ (l : List ScopeWork). work_by settings x y ∷ l) (works_more settings es ps i e p at there)

-- the services of one more plan
pub services_on : (settings : Settings) (ps : List code.ScopePlan) (i : ℕ) (p : code.ScopePlan)
    (all more : List (List ℕ)) → i < length ps → p ≡ get_or ps i p
    → all ≡ flat_map (λ (q : code.ScopePlan). map (services_of settings) q.plan) (take i ps)
    → more ≡ all ++ map (services_of settings) p.plan
    → more ≡ flat_map (λ (q : code.ScopePlan). map (services_of settings) q.plan) (take (i + 1) ps)
services_on settings ps i p all more less is so_far on =
    let f = λ (q : code.ScopePlan). map (services_of settings) q.plan in
    on
    ∙ ap (λ (l : List (List ℕ)). l ++ f p) so_far
    ∙ sym (flat_map-append f (take i ps) (p ∷ []) ∙ ap (λ (l : List (List ℕ)). flat_map f (take i ps) ++ l)
    (append-nil (f p)))
    ∙ ap (flat_map f) (sym (take_more ps i p less ∙ ap (λ (x : code.ScopePlan). take i ps ++ x ∷ []) (sym is)))

-- what is asked of each was found of each
pub found_each : (ps : List ScopePlanning) (found : List code.ScopePlan)
    → (of_each solved_asked ps).Gives (Ok (map scope_plan found)) → AreFound scope_plan solved_asked ps found
found_each [] [] gives = tt
found_each [] (v ∷ vs) gives = absurd cc
found_each (p ∷ ps) vs (inl never) = absurd never
found_each (p ∷ ps) vs (inr (y, one, inl never)) = absurd never
found_each (p ∷ ps) [] (inr (y, one, inr (ys, rest, same))) = absurd cc
found_each (p ∷ ps) (v ∷ vs) (inr (y, one, inr (ys, rest, same))) =
    let first : y ≡ scope_plan v = cc in
    let others : ys ≡ map scope_plan vs = cc in (
      subst (λ (q : ScopePlan). (solved_asked p).Gives (Ok q)) first one,
      found_each ps vs (subst (λ (l : List ScopePlan). (of_each solved_asked ps).Gives (Ok l)) others rest),
    )
