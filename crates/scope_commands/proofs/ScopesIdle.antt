-- A change of several scopes that is refused, or has nothing to do, leaves each file as before, also after a
-- crash at any moment.
use Rattle.std.proofs.Common.{◌≡◌, ◌<◌, ◌⊎◌, inl, inr, ℕ, Bool, true, false, List, [], ◌∷◌, ◌++◌, length, map, refl, sym, ap, subst, arith, Option, Some, None, Ok, Err, IfSome, option_map}
use Rattle.std.specs.Cmp.Lexicographic.{nat_list_cmp_total}
use Rattle.std.specs.FinMap as finmap
use Rattle.std.specs.FinMap.{get}
use Rattle.std.specs.List.{AllByRecursion}
use Rattle.host_core.specs.Counts.{Counts}
use Rattle.host_core.specs.Crashes.{Left}
use Rattle.host_core.specs.State.{Files, State, printed, settled, with_pending}
use Rattle.change_apply.specs.Change.{steps}
use Rattle.scope_changes.specs.Crashes.{IsLeftAmong}
use Rattle.scope_changes.specs.Works.{IsOutside, ScopeWork}
use Rattle.gcu_output.specs.declared.outcomes.Outcome.{Outcome}
use Rattle.gcu_words.specs.ScopesForm.{ScopesForm}
use Rattle.gcu_requests.specs.Request.{Request, ScopePlan, plan_scopes}
use Rattle.gcu_requests.proofs.OneAnswer.{apart, same_ok}
use Rattle.command_answers.specs.Answers.{IsRefusal}
use Rattle.command_answers.specs.Commands.{LeftTo}
use Rattle.command_answers.specs.ScopeTexts.{plan_scopes_asked}
use Rattle.scope_commands.specs.OneAnswer.{PlansOfScopesAreOne}
use Rattle.scope_commands.specs.ScopeCrashes.{LeftDoingScopes, LeftOfScopes}
use Rattle.scope_commands.specs.ScopeWorks.{AreWorks, plan_of, refused_asked, works_text}
use Rattle.scope_commands.specs.SeveralScopes.{HasNoWork, IsLeftFrom, PrintsOrDoes}
use Rattle.scope_commands.proofs.ScopesDoing.{works_given}
use Rattle.scope_commands.proofs.ScopesPoints.{left_files, plans_only, refused_only, settled_files}
use Rattle.scope_commands.proofs.Settling.{settled_now}

-- ---- changes without steps

-- no change has a step
abbrev AreIdle : List ScopeWork → Type 0
AreIdle works = AllByRecursion (λ w. steps w.change ≡ 0) works

idle_at : (done : List ScopeWork) (one : ScopeWork) (due : List ScopeWork) → AreIdle (done ++ one ∷ due)
    → steps one.change ≡ 0
idle_at [] one due idle = idle.0
idle_at (w ∷ done) one due idle = idle_at done one due idle.1

idle_front : (done due : List ScopeWork) → AreIdle (done ++ due) → AreIdle done
idle_front [] due idle = tt
idle_front (w ∷ done) due idle = (idle.0, idle_front done due idle.1)

-- they have nothing to do with any file
idle_outside : (name : List ℕ) (works : List ScopeWork) → AreIdle works
    → AllByRecursion (λ w. 0 < steps w.change → IsOutside w.scope name) works
idle_outside name [] idle = tt
idle_outside name (w ∷ works) idle = ((λ some. absurd (omega (arith, idle.0, some))), idle_outside name works idle.1)

same_files : (before after : Files) → ((name : List ℕ) → get after name ≡ get before name) → after ≡ before
same_files before after alike =
    finmap.same_map nat_list_cmp_total (finmap.slice_cmp-IsAntisymmetric finmap.nat_cmp-IsAntisymmetric) after before
    alike

idle_among : (works : List ScopeWork) (s : State) (left : Left) → AreIdle works → IsLeftAmong works s left
    → left.files ≡ s.files
idle_among works s left idle (inl h) =
    let none : steps h.at.change ≡ 0 = idle_at h.done h.at h.due (subst AreIdle h.are idle) in
    absurd (omega (arith, none, h.some))
idle_among works s left idle (inr h) =
    same_files s.files left.files (λ name. h.files.others name
    (idle_outside name h.done (idle_front h.done h.due (subst AreIdle h.are idle))))

idle_doing : (works : List ScopeWork) (s : State) (left : Left) → s.pending ≡ settled → AreIdle works
    → LeftDoingScopes works s left → left.files ≡ s.files
idle_doing works s left clean idle (inl (part, rest, is, may)) = settled_files (printed part s) left clean may
idle_doing works s left clean idle (inr (inl h)) = idle_among works (printed (works_text works) s) left idle h
idle_doing works s left clean idle (inr (inr h)) =
    idle_among works (printed (works_text works) s) (record left { output = h.now.output }) idle h.is

-- ---- where there is nothing to do

same_plans : (a b : List ScopePlan) (r q : Request) → r ≡ plan_scopes a → q ≡ plan_scopes b → r ≡ q → a ≡ b
same_plans a b r q is are same = cc

-- no plan has a step
abbrev AreStill : List ScopePlan → Type 0
AreStill plans = AllByRecursion (λ p. p.1 ≡ []) plans

no_steps : (works : List ScopeWork) → AreStill (map plan_of works) → AreIdle works
no_steps [] still = tt
no_steps (w ∷ works) still = (ap length still.0, no_steps works still.1)

module _ (one : PlansOfScopesAreOne) (path : List ℕ) (budget : ℕ) where
  refused_not : (s : State) (r : Request) (e : Outcome) → (plan_scopes_asked path budget s).Gives (Ok r)
      → (plan_scopes_asked path budget s).Gives (Err e) → ⊥
  refused_not s r e given refused =
      apart r e (Ok r) (Err e) refl refl ((one path budget s).same (Ok r) (Err e) given refused)

  asked_once : (s : State) (r q : Request) → (plan_scopes_asked path budget s).Gives (Ok r)
      → (plan_scopes_asked path budget s).Gives (Ok q) → r ≡ q
  asked_once s r q given too = same_ok r q (Ok r) (Ok q) refl refl ((one path budget s).same (Ok r) (Ok q) given too)

  no_work : (s : State) (works : List ScopeWork) → AreWorks path budget s works
      → HasNoWork (plan_scopes_asked path budget s) → AreStill (map plan_of works)
  no_work s works are (inl (e, refused)) =
      absurd (refused_not s (plan_scopes (map plan_of works)) e (works_given path budget s works are) refused)
  no_work s works are (inr (plans, given, still)) =
      let once : plan_scopes (map plan_of works) ≡ plan_scopes plans =
      asked_once s (plan_scopes (map plan_of works)) (plan_scopes plans) (works_given path budget s works are) given in
      subst AreStill (sym (same_plans (map plan_of works) plans (plan_scopes (map plan_of works)) (plan_scopes plans)
      refl refl once)) still

  idle_left : (s : State) (left : Left) → s.pending ≡ settled → HasNoWork (plan_scopes_asked path budget s)
      → LeftOfScopes path budget (Some s) left → left.files ≡ s.files
  idle_left s left clean none (inl h) =
      left_files (refused_asked path budget s) s (refused_only path budget s) left clean h
  idle_left s left clean none (inr (works, are, h)) =
      idle_doing works s left clean (no_steps works (no_work s works are none)) h

  done_kept : (o : Option State) (e : Outcome) (these : Left → Type 0) → IfSome o (λ s. s.pending ≡ settled)
      → ((left : Left) → these left → LeftOfScopes path budget o left)
      → (IsRefusal e → (left : Left) → these left → IfSome o (λ s. left.files ≡ s.files))
      → IfSome o (λ s. IsRefusal e ⊎ HasNoWork (plan_scopes_asked path budget s) → (left : Left) → these left
      → left.files ≡ s.files)
  done_kept None e these clean each refused = tt
  done_kept (Some s) e these clean each refused = by
    where
      by : IsRefusal e ⊎ HasNoWork (plan_scopes_asked path budget s) → (left : Left) → these left → left.files ≡ s.files
      by (inl any) left here = refused any left here
      by (inr none) left here = idle_left s left clean none (each left here)

  plans_kept : (o : Option State) (e : Outcome) (these : Left → Type 0) → IfSome o (λ s. s.pending ≡ settled)
      → ((left : Left) → these left → LeftTo (plan_scopes_asked path budget) o left)
      → IfSome o (λ s. IsRefusal e ⊎ HasNoWork (plan_scopes_asked path budget s) → (left : Left) → these left
      → left.files ≡ s.files)
  plans_kept None e these clean each = tt
  plans_kept (Some s) e these clean each =
      λ any left here. left_files (plan_scopes_asked path budget s) s (plans_only path budget s) left clean
      (each left here)

-- ---- what is refused

-- a question that is refused leaves each file as before
pub refused_keeps : (path : List ℕ) (budget : ℕ) (o : Option State) (left : Left) → IfSome o (λ s. s.pending ≡ settled)
    → LeftTo (refused_asked path budget) o left
    → IfSome o (λ s. left.files ≡ s.files)
refused_keeps path budget None left clean h = tt
refused_keeps path budget (Some s) left clean h =
    left_files (refused_asked path budget s) s (refused_only path budget s) left clean h

-- ---- from the beginning on

state_before : (P : State → Type 0) (o q : Option State) → q ≡ option_map (with_pending settled) o → IfSome q P
    → IfSome o (λ s. P (with_pending settled s))
state_before P None q is h = tt
state_before P (Some s) q is h = subst (λ (p : Option State). IfSome p P) is h

module _ {H : Type 0} (told : H → Option State) (counts : H → Counts) (moment : H → ℕ)
    (left_since : H → ℕ → Left → Type 0)
    (one : PlansOfScopesAreOne) (change : ScopesForm) (old between new : H) (e : Outcome)
    (settles : told between ≡ option_map (with_pending settled) (told old)) where
  does_keep : (b : Bool) → PrintsOrDoes told counts moment left_since b change between new e
      → IfSome (told between) (λ s. IsRefusal e ⊎ HasNoWork (plan_scopes_asked change.path change.budget s)
      → (left : Left) → IsLeftFrom told moment left_since between new left
      → left.files ≡ s.files)
  does_keep true h =
      plans_kept one change.path change.budget (told between) e (IsLeftFrom told moment left_since between new)
      (settled_now (told old) (told between) settles) h.crash
  does_keep false h =
      done_kept one change.path change.budget (told between) e (IsLeftFrom told moment left_since between new)
      (settled_now (told old) (told between) settles) h.crash h.refused

  pub files_kept : PrintsOrDoes told counts moment left_since change.dry_run change between new e
      → IfSome (told old) (λ s. IsRefusal e ⊎ HasNoWork (plan_scopes_asked change.path change.budget
      (with_pending settled s))
      → (left : Left) → IsLeftFrom told moment left_since between new left → left.files ≡ s.files)
  files_kept h =
      state_before
      (λ s. IsRefusal e ⊎ HasNoWork (plan_scopes_asked change.path change.budget s) → (left : Left)
      → IsLeftFrom told moment left_since between new left → left.files ≡ s.files)
      (told old) (told between) settles (does_keep change.dry_run h)
