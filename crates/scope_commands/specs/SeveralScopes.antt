-- A change of several scopes: what is pending is settled first, and the plans are then printed or done.
use Rattle.std.specs.Prelude.{◌≡◌, ◌≤◌, ◌⊎◌, ℕ, List, [], Bool, true, false, Option, IfSome, option_map, Ok, Err}
use Rattle.std.specs.List.{AllByRecursion}
use Rattle.host_core.specs.Counts.{Counts, DiskMayRise, NoneFell, Rose}
use Rattle.host_core.specs.Crashes.{Elapses, Left, LeavesOnly, MayLeaveNow}
use Rattle.host_core.specs.State.{State, settled, with_pending}
use Rattle.conf_store.specs.Changes.{IsSettled}
use Rattle.scope_changes.specs.Works.{KeepsPointsOfScopes}
use Rattle.gcu_output.specs.declared.outcomes.Outcome.{Outcome}
use Rattle.gcu_inputs.specs.Asking.{Asking, a_file}
use Rattle.gcu_words.specs.ScopesForm.{ScopesForm}
use Rattle.gcu_requests.specs.Request.{Request, ScopePlan, plan_scopes}
use Rattle.command_answers.specs.Answers.{IsRefusal}
use Rattle.command_answers.specs.Commands.{AnswersTo, CompleteTo, LeftTo}
use Rattle.scope_commands.specs.ScopeCrashes.{LeftOfScopes}
use Rattle.scope_commands.specs.ScopeEndings.{AnswersScopes}
use Rattle.command_answers.specs.ScopeTexts.{plan_scopes_asked}

-- the disk is asked to settle what is pending, and that gives nothing
abbrev pub settling : State → Asking Request
settling s = record { Reads = λ source. a_file ≡ source; Gives = λ r. ⊥ }

-- something is refused, or no plan has a step
abbrev pub HasNoWork : Asking Request → Type 0
HasNoWork asking =
    ((e : Outcome) × asking.Gives (Err e))
    ⊎ ((plans : List ScopePlan) × asking.Gives (Ok (plan_scopes plans))
    × AllByRecursion (λ p. p.1 ≡ []) plans)

-- Since that moment a crash might have left nothing but what is there now.
abbrev pub IsStillSince : {H : Type 0} → (H → Option State) → (H → ℕ) → (H → ℕ → Left → Type 0)
    → ℕ → H → Type 0
IsStillSince told moment left_since t h =
    (t ≤ moment h) × ((left : Left) → left_since h t left → MayLeaveNow (told h) left)

-- It might have been left by a crash, since a moment since which nothing but what was there might have been left.
abbrev pub IsLeftFrom : {H : Type 0} → (H → Option State) → (H → ℕ) → (H → ℕ → Left → Type 0)
    → H → H → Left → Type 0
IsLeftFrom told moment left_since old new left =
    (t : ℕ) × IsStillSince told moment left_since t old × left_since new t left

module _ {H : Type 0} (told : H → Option State) (counts : H → Counts) (moment : H → ℕ)
    (left_since : H → ℕ → Left → Type 0) where
  -- what is pending can't be settled: that is told, and nothing is done
  pub record IsUnsettled (old new : H) (result : Outcome) : Type 0 where
    pub rose : Rose (counts old).disk (counts new).disk
    pub answers : AnswersTo settling (told old) (told new) (counts old) (counts new) result
    pub crash : LeavesOnly moment left_since old new (LeftTo settling (told old))

  -- From a host on with nothing pending: the answer is the first refusal, or the plans of all scopes in order.
  -- The folder stays as it is, and a crash at any moment leaves it so, with a front of what is printed.
  pub record PrintsPlans (change : ScopesForm) (old new : H) (result : Outcome) : Type 0 where
    pub answers : AnswersTo (plan_scopes_asked change.path change.budget)
        (told old) (told new) (counts old) (counts new) result
    pub later : moment old ≤ moment new
    pub crash : (left : Left) → IsLeftFrom told moment left_since old new left
        → LeftTo (plan_scopes_asked change.path change.budget) (told old) left
    pub complete : CompleteTo (plan_scopes_asked change.path change.budget)
        (told old) (counts old) (counts new) result
    pub none_fell : NoneFell (counts old) (counts new)

  -- From a host on with nothing pending: the answer is the first refusal, and the folder stays as it is; or the
  -- plans of all scopes are printed and then done, scope after scope in order. A crash at any moment leaves the
  -- scopes before one done, that one as its own change leaves it, and those after it as they were.
  pub record DoesPlans (change : ScopesForm) (old new : H) (result : Outcome) : Type 0 where
    pub answers : AnswersScopes change.path change.budget
        (told old) (told new) (counts old) (counts new) result
    pub later : moment old ≤ moment new
    pub crash : (left : Left) → IsLeftFrom told moment left_since old new left
        → LeftOfScopes change.path change.budget (told old) left
    -- what is refused is refused before anything is written, for want of memory too
    pub refused : IsRefusal result → (left : Left) → IsLeftFrom told moment left_since old new left
        → IfSome (told old) (λ s. left.files ≡ s.files)
    pub complete : CompleteTo (plan_scopes_asked change.path change.budget)
        (told old) (counts old) (counts new) result
    pub none_fell : NoneFell (counts old) (counts new)

  -- the plans are only printed, or done
  abbrev pub PrintsOrDoes : Bool → ScopesForm → H → H → Outcome → Type 0
  PrintsOrDoes true = PrintsPlans
  PrintsOrDoes false = DoesPlans

  -- What is pending is settled first, and all that is said of crashes holds from there on, and from the beginning
  -- on where nothing was pending. Each scope keeps its checkpoints, also after a crash at any moment. Where
  -- something is refused, or there is nothing to do, a crash at any moment leaves each file as before.
  pub record AppliesSettled (change : ScopesForm) (old new : H) (result : Outcome) : Type 0 where
    pub between : H
    pub settles : told between ≡ option_map (with_pending settled) (told old)
    pub time : Elapses moment left_since old between (MayLeaveNow (told between))
    pub counted : DiskMayRise (counts old) (counts between)
    pub starts : IsStillSince told moment left_since (moment between) between
    pub begins : IfSome (told old) IsSettled
        → IsStillSince told moment left_since (moment old) between
    pub does : PrintsOrDoes change.dry_run change between new result
    pub points : IfSome (told old) (λ s. IfSome (told new) (λ t.
        KeepsPointsOfScopes s.files t.files))
    pub points_left : IfSome (told old) (λ s.
        (left : Left) → IsLeftFrom told moment left_since between new left
        → KeepsPointsOfScopes s.files left.files)
    pub kept : IfSome (told old) (λ s. IsRefusal result
        ⊎ HasNoWork (plan_scopes_asked change.path change.budget (with_pending settled s))
        → (left : Left) → IsLeftFrom told moment left_since between new left → left.files ≡ s.files)

  -- it can't be settled, or the change of several scopes is done
  abbrev pub AppliesScopes : ScopesForm → H → H → Outcome → Type 0
  AppliesScopes change old new result =
      IsUnsettled old new result ⊎ AppliesSettled change old new result
