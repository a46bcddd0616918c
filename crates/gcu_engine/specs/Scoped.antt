-- A command over the files of one scope: the same command without the option, of the folder as the scope
-- shows it, once what was pending is settled. And a change of several scopes.
use Rattle.std.specs.Prelude.{◌≡◌, ◌⊎◌, ℕ, List, Option, Some, IfSome, option_map}
use Rattle.host_core.specs.Counts.{Counts, DiskMayRise, NoneFell, NoneRose}
use Rattle.host_core.specs.Crashes.{Elapses, Left, LeavesOnly, MayLeaveNow}
use Rattle.host_core.specs.State.{State, settled, with_pending}
use Rattle.conf_store.specs.Changes.{IsSettled}
use Rattle.scopes.specs.Views.{AreOthersSame, IsSeen, seen}
use Rattle.scopes.specs.declared.scope.Scope.{Scope}
use Rattle.gcu_output.specs.declared.outcomes.Outcome.{Outcome}
use Rattle.gcu_words.specs.ScopeForm.{IsScoped}
use Rattle.gcu_words.specs.ScopesForm.{ScopesForm, scopes_form}
use Rattle.gcu_requests.specs.Asked.{asked}
use Rattle.command_answers.specs.Answers.{Answers, Complete}
use Rattle.command_answers.specs.Crashes.{LeftMeanwhile}
use Rattle.gcu_engine.specs.Headline.{IsHeadline}
use Rattle.gcu_engine.specs.Intending.{KeepsIntent}
use Rattle.gcu_engine.specs.Resuming.{IsStoppedIn, Resumes}
use Rattle.scope_commands.specs.SeveralScopes.{AppliesScopes, IsLeftFrom, IsStillSince, IsUnsettled}

-- the state that a scope shows, of a host that may not tell its own
abbrev pub seen_told : Scope → Option State → Option State
seen_told scope told = option_map (seen scope) told

module _ {H : Type 0} (told : H → Option State) (counts : H → Counts) (moment : H → ℕ)
    (left_since : H → ℕ → Left → Type 0) where
  -- what a scope shows of what a crash might have left
  abbrev pub seen_since : Scope → H → ℕ → Left → Type 0
  seen_since scope h t left = IsSeen scope (left_since h t) left

  -- the same, since a moment since which nothing but what was there before might have been left
  abbrev pub seen_from : Scope → H → H → Left → Type 0
  seen_from scope old new left = IsSeen scope (IsLeftFrom told moment left_since old new) left

  -- The words without the option are done from a host on with nothing pending, of the folder as the scope
  -- shows it. The files that the scope does not have stay as they are, also after a crash at any moment.
  pub record RunsInScope (scope : Scope) (words : List (List ℕ)) (old new : H) (result : Outcome)
      : Type 0 where
    pub answers : Answers words
        (seen_told scope (told old)) (seen_told scope (told new)) (counts old) (counts new) result
    pub crash : LeavesOnly moment (seen_since scope) old new
        (LeftMeanwhile words (seen_told scope (told old)))
    pub crash_from : (left : Left) → seen_from scope old new left
        → LeftMeanwhile words (seen_told scope (told old)) left
    pub headline : IfSome (seen_told scope (told old)) (λ s.
        IsHeadline words s (seen_told scope (told new)) result (seen_from scope old new))
    pub intent : IfSome (seen_told scope (told old)) (λ s.
        KeepsIntent words s (seen_from scope old new))
    pub complete : IfSome (seen_told scope (told old)) (λ s.
        NoneRose (counts old) (counts new) → Complete (asked words s) result)
    pub resumes : IfSome (seen_told scope (told old)) (λ s.
        NoneRose (counts old) (counts new) → IsStoppedIn s → Resumes words result)
    pub others : IfSome (told old) (λ s. IfSome (told new) (λ t.
        AreOthersSame scope s.files t.files))
    pub others_left : IfSome (told old) (λ s. LeavesOnly moment left_since old new (λ left.
        AreOthersSame scope s.files left.files))
    pub others_from : IfSome (told old) (λ s. (left : Left)
        → IsLeftFrom told moment left_since old new left → AreOthersSame scope s.files left.files)
    pub none_fell : NoneFell (counts old) (counts new)

  -- What is pending is settled first, and all that is said of crashes holds from there on, and from the beginning
  -- on where nothing was pending.
  pub record RunsSettled (scope : Scope) (words : List (List ℕ)) (old new : H) (result : Outcome)
      : Type 0 where
    pub between : H
    pub settles : told between ≡ option_map (with_pending settled) (told old)
    pub time : Elapses moment left_since old between (MayLeaveNow (told between))
    pub counted : DiskMayRise (counts old) (counts between)
    pub starts : IsStillSince told moment left_since (moment between) between
    pub begins : IfSome (told old) IsSettled
        → IsStillSince told moment left_since (moment old) between
    pub runs : RunsInScope scope words between new result

  -- it can't be settled, or the command is done over the files of the scope
  abbrev pub DoesInScope : Scope → List (List ℕ) → H → H → Outcome → Type 0
  DoesInScope scope words old new result =
      IsUnsettled told counts moment left_since old new result
      ⊎ RunsSettled scope words old new result

  -- the words name a scope, and so it is done
  abbrev pub RunsInOne : List (List ℕ) → H → H → Outcome → Type 0
  RunsInOne words old new result =
      (scope : Scope) × (plain : List (List ℕ)) × IsScoped words scope plain
      × DoesInScope scope plain old new result

  -- ---- several scopes

  -- the words are such a change, and so it is done
  abbrev pub RunsOverAll : List (List ℕ) → H → H → Outcome → Type 0
  RunsOverAll words old new result =
      (change : ScopesForm) × (scopes_form words ≡ Some change)
      × AppliesScopes told counts moment left_since change old new result

  -- the words are about one scope or several, and so it is done
  abbrev pub RunsScoped : List (List ℕ) → H → H → Outcome → Type 0
  RunsScoped words old new result =
      RunsInOne words old new result ⊎ RunsOverAll words old new result
