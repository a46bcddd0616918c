-- What the program makes of its command line, and its exit status.
use Rattle.std.specs.Prelude.{◌≡◌, ◌⊎◌, ℕ, List, Option, IfSome, Result, Ok, Err}
use Rattle.host_core.specs.Counts.{Counts, NoneFell, NoneRose}
use Rattle.host_core.specs.Crashes.{Left, LeavesOnly}
use Rattle.host_core.specs.State.{State}
use Rattle.host_core.specs.declared.errors.Memory as host
use Rattle.gcu_output.specs.declared.outcomes.Outcome.{Outcome}
use Rattle.gcu_output.specs.declared.outcomes.Outcome.TheVariants.{Memory, Usage}
use Rattle.gcu_words.specs.ScopeForm.{IsNoCommand, IsUnscoped}
use Rattle.gcu_requests.specs.Asked.{asked}
use Rattle.command_answers.specs.Answers.{Answers, Complete, HasCause, TellsUsage}
use Rattle.command_answers.specs.Crashes.{LeftMeanwhile}
use Rattle.gcu_engine.specs.Headline.{IsHeadline}
use Rattle.gcu_engine.specs.Intending.{KeepsIntent}
use Rattle.gcu_engine.specs.Resuming.{IsStoppedIn, Resumes}
use Rattle.gcu_engine.specs.Scoped.{RunsScoped}
use Rattle.gcu_engine.specs.Settling.{SettlesTasks}

-- the outcome is Usage only where the words are no command, and where they are none it tells so
pub record IsOutcomeOf (words : List (List ℕ)) (outcome : Outcome) : Type 0 where
  pub usage : outcome ≡ Usage → IsNoCommand words
  pub only_usage : IsNoCommand words → TellsUsage outcome

module _ {H : Type 0} (told : H → Option State) (counts : H → Counts) (moment : H → ℕ)
    (left_since : H → ℕ → Left → Type 0) (goes_on : H → H → Type 0) where
  -- All that is promised of a command holds of these words from the one host to the other, with this outcome:
  -- nothing else was called, printed or answered.
  pub record IsObeyed (words : List (List ℕ)) (old new : H) (outcome : Outcome) : Type 0 where
    pub answers : IsUnscoped words
        → Answers words (told old) (told new) (counts old) (counts new) outcome
    pub cause : HasCause (counts old) (counts new) outcome
    pub none_fell : NoneFell (counts old) (counts new)
    pub crash : IsUnscoped words
        → LeavesOnly moment left_since old new (LeftMeanwhile words (told old))
    pub headline : IsUnscoped words → IfSome (told old) (λ s.
        IsHeadline words s (told new) outcome (left_since new (moment old)))
    pub intent : IsUnscoped words → IfSome (told old) (λ s.
        KeepsIntent words s (left_since new (moment old)))
    pub settles : IsUnscoped words → IfSome (told old) (λ s.
        SettlesTasks words s (left_since old (moment old)) (left_since new (moment old)))
    pub goes : goes_on old new
    pub complete : IsUnscoped words → IfSome (told old) (λ s.
        NoneRose (counts old) (counts new) → Complete (asked words s) outcome)
    pub resumes : IsUnscoped words → IfSome (told old) (λ s.
        NoneRose (counts old) (counts new) → IsStoppedIn s → Resumes words outcome)
    pub scoped : IsUnscoped words
        ⊎ RunsScoped told counts moment left_since words old new outcome

-- the outcome, or Memory where there was none for the words or the boxes
abbrev pub outcome_in : Result Outcome host.Memory → Outcome
outcome_in (Ok outcome) = outcome
outcome_in (Err m) = Memory
