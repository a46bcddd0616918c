-- What is promised of a command on a host in memory, by what running it ensures.
use Rattle.std.proofs.Common.{◌≡◌, inl, ℕ, List, Some, subst}
use Rattle.host_core.specs.Counts.{NoneRose}
use Rattle.host_core.specs.Crashes.{LeavesOnly}
use Rattle.host_core.specs.MemoryHost.{GoesOn, MemoryHost, faulty_by, left_of, moment_of}
use Rattle.host_core.specs.declared.faults.Faults.{Faults}
use Rattle.gcu_output.specs.declared.outcomes.Outcome.{Outcome}
use Rattle.gcu_output.specs.declared.outcomes.Outcome.TheVariants.{Usage}
use Rattle.gcu_words.specs.ScopeForm.{IsNoCommand, IsUnscoped}
use Rattle.gcu_requests.specs.Asked.{asked}
use Rattle.command_answers.specs.Answers.{Answers, Complete, HasCause, TellsUsage}
use Rattle.command_answers.specs.Crashes.{LeftMeanwhile}
use Rattle.gcu_engine.specs.Headline.{IsHeadline}
use Rattle.command_runs.specs.Runs.{IsPromised, IsPromisedInScope}

-- what is promised to hold since an earlier moment holds of what is left at the end
pub promised_by : (words : List (List ℕ)) (faults : Faults) (host began ended : MemoryHost) (result : Outcome)
    → began ≡ faulty_by faults host
    → (IsUnscoped words → Answers words (Some began.state) (Some ended.state) began.counts ended.counts result)
    → HasCause began.counts ended.counts result
    → (IsUnscoped words → LeavesOnly moment_of left_of began ended (LeftMeanwhile words (Some began.state)))
    → (IsUnscoped words → IsHeadline words began.state (Some ended.state) result (left_of ended (moment_of began)))
    → (result ≡ Usage → IsNoCommand words) → (IsNoCommand words → TellsUsage result)
    → (IsUnscoped words → NoneRose began.counts ended.counts → Complete (asked words began.state) result)
    → IsPromised words host.state ended.state host.counts ended.counts result
promised_by words faults host began ended result is answers cause crash headline usage only complete =
    let promised : IsPromised words began.state ended.state began.counts ended.counts result = record {
      answers = answers;
      cause = cause;
      left = λ none left may. (crash none).each left (inl may);
      headline = λ none. record {
        printed = (headline none).printed;
        no_order = (headline none).no_order;
        crash = λ left may. (headline none).crash left (inl may);
        refused = λ refusal left may. (headline none).refused refusal left (inl may);
        quiet = (headline none).quiet;
        finished = (headline none).finished;
        rolled = (headline none).rolled;
      };
      usage = usage;
      only_usage = only;
      complete = complete;
    } in
    subst (λ (m : MemoryHost). IsPromised words m.state ended.state m.counts ended.counts result) is promised

-- and so is what is promised of words that name a scope
pub scoped_by : (words : List (List ℕ)) (faults : Faults) (host began ended : MemoryHost) (result : Outcome)
    → began ≡ faulty_by faults host → IsPromisedInScope words began ended result
    → IsPromisedInScope words (faulty_by faults host) ended result
scoped_by words faults host began ended result is promised =
    subst (λ (m : MemoryHost). IsPromisedInScope words m ended result) is promised

pub goes_by : (faults : Faults) (host began ended : MemoryHost) → began ≡ faulty_by faults host → GoesOn began ended
    → GoesOn (faulty_by faults host) ended
goes_by faults host began ended is goes = subst (λ (m : MemoryHost). GoesOn m ended) is goes
