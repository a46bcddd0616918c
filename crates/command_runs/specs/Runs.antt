-- What is noted of a command that runs on a host in memory, and what the promises say of it.
use Rattle.std.specs.Prelude.{◌≡◌, ◌≢◌, ◌⊎◌, ◌<◌, ◌≤◌, ℕ, IsTrue, List, [], ◌∷◌, ◌++◌, Option, Some, None, ⊤}
use Rattle.std.specs.FinMap.{entries}
use Rattle.host_core.specs.Counts.{Counts, NoneRose, last_count}
use Rattle.host_core.specs.Crashes.{Left, MayLeave}
use Rattle.host_core.specs.Faults.{is_faulty}
use Rattle.host_core.specs.MemoryHost.{GoesOn, MemoryHost, faulty_by, left_of, moment_of}
use Rattle.host_core.specs.Picks.{crashed}
use Rattle.host_core.specs.State.{State}
use Rattle.host_core.specs.declared.crash.Pick.{Pick}
use Rattle.host_core.specs.declared.faults.Faults.{Faults}
use Rattle.gcu_output.specs.Lines.{number}
use Rattle.gcu_output.specs.declared.outcomes.Outcome.{Outcome}
use Rattle.gcu_output.specs.declared.outcomes.Outcome.TheVariants.{Usage}
use Rattle.gcu_words.specs.ScopeForm.{IsNoCommand, IsUnscoped}
use Rattle.gcu_requests.specs.Asked.{asked}
use Rattle.command_answers.specs.Answers.{Answers, Complete, HasCause, TellsUsage}
use Rattle.command_answers.specs.Crashes.{LeftMeanwhile}
use Rattle.gcu_engine.specs.Headline.{IsHeadline}
use Rattle.gcu_engine.specs.Scoped.{RunsScoped}
use Rattle.command_runs.specs.Noted.{found, rise}
use Rattle.command_runs.specs.declared.stops.Ran.{Ran}
use Rattle.command_runs.specs.declared.stops.Stop.{Stop}

-- ---- the promises

-- what is promised of a command that began in one state with these counts and ended in another: its answer,
-- its output and what it leaves, also to a crash at its end, by what the words ask of the state before. What
-- is promised of words that name a scope is said by itself.
pub record IsPromised (words : List (List ℕ)) (before after : State) (old new : Counts)
    (result : Outcome) : Type 0 where
  pub answers : IsUnscoped words → Answers words (Some before) (Some after) old new result
  pub cause : HasCause old new result
  pub left : IsUnscoped words
      → (left : Left) → MayLeave after left → LeftMeanwhile words (Some before) left
  pub headline : IsUnscoped words → IsHeadline words before (Some after) result (MayLeave after)
  pub usage : result ≡ Usage → IsNoCommand words
  pub only_usage : IsNoCommand words → TellsUsage result
  pub complete : IsUnscoped words → NoneRose old new → Complete (asked words before) result

-- a host in memory tells its state
abbrev pub told_of : MemoryHost → Option State
told_of m = Some m.state

-- and its counts
abbrev pub counts_of : MemoryHost → Counts
counts_of m = m.counts

-- the same of words that name a scope: it is so over the files of that scope
abbrev pub IsPromisedInScope : List (List ℕ) → MemoryHost → MemoryHost → Outcome → Type 0
IsPromisedInScope words began ended result =
    IsUnscoped words
    ⊎ RunsScoped told_of counts_of moment_of left_of words began ended result

-- ---- faults

-- the status of a fault: of an input, of the disk, of printing or of a service
abbrev pub IsFault : ℕ → Type 0
IsFault status = (3 ≤ status) × (status ≤ 6)

-- a count is at its last value
abbrev pub IsFull : Counts → Type 0
IsFull c =
    (c.input ≡ last_count) ⊎ ((c.disk ≡ last_count)
    ⊎ ((c.print ≡ last_count) ⊎ (c.service ≡ last_count)))

-- a call of the command had a reason to fail: a fault has its number, or it found no memory; or a count
-- is at its last value
abbrev pub HasReason : Faults → Ran → Counts → Type 0
HasReason faults ran counts =
    ((call : ℕ) × (call < ran.calls) × IsTrue (is_faulty faults call))
    ⊎ ((ran.starved ≢ 0) ⊎ ((ran.calls ≡ last_count) ⊎ IsFull counts))

-- ---- a command, run or stopped

-- the host that is handed on: as the command leaves it, or after a crash
abbrev pub handed_on : Option Pick → MemoryHost → MemoryHost
handed_on None ended = ended
handed_on (Some pick) ended = crashed pick ended

-- a command ran on a host with its faults: what is noted of it, what is promised of it, and what is handed on
pub record IsRun (stop : Stop) (host after : MemoryHost) (ran : Ran) : Type 0 where
  -- where the command ended, and how
  pub ended : MemoryHost
  pub result : Outcome
  pub goes : GoesOn (faulty_by stop.faults host) ended
  -- the files that it found are noted, each once, in the order of their names
  pub notes : ran.before ≡ entries host.state.files
  pub finds : found ran ≡ host.state.files
  pub output : ended.state.output ≡ host.state.output ++ ran.output
  pub status : ran.status ≡ number result
  pub calls : ran.calls ≡ ended.calls
  pub starved : ran.starved ≡ rise host.starved ended.starved
  pub promised : IsPromised stop.words host.state ended.state host.counts ended.counts result
  pub scoped : IsPromisedInScope stop.words (faulty_by stop.faults host) ended result
  pub handed : after ≡ handed_on stop.pick ended
  pub reason : IsFault ran.status → HasReason stop.faults ran after.counts

-- each ran on the host that the one before handed on
abbrev pub AreRun : List Stop → MemoryHost → MemoryHost → List Ran → Type 0
AreRun [] host after [] = after ≡ host
AreRun [] host after (ran ∷ rans) = ⊥
AreRun (stop ∷ stops) host after [] = ⊥
AreRun (stop ∷ stops) host after (ran ∷ rans) =
    (next : MemoryHost) × IsRun stop host next ran × AreRun stops next after rans

-- no command names a scope
abbrev pub AreUnscoped : List Stop → Type 0
AreUnscoped [] = ⊤
AreUnscoped (stop ∷ stops) = IsUnscoped stop.words × AreUnscoped stops
