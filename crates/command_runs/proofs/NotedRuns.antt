-- A command that was run, noted and handed on is a run as it is promised.
use Rattle.std.proofs.Common.{◌≡◌, ◌<◌, ◌≤◌, ◌^◌, ℕ, List, ◌++◌, drop, length, refl, sym, ap, ◌∙◌, subst}
use Rattle.std.proofs.Math.Seq.{drop-append_seam}
use Rattle.std.specs.FinMap.{entries}
use Rattle.host_core.specs.MemoryHost.{GoesOn, MemoryHost, faulty_by}
use Rattle.host_core.specs.declared.crash.Pick.{Pick}
use Rattle.std.specs.Prelude.{Option, Some, None}
use Rattle.gcu_output.specs.Lines.{number}
use Rattle.gcu_output.specs.declared.outcomes.Outcome.{Outcome}
use Rattle.command_runs.specs.Noted.{rise}
use Rattle.command_runs.specs.Runs.{HasReason, IsFault, IsPromised, IsPromisedInScope, IsRun, handed_on}
use Rattle.command_runs.specs.declared.stops.Ran.{Ran}
use Rattle.command_runs.specs.declared.stops.Stop.{Stop}
use Rattle.command_runs.proofs.NotedFiles.{noted_are_files}
use Rattle.command_runs.proofs.Reasons.{reason_of}

-- the counts are handed on
handed_counts : (o : Option Pick) (ended : MemoryHost) → (handed_on o ended).counts ≡ ended.counts
handed_counts None ended = refl
handed_counts (Some pick) ended = refl

-- what was printed behind so much
behind : (base front whole output : List ℕ) → whole ≡ base ++ front → output ≡ drop (length base) whole
    → whole ≡ base ++ output
behind base front whole output is rest =
    is ∙ ap (λ (t : List ℕ). base ++ t)
    (sym (rest ∙ ap (λ (t : List ℕ). drop (length base) t) is ∙ drop-append_seam base front))

pub run_is : (stop : Stop) (host ended after : MemoryHost) (ran : Ran) (result : Outcome)
    → GoesOn (faulty_by stop.faults host) ended
    → IsPromised stop.words host.state ended.state host.counts ended.counts result
    → IsPromisedInScope stop.words (faulty_by stop.faults host) ended result
    → ran.before ≡ entries host.state.files
    → ran.output ≡ drop (length host.state.output) ended.state.output
    → ran.status ≡ number result → ran.calls ≡ ended.calls → ran.starved ≡ rise host.starved ended.starved
    → ended.calls < 2 ^ 64 → ended.starved < 2 ^ 64
    → after ≡ handed_on stop.pick ended
    → IsRun stop host after ran
run_is stop host ended after ran result goes promised scoped notes output status calls starved calls_fit starved_fits
    handed = record {
      ended = ended;
      result = result;
      goes = goes;
      notes = notes;
      finds = noted_are_files ran.before host.state.files notes;
      output = behind host.state.output goes.state.output.0 ended.state.output ran.output goes.state.output.1 output;
      status = status;
      calls = calls;
      starved = starved;
      promised = promised;
      scoped = scoped;
      handed = handed;
      reason = λ fault.
          let counts : after.counts ≡ ended.counts = ap (λ (m : MemoryHost). m.counts) handed
          ∙ handed_counts stop.pick ended in
          let is : IsFault (number result) = (
            subst (λ (n : ℕ). 3 ≤ n) status fault.0,
            subst (λ (n : ℕ). n ≤ 6) status
                fault.1,
          ) in
          subst (HasReason stop.faults ran) (sym counts)
          (reason_of stop.faults host ended ran goes calls starved calls_fit starved_fits result promised.cause is);
    }
