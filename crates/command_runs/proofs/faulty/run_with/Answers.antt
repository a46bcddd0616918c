use Rattle.std.proofs.Common.{ℕ, List, subst}
use Rattle.host_core.specs.MemoryHost.{faulty_by}
use Rattle.command_runs.specs.Runs.{IsPromised, IsPromisedInScope}
use Rattle.command_runs.proofs.CommandPromises.{goes_by, promised_by, scoped_by}
use Rattle.command_runs.proofs.faulty.run_with.Goals as goal

pub returns : goal.returns
returns g c =
    let ran = c.run-outcome.ensures in
    let ended = c.run-outcome.new.host in
    record {
      kinds = ran.kinds;
      goes = goes_by c.args.faults c.args.host c.with_faults-host.result ended c.with_faults-host.ensures ran.goes;
      promised =
          subst (λ (words : List (List ℕ)). IsPromised words
          c.args.host.state ended.state c.args.host.counts ended.counts c.run-outcome.result)
          c.items.ensures
          (promised_by c.items.result.now c.args.faults c.args.host c.with_faults-host.result ended c.run-outcome.result
          c.with_faults-host.ensures ran.answers ran.cause ran.crash ran.headline ran.usage ran.only_usage
          ran.complete);
      scoped =
          subst (λ (words : List (List ℕ)). IsPromisedInScope words (faulty_by c.args.faults c.args.host) ended
          c.run-outcome.result)
          c.items.ensures
          (scoped_by c.items.result.now c.args.faults c.args.host c.with_faults-host.result ended
          c.run-outcome.result c.with_faults-host.ensures ran.scoped);
    }
