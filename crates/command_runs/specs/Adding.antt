-- One command more behind those that ran.
use Rattle.std.specs.Prelude.{◌≡◌, List, [], ◌∷◌, ◌++◌}
use Rattle.host_core.specs.MemoryHost.{MemoryHost}
use Rattle.conf_doc.specs.declared.configuration.Config.{Config}
use Rattle.command_runs.specs.Histories.{AllStandFor, Leads}
use Rattle.gcu_words.specs.ScopeForm.{IsUnscoped}
use Rattle.command_runs.specs.Runs.{IsRun}
use Rattle.command_runs.specs.declared.stops.Ran.{Ran}
use Rattle.command_runs.specs.declared.stops.Stop.{Stop}

-- a command ran and leads on, and it is noted behind the others
pub record AddsRun (stop : Stop) (host next : MemoryHost) (old new : List Ran) : Type 0 where
  pub ran : Ran
  pub added : new ≡ old ++ ran ∷ []
  pub run : IsRun stop host next ran
  pub leads : IsUnscoped stop.words
      → (before : List Config) → AllStandFor before host.state → Leads before ran next.state
