use Rattle.operators.proofs.ScriptRuns.{run_is}
use Rattle.operators.proofs.laws.scripts_run_worlds.Goals as goal

pub returns : goal.returns
returns c patches budget w after lines replies run = run_is patches budget w after lines replies run
