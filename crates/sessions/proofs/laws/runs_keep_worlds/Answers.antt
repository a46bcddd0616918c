use Rattle.sessions.proofs.RunInvariants.{run_goes_on, run_keeps}
use Rattle.sessions.proofs.laws.runs_keep_worlds.Goals as goal

pub returns-clause-kept : goal.returns-clause-kept
returns-clause-kept c w after turns kept run = run_keeps w after turns kept run

pub returns-clause-ctx : goal.returns-clause-ctx
returns-clause-ctx c w after turns run = (run_goes_on w after turns run).ctx

pub returns-clause-opening : goal.returns-clause-opening
returns-clause-opening c w after turns run = (run_goes_on w after turns run).opening
