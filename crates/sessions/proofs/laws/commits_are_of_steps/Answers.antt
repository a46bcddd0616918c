use Rattle.sessions.proofs.CommitTurns.{commits_made}
use Rattle.sessions.proofs.laws.commits_are_of_steps.Goals as goal

pub returns : goal.returns
returns c w after turns i k run above there = commits_made w after turns i k run above there
