use Rattle.std.proofs.Common.{subst}
use Rattle.sessions.specs.Worlds.{IsKept}
use Rattle.sessions.proofs.CommitWays.{kept_is_valid}
use Rattle.sessions.proofs.worlds.World.config.Goals as goal

pub returns-clause-valid : goal.returns-clause-valid
returns-clause-valid c = kept_is_valid c.args.self.now (subst IsKept c.self.view_is c.self.invariant)
