use Rattle.move_core.specs.Contexts.{rulebook}
use Rattle.sessions.proofs.CommitWays.{each_is_valid, last_is_end}
use Rattle.sessions.proofs.laws.configurations_are_valid.Goals as goal

pub returns-clause-valid : goal.returns-clause-valid
returns-clause-valid c w i kept =
    each_is_valid (rulebook w.ctx) w.opening w.commits w.config i kept.valid kept.leads

pub returns-clause-last : goal.returns-clause-last
returns-clause-last c w kept = last_is_end (rulebook w.ctx) w.opening w.commits w.config kept.leads
