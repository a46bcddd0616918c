use Rattle.std.proofs.Common.{◌≤◌}
use Rattle.checkpoints.specs.MigrationEnds.{MayRise}
use Rattle.checkpoints.specs.MigrationStages.{AtStep, Leads, LeavesAt}
use Rattle.checkpoints.proofs.migration_steps.do_steps.Given as goal

-- the first k are put anew and told
abbrev pub invariant-loop-k : goal.invariant-loop-k
invariant-loop-k g l = record {
  told : Leads (AtStep l.migration 0) (AtStep l.migration l.k) (g.H.Host.told l.fn.host) (g.H.Host.told l.host);
  left : LeavesAt g.H.Host.moment g.H.Host.left_since g.H.Host.told l.migration (AtStep l.migration 0) l.fn.host l.host;
  later : g.H.Host.moment l.fn.host ≤ g.H.Host.moment l.host;
  counts : MayRise (g.H.Host.counts l.fn.host) (g.H.Host.counts l.host);
  goes : g.H.Host.goes_on l.fn.host l.host;
}
