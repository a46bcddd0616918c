use Rattle.std.proofs.Common.{◌≤◌}
use Rattle.change_apply.specs.Ends.{MayRise}
use Rattle.change_apply.specs.Crashes.{LeavesAt}
use Rattle.change_apply.specs.Stages.{AtPut, Leads}
use Rattle.change_apply.specs.Work.{change_in}
use Rattle.change_apply.proofs.restarting.restart_services.Given as goal

-- the services up to here are restarted
abbrev pub invariant-loop-restart : goal.invariant-loop-restart
invariant-loop-restart g l = record {
  told : Leads (AtPut (change_in l.work) l.k 0) (AtPut (change_in l.work) l.k l.restart-index) (g.H.Host.told l.fn.host) (g.H.Host.told l.host);
  left : LeavesAt g.H.Host.moment g.H.Host.left_since g.H.Host.told (change_in l.work) (AtPut (change_in l.work) l.k 0) l.fn.host l.host;
  later : g.H.Host.moment l.fn.host ≤ g.H.Host.moment l.host;
  counts : MayRise (g.H.Host.counts l.fn.host) (g.H.Host.counts l.host);
  goes : g.H.Host.goes_on l.fn.host l.host;
}
