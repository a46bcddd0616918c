use Rattle.std.proofs.Common.{◌≤◌}
use Rattle.change_apply.specs.Crashes.{LeavesAt}
use Rattle.change_apply.specs.Ends.{MayRise}
use Rattle.change_apply.specs.Stages.{AtStep, Leads}
use Rattle.change_apply.specs.Work.{change_in}
use Rattle.change_apply.proofs.steps.do_steps.Given as goal

-- the first k steps are done
abbrev pub invariant-loop-k : goal.invariant-loop-k
invariant-loop-k g l = record {
  told : Leads (AtStep (change_in l.work) 0) (AtStep (change_in l.work) l.k) (g.H.Host.told l.fn.host) (g.H.Host.told l.host);
  left : LeavesAt g.H.Host.moment g.H.Host.left_since g.H.Host.told (change_in l.work) (AtStep (change_in l.work) 0) l.fn.host l.host;
  later : g.H.Host.moment l.fn.host ≤ g.H.Host.moment l.host;
  counts : MayRise (g.H.Host.counts l.fn.host) (g.H.Host.counts l.host);
  goes : g.H.Host.goes_on l.fn.host l.host;
}
