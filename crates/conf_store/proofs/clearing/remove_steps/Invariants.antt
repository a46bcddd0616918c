use Rattle.std.proofs.Common.{◌≤◌, drop}
use Rattle.host_core.specs.Counts.{DiskMayRise}
use Rattle.conf_store.specs.Changes.{Settles}
use Rattle.conf_store.specs.Clearing.{IsClearing, KeepsRest}
use Rattle.conf_store.proofs.Moments.{AtAnyMoment}
use Rattle.conf_store.proofs.clearing.remove_steps.Given as goal

-- the step files up to here are gone, and nothing else was changed
abbrev pub invariant-loop-name : goal.invariant-loop-name
invariant-loop-name g l = record {
  told : Settles (IsClearing (drop l.name-index l.steps)) (g.H.Host.told l.fn.host) (g.H.Host.told l.host);
  left : AtAnyMoment g.H.Host.moment g.H.Host.left_since KeepsRest (g.H.Host.told l.fn.host) l.fn.host l.host;
  later : g.H.Host.moment l.fn.host ≤ g.H.Host.moment l.host;
  counts : DiskMayRise (g.H.Host.counts l.fn.host) (g.H.Host.counts l.host);
  goes : g.H.Host.goes_on l.fn.host l.host;
}
