use Rattle.std.proofs.Common.{◌≡◌, ◌≤◌, ◌*◌, ℕ, drop, take}
use Rattle.change_apply.specs.Ends.{MayRise}
use Rattle.scope_changes.specs.Ends.{IsBetween}
use Rattle.scope_changes.specs.Works.{all_steps}
use Rattle.scope_changes.proofs.Passing.{IsNoMore, LeftSoFar}
use Rattle.scope_changes.proofs.running.run_scopes.Given as goal

-- the first i scopes are done, and the others as at the beginning
abbrev pub invariant-loop-i : goal.invariant-loop-i
invariant-loop-i g l = record {
  counted : l.done ≡ all_steps (take l.i l.changes);
  few : l.done ≤ 999999 * l.i;
  told : IsBetween (take l.i l.changes) (drop l.i l.changes) (g.H.Host.told l.fn.host) (g.H.Host.told l.host);
  left : (t : ℕ) → t ≤ g.H.Host.moment l.fn.host → IsNoMore (g.H.Host.left_since l.fn.host t) (g.H.Host.told l.fn.host)
      → LeftSoFar l.changes (g.H.Host.left_since l.fn.host t) (g.H.Host.left_since l.host t) (g.H.Host.told l.fn.host) (g.H.Host.told l.host);
  later : g.H.Host.moment l.fn.host ≤ g.H.Host.moment l.host;
  counts : MayRise (g.H.Host.counts l.fn.host) (g.H.Host.counts l.host);
  goes : g.H.Host.goes_on l.fn.host l.host;
}
