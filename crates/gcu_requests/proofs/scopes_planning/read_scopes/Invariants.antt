use Rattle.std.proofs.Common.{◌≡◌, ℕ, map, take, IfSome}
use Rattle.host_core.specs.Counts.{DiskMayRise}
use Rattle.scopes.specs.Splitting.{part_of}
use Rattle.scopes.specs.declared.splitting.Scoped.{Scoped}
use Rattle.gcu_inputs.specs.Preparing.{AreFound}
use Rattle.gcu_requests.specs.ScopesAsked.{part_asked}
use Rattle.gcu_requests.specs.ScopesPlannings.{AreReady, IsStill, StandsInEach, scope_planning}
use Rattle.gcu_requests.specs.declared.scopes_planning.ScopeEnds.{ScopeEnds}
use Rattle.gcu_requests.proofs.scopes_planning.read_scopes.Given as goal

-- what the plans of the first scopes need is found, and nothing is changed
abbrev pub invariant-loop-part : goal.invariant-loop-part
invariant-loop-part g l = record {
  found : (budget : ℕ)
      → IfSome (g.H.Host.told l.fn.host) (λ s. AreFound (scope_planning l.ctx budget) (part_asked l.ctx budget s)
      (map part_of (take l.part-index l.parts)) l.all);
  ready : AreReady l.ctx l.all;
  scopes : map (λ (e : ScopeEnds). e.scope) l.all ≡ map (λ (p : Scoped). p.scope) (take l.part-index l.parts);
  stands : IfSome (g.H.Host.told l.fn.host) (StandsInEach l.all);
  still : IsStill g.H.Host.told g.H.Host.moment g.H.Host.left_since l.fn.host l.host;
  counts : DiskMayRise (g.H.Host.counts l.fn.host) (g.H.Host.counts l.host);
  goes : g.H.Host.goes_on l.fn.host l.host;
}
