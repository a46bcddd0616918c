use Rattle.std.proofs.Common.{◌≡◌, map, drop}
use Rattle.xpath_part.specs.Expression.{strides_of}
use Rattle.xpath_part.specs.Expressions.{step_of}
use Rattle.yang_must.specs.Routes.{end_of}
use Rattle.yang_must.specs.SpotRefs.{spot_at}
use Rattle.yang_must.proofs.routes.Resolver.end_of.Given as goal

abbrev pub invariant-loop-step : goal.invariant-loop-step
invariant-loop-step l =
    end_of l.self.tree.now l.self.number (strides_of (map step_of l.steps)) (spot_at l.origin)
    ≡ end_of l.self.tree.now l.self.number (strides_of (map step_of (drop l.step-index l.steps))) (spot_at l.spot)
