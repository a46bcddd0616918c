use Rattle.std.proofs.Common.{map, drop, String}
use Rattle.std.specs.Global.{Global}
use Rattle.std.specs.BTreeSet.{BTreeSet}
use Rattle.std.specs.List.{flat_map}
use Rattle.xpath_part.specs.Expression.{strides_of}
use Rattle.xpath_part.specs.Expressions.{step_of}
use Rattle.yang_must.specs.Findings.{Gains}
use Rattle.yang_must.specs.Routes.{spots_along, table_at}
use Rattle.yang_must.specs.SpotRefs.{spot_at}
use Rattle.yang_must.proofs.routes.Resolver.add_tables.Given as goal

abbrev pub invariant-loop-step : goal.invariant-loop-step
invariant-loop-step l =
    (final : BTreeSet (String Global))
    → Gains l.reads.names final (flat_map table_at (spots_along l.self.tree.now l.self.number (strides_of (map step_of (drop l.step-index l.steps))) (spot_at l.spot)))
    → Gains l.fn.reads.names final (flat_map table_at (spots_along l.self.tree.now l.self.number (strides_of (map step_of l.steps)) (spot_at l.origin)))
