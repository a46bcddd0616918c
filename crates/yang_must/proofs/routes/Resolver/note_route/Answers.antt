use Rattle.yang_must.proofs.FollowedPaths.{Finds-route}
use Rattle.yang_must.specs.SpotRefs.{spot_at}
use Rattle.xpath_part.specs.Expression.{strides_of}
use Rattle.xpath_part.specs.Expressions.{step_of}
use Rattle.std.proofs.Common.{map}
use Rattle.yang_must.proofs.routes.Resolver.note_route.Goals as goal

pub returns : goal.returns
returns c =
    Finds-route c.args.self.now.tree.now c.args.self.now.number c.args.findings.now c.note_end.new.findings c.args.aim (spot_at c.args.origin)
    (strides_of (map step_of c.args.steps.now)) _ c.end_of.ensures c.note_end.ensures.unknown c.note_end.ensures.misplaced _ c.in_ok-add_tables.ensures c.note_end.ensures.reads
