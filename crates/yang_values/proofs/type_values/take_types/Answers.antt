use Rattle.std.proofs.Common.{rules, map, reverse}
use Rattle.yang_types.specs.DataTypes.{data_type}
use Rattle.yang_values.proofs.TypeRemovals.{taken_more}
use Rattle.yang_values.proofs.type_values.take_types.Goals as goal

pub loop-i-preserved : goal.loop-i-preserved
loop-i-preserved c =
    taken_more data_type c.loop-i.i (reverse (map data_type c.args.types.now.items)) c.loop-i.taken.items c.push.new.self.items c.loop-i.types.items c.pop.new.self.items c.in-Some.ty
    c.loop-i.invariant (search rules) c.in_ok-push-in-Some.ensures.items
