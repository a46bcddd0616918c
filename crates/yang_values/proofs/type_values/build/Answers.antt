use Rattle.std.proofs.Common.{rules, ◌∙◌, map, reverse, sym, arith}
use Rattle.yang_types.specs.DataTypes.{data_type}
use Rattle.yang_values.proofs.TypeRemovals.{built_next, built_end}
use Rattle.yang_values.proofs.type_values.build.Goals as goal

pub loop-visit-preserved : goal.loop-visit-preserved
loop-visit-preserved c = λ is_pattern decides.
    c.loop-visit.invariant is_pattern decides
    ∙ built_next data_type is_pattern c.args.names.now c.args.visits.now c.loop-visit.visit-index c.visit-item.result c.loop-visit.types.items c.in_ok-taken.taken.items c.take_types.new.types.items c.push.new.self.items c.in_ok-ty.ty
    (search rules) (search rules) c.in_ok-taken.ensures (c.in_ok-ty.ensures is_pattern decides) c.in_ok-push.ensures.items

pub returns : goal.returns
returns c = λ is_pattern decides.
    c.top_type-ty.ensures
    ∙ sym (c.loop-visit.invariant is_pattern decides
    ∙ built_end is_pattern c.args.names.now c.args.visits.now c.loop-visit.visit-index (reverse (map data_type c.loop-visit.types.items)) (omega arith))
