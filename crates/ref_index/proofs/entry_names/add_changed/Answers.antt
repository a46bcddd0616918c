use Rattle.std.proofs.Common.{arith}
use Rattle.ref_index.proofs.Sides.{adds_changed, changed_at, changed_of_table}
use Rattle.ref_index.proofs.entry_names.add_changed.Goals as goal

pub loop-t-preserved : goal.loop-t-preserved
loop-t-preserved c =
    let old = c.loop-t.found.items in
    let new = c.add_changed_of.new.found.items in
    let adds = c.in_ok-add_changed_of.ensures in (
      λ t k is. adds.stay t k (c.loop-t.invariant.0 t k is),
      changed_at old new c.loop-t.t adds.stay c.args.parts.now c.args.first.now c.args.second.now c.loop-t.invariant.1
          (changed_of_table c.args.parts.now c.args.first.now c.args.second.now c.loop-t.t c.name_at-name.result.now c.part_at-left.result.now c.table_or.result.now old new
          c.name_at-name.ensures c.part_at-left.ensures.part c.table_or.ensures.table adds),
    )

pub returns : goal.returns
returns c =
    let end = c.len-t-end.ensures.len in
    let past = c.loop-t-test.false in
    adds_changed c.args.parts.now c.args.first.now c.args.second.now c.args.found.now.items c.loop-t.found.items c.loop-t.t (omega (arith, end, past))
    c.loop-t.invariant.0 c.loop-t.invariant.1
