use Rattle.std.proofs.Common.{arith}
use Rattle.ref_index.proofs.Sides.{adds_referring, referring_at, referring_of_table}
use Rattle.ref_index.proofs.entry_names.add_referring.Goals as goal

pub loop-t-preserved : goal.loop-t-preserved
loop-t-preserved c =
    let old = c.loop-t.found.items in
    let new = c.add_if_referring.new.found.items in
    let adds = c.in_ok-add_if_referring.ensures in
    let models = c.args.models.now in
    let to = c.args.to.now in (
      λ t k is. adds.stay t k (c.loop-t.invariant.0 t k is),
      referring_at old new c.loop-t.t adds.stay models to c.args.parts.now c.args.first.now c.args.second.now c.loop-t.invariant.1
          (referring_of_table models to c.args.parts.now c.args.first.now c.args.second.now c.loop-t.t c.name_at-name.result.now c.part_at-left.result.now
          c.table_or-right.result.now old new c.name_at-name.ensures c.part_at-left.ensures.part c.table_or-right.ensures.table adds),
    )

pub returns : goal.returns
returns c =
    let end = c.len-t-end.ensures.len in
    let past = c.loop-t-test.false in
    adds_referring c.args.models.now c.args.to.now c.args.parts.now c.args.first.now c.args.second.now c.args.found.now.items c.loop-t.found.items c.loop-t.t
    (omega (arith, end, past)) c.loop-t.invariant.0 c.loop-t.invariant.1
