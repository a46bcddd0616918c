use Rattle.std.proofs.Common.{◌∙◌, map, ap}
use Rattle.yang_scope.specs.Links.{link_behind}
use Rattle.yang_scope.proofs.Blocks.{map-more}
use Rattle.yang_scope.proofs.Tables.{take_end}
use Rattle.yang_scope.proofs.links.double.Goals as goal

pub loop-row-preserved : goal.loop-row-preserved
loop-row-preserved c =
    let behind = link_behind c.args.links.now in
    map-more (map behind) c.args.links.now c.loop-row.row-index c.row-item.result _ _ _
    c.loop-row-test.true c.row-item.is c.loop-row.invariant (c.in_ok-doubled.ensures ∙ ap (map behind) c.items.ensures) c.in_ok-push.ensures.ok

pub returns : goal.returns
returns c =
    c.loop-row.invariant
    ∙ ap (map (map (link_behind c.args.links.now))) (take_end c.loop-row.row-index c.args.links.now c.loop-row-test.false c.loop-row.auto.row-index-end)
