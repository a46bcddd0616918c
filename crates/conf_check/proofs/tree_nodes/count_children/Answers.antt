use Rattle.std.proofs.Common.{◌<◌, length, sym, ◌∙◌, arith}
use Rattle.std.proofs.lemmas.Option.{slice_get_within}
use Rattle.conf_check.specs.NodeTrees.{tree_of}
use Rattle.conf_check.proofs.tree_nodes.count_children.Goals as goal

pub first_child-next-requires : goal.first_child-next-requires
first_child-next-requires c = c.requires

pub loop-next-init : goal.loop-next-init
loop-next-init c = record { within = omega arith; here = c.first_child-next.ensures.first }

pub next_child-next-requires-clause-node : goal.next_child-next-requires-clause-node
next_child-next-requires-clause-node c = c.requires

pub next_child-next-requires-clause-place : goal.next_child-next-requires-clause-place
next_child-next-requires-clause-place c = sym c.loop-next.invariant.here ∙ c.in-Some.is

pub overflow_add-count : goal.overflow_add-count
overflow_add-count c =
    let within : c.loop-next.count < length ((tree_of c.args.nodes.now).children c.args.at c.args.name.now) =
    slice_get_within ((tree_of c.args.nodes.now).children c.args.at c.args.name.now) c.loop-next.count c.in-Some.child (sym c.loop-next.invariant.here ∙ c.in-Some.is) in
    omega (arith, within, c.first_child-next.ensures.fits)

pub loop-next-smaller : goal.loop-next-smaller
loop-next-smaller c =
    let within : c.loop-next.count < length ((tree_of c.args.nodes.now).children c.args.at c.args.name.now) =
    slice_get_within ((tree_of c.args.nodes.now).children c.args.at c.args.name.now) c.loop-next.count c.in-Some.child (sym c.loop-next.invariant.here ∙ c.in-Some.is) in
    omega (arith, within)

pub loop-next-preserved : goal.loop-next-preserved
loop-next-preserved c =
    let within : c.loop-next.count < length ((tree_of c.args.nodes.now).children c.args.at c.args.name.now) =
    slice_get_within ((tree_of c.args.nodes.now).children c.args.at c.args.name.now) c.loop-next.count c.in-Some.child (sym c.loop-next.invariant.here ∙ c.in-Some.is) in
    record { within = omega (arith, within); here = c.next_child-next.ensures.next }
