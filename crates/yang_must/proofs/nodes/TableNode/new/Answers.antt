use Rattle.std.proofs.Common.{ap, sym, ◌∙◌}
use Rattle.std.specs.List.{filter}
use Rattle.yang_scope.specs.Nodes.{is_shape}
use Rattle.yang_scope.proofs.Blocks.{block-is}
use Rattle.yang_must.proofs.nodes.TableNode.new.Goals as goal

pub invariant_of-result : goal.invariant_of-result
invariant_of-result c = c.in_ok-shapes.ensures ∙ ap (filter is_shape) (c.items.ensures ∙ sym (block-is c.args.statement.now))
