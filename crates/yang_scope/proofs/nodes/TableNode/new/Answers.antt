use Rattle.std.proofs.Common.{ap, sym, ◌∙◌, List, map, Bor}
use Rattle.std.specs.List.{filter}
use Rattle.yang_text.specs.Statements.{declaration}
use Rattle.yang_text.specs.declared.statements.Statement.{Statement}
use Rattle.yang_scope.specs.Nodes.{is_shape, list_in}
use Rattle.yang_scope.specs.Statements.{each_from}
use Rattle.yang_scope.proofs.Blocks.{block-is}
use Rattle.yang_scope.proofs.nodes.TableNode.new.Goals as goal

pub invariant_of-result : goal.invariant_of-result
invariant_of-result c =
    c.in_ok-lists.ensures
    ∙ ap (λ (ss : List (Bor Statement)). each_from list_in 0 (map (λ (s : Bor Statement). declaration s.now) ss)) c.as_slice.ensures.value
    ∙ ap (each_from list_in 0) (c.in_ok-shapes.ensures ∙ ap (filter is_shape) (c.items.ensures ∙ sym (block-is c.args.statement.now)))
