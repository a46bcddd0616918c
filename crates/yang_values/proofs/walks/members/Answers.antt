use Rattle.std.proofs.Common.{◌∙◌, codes, filter, map, sym, ap, arith}
use Rattle.yang_text.specs.Statements.{declaration}
use Rattle.yang_scope.specs.Statements.{is_keyword}
use Rattle.yang_scope.proofs.Blocks.{block-is}
use Rattle.yang_values.specs.TypeValues.{placed_in}
use Rattle.yang_values.proofs.ElementResults.{take_end}
use Rattle.yang_values.proofs.walks.members.Goals as goal

pub returns : goal.returns
returns c =
    c.loop-child.invariant
    ∙ ap (λ ss. placed_in c.args.number (filter (is_keyword (codes "type")) (map declaration ss))) (take_end c.loop-child.child-index c.items-child-items.result.now (omega arith) (omega arith))
    ∙ ap (λ ds. placed_in c.args.number (filter (is_keyword (codes "type")) ds)) (c.items-child-items.ensures ∙ sym (block-is c.args.statement.now))
