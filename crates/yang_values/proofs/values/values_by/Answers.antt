use Rattle.std.proofs.Common.{◌∙◌, sym, ap, arith}
use Rattle.std.specs.List.{fold}
use Rattle.yang_text.specs.Statements.{declaration}
use Rattle.yang_scope.proofs.Blocks.{block-is}
use Rattle.yang_values.specs.Values.{values_left}
use Rattle.yang_values.proofs.Chains.{fold-map}
use Rattle.yang_values.proofs.ElementResults.{take_end}
use Rattle.yang_values.proofs.values.values_by.Goals as goal

pub returns : goal.returns
returns c =
    let values = c.args.values.now in
    let f = values_left c.args.base values in
    c.loop-child.invariant
    ∙ ap (fold (λ left s. values_left c.args.base values left (declaration s)) values) (take_end c.loop-child.child-index c.items-child-items.result.now (omega arith) (omega arith))
    ∙ sym (fold-map f declaration values c.items-child-items.result.now)
    ∙ ap (fold f values) (c.items-child-items.ensures ∙ sym (block-is c.args.statement.now))
