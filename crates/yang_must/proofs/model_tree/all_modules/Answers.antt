use Rattle.std.proofs.Common.{◌++◌, slice_get, ap, sym, ◌∙◌, arith}
use Rattle.std.specs.Option.{option_to_list}
use Rattle.yang_scope.proofs.Tables.{take_end}
use Rattle.yang_must.proofs.Filters.{take-item}
use Rattle.yang_must.proofs.model_tree.all_modules.Goals as goal

pub loop-number-preserved : goal.loop-number-preserved
loop-number-preserved c =
    let n = c.loop-number.number in
    c.in_ok-push_module.ensures
    ∙ ap (λ ms. ms ++ option_to_list (slice_get c.args.names.now n)) c.loop-number.invariant
    ∙ sym (take-item c.args.names.now n)

pub returns : goal.returns
returns c = c.loop-number.invariant ∙ take_end c.loop-number.number c.args.names.now (omega arith) (omega arith)
