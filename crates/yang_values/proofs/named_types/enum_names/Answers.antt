use Rattle.std.proofs.Common.{◌∙◌, sym, ap, arith}
use Rattle.std.specs.List.{flat_map}
use Rattle.yang_text.specs.Statements.{declaration}
use Rattle.yang_scope.proofs.Blocks.{block-is, flat_map-map}
use Rattle.yang_values.specs.TypeValues.{enum_name}
use Rattle.yang_values.proofs.ElementResults.{take_end}
use Rattle.yang_values.proofs.named_types.enum_names.Goals as goal

pub returns : goal.returns
returns c =
    c.loop-child.invariant
    ∙ ap (flat_map (λ s. enum_name (declaration s))) (take_end c.loop-child.child-index c.items-child-items.result.now (omega arith) (omega arith))
    ∙ sym (flat_map-map enum_name declaration c.items-child-items.result.now)
    ∙ ap (flat_map enum_name) (c.items-child-items.ensures ∙ sym (block-is c.args.statement.now))
