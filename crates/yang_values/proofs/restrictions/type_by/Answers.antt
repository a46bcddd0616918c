use Rattle.std.proofs.Common.{◌∙◌, map, sym, ap, arith}
use Rattle.std.specs.List.{fold}
use Rattle.yang_text.specs.Declarations.{argument, block}
use Rattle.yang_text.specs.Statements.{declaration}
use Rattle.yang_types.specs.DataType.{DataType}
use Rattle.yang_types.specs.DataTypes.{data_type}
use Rattle.yang_scope.specs.Meanings.{type_meaning}
use Rattle.yang_scope.proofs.Blocks.{block-is}
use Rattle.yang_values.specs.TypeValues.{restrict_if_taken, named_type}
use Rattle.yang_values.specs.Values.{restricted_values}
use Rattle.yang_values.proofs.Chains.{fold-map}
use Rattle.yang_values.proofs.ElementResults.{take_end}
use Rattle.yang_values.proofs.restrictions.type_by.Goals as goal

pub returns : goal.returns
returns c = λ is_pattern decides.
    let d = declaration c.args.statement.now in
    let values = restricted_values c.args.names.now c.args.number d in
    let items = c.items-child-items.result.now in
    let first : DataType = data_type c.in_ok-ty.ty in
    let base = c.base_of-base.result in
    let whole = named_type c.args.names.now d (map data_type c.args.types.items) (type_meaning c.args.names.now c.args.number (argument d)) in
    c.loop-child.invariant is_pattern decides
    ∙ ap (fold (λ t s. restrict_if_taken is_pattern base values t (declaration s)) first) (take_end c.loop-child.child-index items (omega arith) (omega arith))
    ∙ sym (fold-map (restrict_if_taken is_pattern base values) declaration first items)
    ∙ ap (fold (restrict_if_taken is_pattern base values) first) (c.items-child-items.ensures ∙ sym (block-is c.args.statement.now))
    ∙ ap (λ t. fold (restrict_if_taken is_pattern base values) t (block d))
    (c.in_ok-ty.ensures ∙ ap (named_type c.args.names.now d (map data_type c.args.types.items)) c.type_meaning-meaning.ensures)
    ∙ ap (λ b. fold (restrict_if_taken is_pattern b values) whole (block d)) c.base_of-base.ensures
