use Rattle.std.proofs.Common.{sym, ◌∙◌}
use Rattle.std.specs.List.{list_any}
use Rattle.yang_types.specs.DataTypes.{data_type}
use Rattle.ref_index.specs.Referring.{type_refers}
use Rattle.ref_index.proofs.Leafrefs.{either_first, either_second}
use Rattle.ref_index.proofs.referring.shape_refers.Goals as goal

pub returns-then-keys_refer : goal.returns-then-keys_refer
returns-then-keys_refer c =
    let to = c.args.to.now in
    let shape = c.args.shape.now in
    either_first (list_any (λ leaf. type_refers to (data_type leaf.ty)) shape.keys) (list_any (λ rule. type_refers to (data_type rule.ty)) shape.fields)
    (sym c.keys_refer.ensures ∙ c.if-keys_refer.true)

pub returns : goal.returns
returns c =
    let to = c.args.to.now in
    let shape = c.args.shape.now in
    c.fields_refer.ensures
    ∙ either_second (list_any (λ leaf. type_refers to (data_type leaf.ty)) shape.keys) (list_any (λ rule. type_refers to (data_type rule.ty)) shape.fields)
    (sym c.keys_refer.ensures ∙ c.if-keys_refer.false)
