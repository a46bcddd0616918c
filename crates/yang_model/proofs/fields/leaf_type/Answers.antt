use Rattle.std.proofs.Common.{◌≡◌, Option, Some, None, codes, option_map, sym, ap, subst, ◌∙◌, IfOk}
use Rattle.std.specs.Option.{option_copied, option_map_or}
use Rattle.yang_text.specs.Declarations.{Declaration}
use Rattle.yang_text.specs.Statements.{declaration}
use Rattle.yang_types.specs.declared.types.Ty.TheVariants.{Text}
use Rattle.yang_scope.specs.Statements.{first_child}
use Rattle.yang_scope.proofs.Blocks.{first_child-is}
use Rattle.yang_model.specs.Readers.{Gives}
use Rattle.yang_model.specs.Leaves.{stored}
use Rattle.yang_model.specs.ShapeCodes.{ty_of}
use Rattle.yang_model.proofs.fields.leaf_type.Goals as goal

pub returns-in-Some : goal.returns-in-Some
returns-in-Some c =
    let found : Some (declaration c.in-Some.statement.now) ≡ first_child (codes "type") (declaration c.args.leaf.now) =
    ap (option_map declaration) (ap option_copied (sym c.in-Some.is) ∙ c.first_of.ensures)
    ∙ sym (first_child-is (codes "type") c.args.leaf.now c.items.result.now c.items.ensures) in
    let P : Option Declaration → Type 0 = λ o. IfOk c.type_of.result (λ ty. Gives ty (λ readers. option_map_or (λ t. ty_of (stored c.args.names.now readers c.args.number t)) o Text)) in
    subst P found c.type_of.ensures

pub returns-in-None : goal.returns-in-None
returns-in-None c = λ readers is.
    let found : None ≡ first_child (codes "type") (declaration c.args.leaf.now) =
    ap (option_map declaration) (ap option_copied (sym c.in-None.is) ∙ c.first_of.ensures)
    ∙ sym (first_child-is (codes "type") c.args.leaf.now c.items.result.now c.items.ensures) in
    ap (λ (o : Option Declaration). option_map_or (λ t. ty_of (stored c.args.names.now readers c.args.number t)) o Text) found
