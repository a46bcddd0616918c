use Rattle.std.proofs.Common.{◌≡◌, ◌∙◌, Some, None, codes, option_map, sym, ap}
use Rattle.std.specs.Option.{option_copied, option_map_or}
use Rattle.yang_text.specs.Declarations.{argument}
use Rattle.yang_text.specs.Statements.{declaration}
use Rattle.yang_scope.specs.Meanings.{type_meaning}
use Rattle.yang_scope.specs.Statements.{first_child}
use Rattle.yang_scope.specs.declared.meanings.Meaning.TheVariants.{Nothing}
use Rattle.yang_scope.proofs.Blocks.{first_child-is}
use Rattle.yang_scope.proofs.module_sets.ModuleSet.typedef_meaning.Goals as goal

pub returns-in-Some : goal.returns-in-Some
returns-in-Some c =
    let found : first_child (codes "type") (declaration c.args.statement.now) ≡ Some (declaration c.in-Some.ty.now) =
    first_child-is (codes "type") c.args.statement.now c.items.result.now c.items.ensures
    ∙ ap (option_map declaration) (sym c.first_of.ensures ∙ ap option_copied c.in-Some.is) in
    c.type_meaning.ensures
    ∙ sym (ap (λ o. option_map_or (λ t. type_meaning c.args.self.now c.args.number (argument t)) o Nothing) found)

pub returns-in-None : goal.returns-in-None
returns-in-None c =
    let found : first_child (codes "type") (declaration c.args.statement.now) ≡ None =
    first_child-is (codes "type") c.args.statement.now c.items.result.now c.items.ensures
    ∙ ap (option_map declaration) (sym c.first_of.ensures ∙ ap option_copied c.in-None.is) in
    sym (ap (λ o. option_map_or (λ t. type_meaning c.args.self.now c.args.number (argument t)) o Nothing) found)
