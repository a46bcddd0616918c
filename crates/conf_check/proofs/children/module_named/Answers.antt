use Rattle.std.proofs.Common.{◌≡◌, [], ◌∷◌, Option, Some, None, ℕ, option_map, ap, ◌∙◌}
use Rattle.std.specs.Option.{option_to_list}
use Rattle.yang_model.specs.Names.{place_of_name}
use Rattle.xpath_part.specs.declared.nodes.Node.{Node}
use Rattle.conf_check.specs.ConfigTree.{module_node}
use Rattle.conf_check.proofs.NamePlaces.{name_placed}
use Rattle.conf_check.proofs.children.module_named.Goals as goal

pub returns-in-Some-clause-children : goal.returns-in-Some-clause-children
returns-in-Some-clause-children c =
    let at : Some c.in-Some.place ≡ place_of_name c.args.name.now c.args.nodes.now.models.now.modules =
    name_placed c.args.name.now c.items.result.now (Some c.in-Some.place) c.in-Some.ensures
    ∙ ap (place_of_name c.args.name.now) (c.items.ensures ∙ c.modules.ensures) in
    ap (λ (n : Node). n ∷ []) c.module_node.ensures ∙ ap (λ (o : Option ℕ). option_to_list (option_map module_node o)) at

pub returns-in-None-clause-children : goal.returns-in-None-clause-children
returns-in-None-clause-children c =
    let none : None ≡ place_of_name c.args.name.now c.args.nodes.now.models.now.modules =
    name_placed c.args.name.now c.items.result.now None c.in-None.ensures
    ∙ ap (place_of_name c.args.name.now) (c.items.ensures ∙ c.modules.ensures) in
    ap (λ (o : Option ℕ). option_to_list (option_map module_node o)) none
