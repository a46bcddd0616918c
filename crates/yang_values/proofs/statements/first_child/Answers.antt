use Rattle.std.proofs.Common.{◌∙◌, option_map, sym, ap}
use Rattle.yang_text.specs.Statements.{declaration}
use Rattle.yang_scope.proofs.Blocks.{copied-map, first_child-is}
use Rattle.yang_values.proofs.statements.first_child.Goals as goal

pub returns : goal.returns
returns c =
    copied-map declaration c.first_of.result
    ∙ ap (option_map declaration) c.first_of.ensures
    ∙ sym (first_child-is c.args.keyword.now c.args.statement.now c.items.result.now c.items.ensures)
