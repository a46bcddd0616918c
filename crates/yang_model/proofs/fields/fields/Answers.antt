use Rattle.std.proofs.Common.{List, map, take_all, ap, sym, ◌∙◌}
use Rattle.std.specs.List.{flat_map}
use Rattle.yang_text.specs.Declarations.{Declaration}
use Rattle.yang_text.specs.Statements.{declaration}
use Rattle.yang_scope.specs.Pieces.{texts}
use Rattle.yang_scope.proofs.Blocks.{block-is}
use Rattle.yang_model.specs.Leaves.{stored, field_at}
use Rattle.yang_model.proofs.fields.fields.Goals as goal

pub returns : goal.returns
returns c = λ readers is.
    c.loop-statement.invariant readers is
    ∙ ap (λ (ds : List Declaration). flat_map (field_at stored c.args.names.now readers c.args.number (texts c.args.keys.now)) ds)
    (ap (map declaration) (take_all c.loop-statement.statement-index c.items-statement-items.result.now c.loop-statement-test.false)
    ∙ c.items-statement-items.ensures ∙ sym (block-is c.args.shape.now))
