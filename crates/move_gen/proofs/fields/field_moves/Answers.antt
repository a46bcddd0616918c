use Rattle.move_gen.specs.FieldsOfEntry.{IsFieldOf}
use Rattle.move_gen.specs.Given.{IsOfFields}
use Rattle.move_gen.proofs.ListGrowth.{gives_alike}
use Rattle.move_gen.proofs.FieldMoves.{of_one_entry}
use Rattle.move_gen.proofs.fields.field_moves.Goals as goal

pub returns : goal.returns
returns c cur aim before after =
    let t = c.args.table.now in let k = c.args.key.now in let old = c.args.old.now in let new = c.args.new.now in
    gives_alike (IsOfFields t k old new) (IsFieldOf cur aim t k) c.give_fields.result c.args.out.now.items c.give_fields.new.out.items
    (λ g. of_one_entry cur aim t k old new g before after) c.give_fields.ensures
