use Rattle.std.proofs.Common.{arith}
use Rattle.move_rules.proofs.Dependencies.{keeps_in_entry, keeps_in_table, one_name, says_as, two_names}
use Rattle.move_rules.proofs.no_dependency.keeps_wants.Goals as goal

pub returns-then-len-gt1 : goal.returns-then-len-gt1
returns-then-len-gt1 c =
    let at = c.args.place.now in
    let t = c.name_at.result.now in
    let k = c.name_at-then-len-gt1.result.now in
    let names = two_names at t k c.name_at.ensures.name c.name_at-then-len-gt1.ensures.name in
    says_as c.entry_keeps.result c.entry_keeps.ensures (keeps_in_entry c.args.models.now c.args.config.now c.args.other.now at c.args.index t k names.0 names.1)

pub returns-else-len-gt1 : goal.returns-else-len-gt1
returns-else-len-gt1 c =
    let at = c.args.place.now in
    let t = c.name_at-else-len-gt1.result.now in
    says_as c.table_keeps.result c.table_keeps.ensures
    (keeps_in_table c.args.models.now c.args.config.now c.args.other.now at c.args.index t (one_name at t (omega arith) c.name_at-else-len-gt1.ensures.name))
