use Rattle.std.proofs.Common.{◌≤◌, length, subst, arith}
use Rattle.conf_check.specs.Faults.{IsFirstInTable}
use Rattle.conf_check.proofs.Breaches.{table_first, tables_none}
use Rattle.conf_check.proofs.checking.check.Goals as goal

pub returns-in-Some : goal.returns-in-Some
returns-in-Some c =
    table_first c.args.models.now c.args.config.now c.loop-table.table c.in-Some.violation c.loop-table.invariant
    (subst (λ m. IsFirstInTable m c.args.config.now c.loop-table.table c.in-Some.violation) c.nodes_of-nodes.ensures.models
    (subst (λ o. IsFirstInTable c.nodes_of-nodes.result.models.now o c.loop-table.table c.in-Some.violation) c.nodes_of-nodes.ensures.config c.in-Some.ensures))

pub returns : goal.returns
returns c =
    let past : length c.args.config.now ≤ c.loop-table.table = omega (arith, c.len-table-end.ensures.len, c.loop-table-test.false) in
    tables_none c.args.models.now c.args.config.now c.loop-table.table past c.loop-table.invariant
