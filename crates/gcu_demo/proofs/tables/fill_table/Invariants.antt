use Rattle.std.proofs.Common.{◌≡◌, ◌≤◌, ◌-◌, map}
use Rattle.std.specs.List.{range_with_len}
use Rattle.gcu_demo.specs.Demo.{in_order}
use Rattle.gcu_demo.specs.RowsOf.{row}
use Rattle.gcu_demo.proofs.tables.fill_table.Given as goal

-- the rows from number i on are there
abbrev pub invariant-loop-i : goal.invariant-loop-i
invariant-loop-i l = record {
  within : l.i ≤ l.fn.count;
  rows : l.table ≡ in_order (map (row l.fn.rows) (range_with_len l.i (l.fn.count - l.i)));
}

abbrev pub decreases-loop-i : goal.decreases-loop-i
decreases-loop-i l = l.i
