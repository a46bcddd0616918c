use Rattle.std.proofs.Common.{◌++◌, map, take}
use Rattle.yang_model.specs.Readers.{Gives}
use Rattle.yang_model.specs.Leaves.{stored}
use Rattle.yang_model.specs.Shapes.{table_of}
use Rattle.yang_model.specs.TableModels.{table_model}
use Rattle.yang_model.proofs.tables.push_tables.Given as goal

abbrev pub invariant-loop-table : goal.invariant-loop-table
invariant-loop-table l =
    Gives (map table_model l.tables) (λ readers. map table_model l.fn.tables ++ map (table_of stored l.names readers l.container) (take l.table-index l.table-items))
