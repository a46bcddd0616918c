use Rattle.std.proofs.Common.{map, take}
use Rattle.std.specs.List.{flat_map}
use Rattle.yang_model.specs.Readers.{Gives}
use Rattle.yang_model.specs.Leaves.{stored}
use Rattle.yang_model.specs.Shapes.{tables_in}
use Rattle.yang_model.specs.TableModels.{table_model}
use Rattle.yang_model.proofs.tables.all_tables.Given as goal

abbrev pub invariant-loop-container : goal.invariant-loop-container
invariant-loop-container l = Gives (map table_model l.tables) (λ readers. flat_map (tables_in stored l.names readers) (take l.container-index l.container-items))
