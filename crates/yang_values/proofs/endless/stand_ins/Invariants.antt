use Rattle.std.proofs.Common.{map, take}
use Rattle.std.specs.List.{AllZip}
use Rattle.yang_types.specs.DataTypes.{data_type}
use Rattle.yang_values.specs.Endless.{known_of, StandsFor}
use Rattle.yang_values.specs.Walks.{placed}
use Rattle.yang_values.proofs.endless.stand_ins.Given as goal

abbrev pub invariant-loop-place : goal.invariant-loop-place
invariant-loop-place l = AllZip (StandsFor (map known_of l.known)) (map placed (take l.place-index l.places)) (map data_type l.types.items)
