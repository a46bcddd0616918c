use Rattle.std.proofs.Common.{take}
use Rattle.yang_scope.specs.Pieces.{texts}
use Rattle.yang_faults.specs.NameSets.{IsSetOf}
use Rattle.yang_faults.proofs.fields.set_of.Given as goal

abbrev pub invariant-loop-name : goal.invariant-loop-name
invariant-loop-name l = IsSetOf l.set.names (texts (take l.name-index l.names))
