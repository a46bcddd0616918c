use Rattle.std.proofs.Common.{take}
use Rattle.yang_scope.specs.Statements.{each_from}
use Rattle.yang_faults.specs.AllFaults.{module_faults_at}
use Rattle.yang_faults.specs.Tests.{Notes}
use Rattle.yang_faults.proofs.all_faults.note_module_faults.Given as goal

abbrev pub invariant-loop-number : goal.invariant-loop-number
invariant-loop-number l = Notes l.initial.least l.least (λ tests. each_from (module_faults_at l.names tests) 0 (take l.number l.names))
