use Rattle.std.proofs.Common.{◌≡◌, take}
use Rattle.std.specs.List.{flat_map}
use Rattle.yang_text.specs.Statements.{declaration}
use Rattle.yang_scope.specs.Faults.{least_of}
use Rattle.yang_scope.specs.TypeFaults.{wrong_if_path}
use Rattle.yang_scope.proofs.type_faults.note_wrong_paths.Given as goal

abbrev pub invariant-loop-child : goal.invariant-loop-child
invariant-loop-child l = l.least ≡ least_of l.fn.least (flat_map (λ s. wrong_if_path l.names l.file l.number (declaration s)) (take l.child-index l.child-items))
