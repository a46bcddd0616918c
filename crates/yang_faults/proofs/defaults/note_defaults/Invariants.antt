use Rattle.std.proofs.Common.{ℕ, List, map, take}
use Rattle.yang_text.specs.Statements.{declaration}
use Rattle.yang_faults.specs.DefaultFaults.{bad_defaults}
use Rattle.yang_faults.specs.NameSets.{IsSetOf}
use Rattle.yang_faults.specs.Tests.{Notes}
use Rattle.yang_faults.proofs.defaults.note_defaults.Given as goal

abbrev pub invariant-loop-statement : goal.invariant-loop-statement
invariant-loop-statement l = (known : List (List ℕ)) → IsSetOf l.keys.names known
    → Notes l.initial.least l.least (λ tests. bad_defaults l.scope.names.now tests l.scope.file l.scope.number known (map declaration (take l.statement-index l.statements)))
