use Rattle.std.proofs.Common.{◌≡◌, map, take, not, length, ◌==◌}
use Rattle.yang_text.specs.Statements.{declaration}
use Rattle.yang_scope.specs.Faults.{least_of}
use Rattle.yang_faults.specs.Sentences.{repeated, children}
use Rattle.yang_faults.proofs.sentences.note_repeated.Given as goal

abbrev pub invariant-loop-statement : goal.invariant-loop-statement
invariant-loop-statement l =
    (l.least ≡ least_of l.initial.least (repeated l.file l.name (map declaration (take l.statement-index l.statements))))
    × (l.seen ≡ not (length (children l.name (map declaration (take l.statement-index l.statements))) == 0))
