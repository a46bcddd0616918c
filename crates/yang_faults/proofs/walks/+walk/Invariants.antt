use Rattle.std.proofs.Common.{◌+◌, ◌*◌, map, take}
use Rattle.std.specs.List.{flat_map}
use Rattle.yang_text.specs.Declarations.{weight, total_weight}
use Rattle.yang_text.specs.Statements.{declaration}
use Rattle.yang_faults.specs.Tests.{Notes}
use Rattle.yang_faults.specs.Walks.{below_faults}
use Rattle.yang_faults.proofs.walks.+walk.Given as goal

abbrev pub decreases-note_statement : goal.decreases-note_statement
decreases-note_statement g l = 3 * weight (declaration l.statement.now)

abbrev pub decreases-note_block : goal.decreases-note_block
decreases-note_block g l = 3 * total_weight l.block.now + 2

abbrev pub decreases-note_below : goal.decreases-note_below
decreases-note_below g l = 3 * weight (declaration l.statement.now) + 1

abbrev pub invariant-note_block-loop-statement : goal.invariant-note_block-loop-statement
invariant-note_block-loop-statement g l =
    Notes l.initial.least l.least
    (λ tests. flat_map (below_faults (g.S.Scope.knows l.scope) (g.S.Scope.settles l.scope) (g.S.Scope.named l.scope tests) l.file l.kind) (map declaration (take l.statement-index l.statement-items)))
