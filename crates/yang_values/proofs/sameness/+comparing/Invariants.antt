use Rattle.std.proofs.Common.{◌≡◌, ◌+◌, ◌*◌, drop, map}
use Rattle.yang_text.specs.Declarations.{block_of, weight, total_weight}
use Rattle.yang_text.specs.Statements.{declaration}
use Rattle.yang_values.specs.Sameness.{same_block}
use Rattle.yang_values.proofs.sameness.+comparing.Given as goal

abbrev pub decreases-same_block : goal.decreases-same_block
decreases-same_block l = 2 * total_weight l.one.now + 1

abbrev pub decreases-same_declaration : goal.decreases-same_declaration
decreases-same_declaration l = 2 * weight (declaration l.one.now)

abbrev pub invariant-same_block-loop-i : goal.invariant-same_block-loop-i
invariant-same_block-loop-i l = same_block (block_of l.one) (block_of l.other) ≡ same_block (block_of (map declaration (drop l.i l.statements))) (block_of (map declaration (drop l.i l.others)))
