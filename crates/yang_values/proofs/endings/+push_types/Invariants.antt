use Rattle.std.proofs.Common.{map}
use Rattle.yang_text.specs.Declarations.{total_weight}
use Rattle.yang_text.specs.Statements.{declaration}
use Rattle.yang_values.proofs.endings.+push_types.Given as goal

abbrev pub decreases-push_types : goal.decreases-push_types
decreases-push_types l = total_weight (map declaration l.statements.now)
