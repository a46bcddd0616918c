use Rattle.std.proofs.Common.{map, take}
use Rattle.std.specs.List.{flat_map}
use Rattle.yang_text.specs.Statements.{declaration}
use Rattle.yang_faults.specs.Keys.{leaf_name}
use Rattle.yang_faults.specs.NameSets.{IsSetOf}
use Rattle.yang_faults.proofs.keys.leaves_of.Given as goal

abbrev pub invariant-loop-statement : goal.invariant-loop-statement
invariant-loop-statement l = IsSetOf l.leaves.names (flat_map leaf_name (map declaration (take l.statement-index l.statements)))
