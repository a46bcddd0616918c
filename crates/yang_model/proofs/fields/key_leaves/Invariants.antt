use Rattle.std.proofs.Common.{map, take}
use Rattle.yang_text.specs.Statements.{declaration}
use Rattle.yang_scope.specs.Pieces.{texts}
use Rattle.yang_model.specs.Readers.{Gives}
use Rattle.yang_model.specs.Leaves.{stored, key_leaf}
use Rattle.yang_model.proofs.fields.key_leaves.Given as goal

abbrev pub invariant-loop-key : goal.invariant-loop-key
invariant-loop-key l = Gives l.leaves (λ readers. map (key_leaf stored l.names readers l.number (declaration l.list)) (texts (take l.key-index l.keys)))
