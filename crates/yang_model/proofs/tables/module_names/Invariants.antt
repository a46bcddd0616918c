use Rattle.std.proofs.Common.{◌≡◌, map, take}
use Rattle.yang_model.specs.Leaves.{name_of}
use Rattle.yang_model.proofs.tables.module_names.Given as goal

abbrev pub invariant-loop-number : goal.invariant-loop-number
invariant-loop-number l = l.modules ≡ map (λ m. name_of m.statement) (take l.number l.names)
