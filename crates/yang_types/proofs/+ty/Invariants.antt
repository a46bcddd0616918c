use Rattle.std.proofs.Common.{◌≤◌}
use Rattle.yang_types.specs.declared.types.TyBox.TheDeep.{size-Ty}
use Rattle.yang_types.proofs.+ty.Given as goal

abbrev pub invariant-types::Ty::drop-loop-self : goal.invariant-types::Ty::drop-loop-self
invariant-types::Ty::drop-loop-self l = size-Ty l.self ≤ size-Ty l.fn.self
