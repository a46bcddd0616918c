use Rattle.yang_types.proofs.FlatTypes.{type_accepts}
use Rattle.yang_types.proofs.laws.flat_types_accept_the_same.Goals as goal

pub returns : goal.returns
returns c = type_accepts
