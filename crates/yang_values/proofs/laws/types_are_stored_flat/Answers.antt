use Rattle.yang_values.proofs.WrittenTypes.{default_alike, value_flat}
use Rattle.yang_values.proofs.laws.types_are_stored_flat.Goals as goal

pub returns-clause-types : goal.returns-clause-types
returns-clause-types c = value_flat

pub returns-clause-defaults : goal.returns-clause-defaults
returns-clause-defaults c = default_alike
