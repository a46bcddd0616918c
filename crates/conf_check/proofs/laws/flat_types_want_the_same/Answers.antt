use Rattle.conf_check.proofs.FlatTypes.{accepts_flat, wants_flat}
use Rattle.conf_check.proofs.laws.flat_types_want_the_same.Goals as goal

pub returns-clause-accepts : goal.returns-clause-accepts
returns-clause-accepts c = accepts_flat

pub returns-clause-wants : goal.returns-clause-wants
returns-clause-wants c = wants_flat
