use Rattle.move_core.proofs.FlatRulebooks.{allowed_flat, reachable_flat, way_flat}
use Rattle.move_core.proofs.laws.flat_models_allow_the_same.Goals as goal

pub returns-clause-allowed : goal.returns-clause-allowed
returns-clause-allowed c = allowed_flat

pub returns-clause-ways : goal.returns-clause-ways
returns-clause-ways c = way_flat

pub returns-clause-reachable : goal.returns-clause-reachable
returns-clause-reachable c = reachable_flat
