use Rattle.conf_check.proofs.FlatBreaches.{breach_flat, valid_flat}
use Rattle.conf_check.proofs.FlatModels.{satisfied_flat, want_flat}
use Rattle.conf_check.proofs.laws.flat_models_say_the_same.Goals as goal

pub returns-clause-satisfied : goal.returns-clause-satisfied
returns-clause-satisfied c = satisfied_flat

pub returns-clause-wants : goal.returns-clause-wants
returns-clause-wants c = want_flat

pub returns-clause-breaches : goal.returns-clause-breaches
returns-clause-breaches c = breach_flat

pub returns-clause-valid : goal.returns-clause-valid
returns-clause-valid c = valid_flat
