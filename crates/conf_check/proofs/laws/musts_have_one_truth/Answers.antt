use Rattle.conf_check.proofs.MustTruth.{one_truth}
use Rattle.conf_check.proofs.laws.musts_have_one_truth.Goals as goal

pub returns : goal.returns
returns c = one_truth
