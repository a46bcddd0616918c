use Rattle.yang_values.proofs.CirclesTold.{circles_told}
use Rattle.yang_values.proofs.laws.circles_are_decided.Goals as goal

pub returns : goal.returns
returns c = circles_told
