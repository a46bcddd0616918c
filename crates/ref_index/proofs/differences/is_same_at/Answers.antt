use Rattle.ref_index.proofs.SameListed.{no_want, same_there}
use Rattle.ref_index.proofs.differences.is_same_at.Goals as goal

pub returns-clause-same : goal.returns-clause-same
returns-clause-same c = λ yes. same_there c.args.listed.now c.args.i no_want c.args.at.now c.if-i-listed.false (c.is_same.ensures.0 yes)
