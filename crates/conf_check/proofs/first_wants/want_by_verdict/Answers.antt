use Rattle.yang_types.specs.DataTypes.{data_type}
use Rattle.conf_check.proofs.UnionVerdicts.{refused_unwanted}
use Rattle.conf_check.proofs.first_wants.want_by_verdict.Goals as goal

pub returns-in-Refused : goal.returns-in-Refused
returns-in-Refused c = λ w wanted.
    refused_unwanted c.args.models.now c.args.config.now (data_type c.args.ty.now) c.args.text.now c.in-Refused.ensures w wanted

pub returns-in-Accepted : goal.returns-in-Accepted
returns-in-Accepted c = λ w wanted. c.in-Accepted.ensures.1 w.target wanted.1
