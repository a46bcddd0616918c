use Rattle.yang_pattern.proofs.Decisions.{decided_by}
use Rattle.yang_types.specs.Accepts.{Accepts}
use Rattle.yang_types.proofs.Accepting.{accepts_told}
use Rattle.yang_types.proofs.laws.texts_are_decided.Goals as goal

pub returns : goal.returns
returns c = λ t. decided_by (Accepts t) (accepts_told c.matches_are_decided.ensures t)
