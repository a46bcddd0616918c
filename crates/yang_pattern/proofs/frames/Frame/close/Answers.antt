use Rattle.yang_pattern.specs.Reading.{settle}
use Rattle.yang_pattern.proofs.FrameLemmas.{joined_none}
use Rattle.yang_pattern.proofs.frames.Frame.close.Goals as goal

pub returns-in-None : goal.returns-in-None
returns-in-None c = λ r o f. joined_none r c.args.self.choices o.choices c.in_ok-branch.branch (settle o.branch o.last) c.in-None.is f.choices (c.in_ok-branch.ensures r o.branch o.last f.branch f.last)
