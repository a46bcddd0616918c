use Rattle.yang_pattern.proofs.FrameLemmas.{quantified_some}
use Rattle.yang_pattern.proofs.frames.Frame.with_times.Goals as goal

pub returns-in_ok-branch-in-Some : goal.returns-in_ok-branch-in-Some
returns-in_ok-branch-in-Some c = λ r o f.
    quantified_some r c.args.self.last c.in-Some.atom c.args.self.choices c.in_ok-branch-in-Some.branch o.choices o.branch o.last c.args.quantifier c.in-Some.is f.choices f.last (λ d is. c.in_ok-branch-in-Some.ensures r o.branch d f.branch is)
