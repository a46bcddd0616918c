use Rattle.std.proofs.Common.{arith}
use Rattle.yang_pattern.proofs.FrameLemmas.{leave_none, leave_some}
use Rattle.yang_pattern.proofs.frames.Reader.leave.Goals as goal

pub returns-in-None : goal.returns-in-None
returns-in-None c = λ r s is. leave_none r c.args.self.outer.items s.outer s.current (omega (arith, c.in-None.ensures.cases.0)) is.outer

pub returns-in_ok-current-in-Some : goal.returns-in_ok-current-in-Some
returns-in_ok-current-in-Some c = λ r s is.
    leave_some r c.args.self.outer.items s.outer s.current c.in-Some.frame (record { outer = c.pop.new.self; current = c.in_ok-current-in-Some.current }) c.in-Some.ensures.items
    (λ p f. c.in_ok-current-in-Some.ensures r p s.current f is.current) is.outer
