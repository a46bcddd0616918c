use Rattle.std.proofs.Common.{inl, subst}
use Rattle.plan_texts.proofs.CountLemmas.{Counts}
use Rattle.plan_texts.proofs.PlanLines.{no_count_line, no_line}
use Rattle.plan_texts.proofs.reading.read_plan.Goals as goal

pub returns-in_default : goal.returns-in_default
returns-in_default c = inl (no_line c.args.bytes.now c.in_default.ensures)

pub returns-in-None : goal.returns-in-None
returns-in-None c =
    let line = c.in-Some.line.now in
    let none = subst (Counts line) c.in-None.is c.in_ok-count.ensures in
    inl (no_count_line c.args.bytes.now line c.in-Some.steps.now c.in-Some.ensures.0 c.in-Some.ensures.1 none)
