use Rattle.gcu_output.proofs.lines.refused_line.Goals as goal

pub returns : goal.returns
returns c = rw (← c.status.ensures, ← c.in_ok-said.ensures, ← c.as_str.ensures.value) c.numbered_line.ensures
