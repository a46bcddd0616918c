use Rattle.std.proofs.Common.{Some, sym, ap, ◌∙◌}
use Rattle.plan_check.proofs.Following.{upper_if, upper_then}
use Rattle.plan_check.proofs.Loops.{not_so}
use Rattle.plan_check.proofs.follows.is_upper.Goals as goal

pub returns-then-not-is_above : goal.returns-then-not-is_above
returns-then-not-is_above c =
    let s = c.args.sought.now in (
      λ t. absurd cc,
      λ up. absurd
          (not_so c.is_above.result c.is_above.ensures.1 c.if-not-is_above.true
          ((upper_then s.here.now.goal.now c.args.mv.now s.mv.now up).1 ∙ ap Some (sym c.place.ensures))),
    )

pub returns : goal.returns
returns c =
    let s = c.args.sought.now in
    let g = s.here.now.goal.now in
    let m = c.args.mv.now in (
      λ t. upper_if g m s.mv.now (c.requires.0 t) (c.is_above.ensures.0 c.if-not-is_above.false ∙ ap Some c.place.ensures),
      λ up. c.requires.1 (upper_then g m s.mv.now up).0,
    )
