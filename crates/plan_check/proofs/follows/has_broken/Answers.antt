use Rattle.std.proofs.Common.{subst, sym}
use Rattle.move_core.specs.Moves.{place}
use Rattle.plan_check.specs.Broken.{HasOneBroken}
use Rattle.plan_check.proofs.BrokenWants.{broken_if, broken_then}
use Rattle.plan_check.proofs.follows.has_broken.Goals as goal

pub returns : goal.returns
returns c =
    let s = c.args.sought.now in
    let h = s.here.now in
    let next = c.args.next.now in
    let p = place s.mv.now in
    let item = c.args.item in
    let ats = s.wants.now in (
      λ t. broken_if h next p item ats c.requires
          (subst (λ q. HasOneBroken h next q item ats) c.place.ensures (c.has_one_broken.ensures.0 t)),
      λ has. c.has_one_broken.ensures.1
          (subst (λ q. HasOneBroken h next q item ats) (sym c.place.ensures) (broken_then h next p item ats c.requires has)),
    )
