use Rattle.std.proofs.Common.{None, Some}
use Rattle.plan_check.proofs.BrokenWants.{item_place, own_place, referrer_as}
use Rattle.plan_check.proofs.follows.is_referrer.Goals as goal

pub returns-in-Remove : goal.returns-in-Remove
returns-in-Remove c =
    let s = c.args.sought.now in
    let both = referrer_as s.here.now c.args.next.now s.mv.now None (own_place s.mv.now _ c.in-Remove.is) in
    (λ t. both.0 (c.has_broken.ensures.0 t), λ is. c.has_broken.ensures.1 (both.1 is))

pub returns-in-RemoveItem : goal.returns-in-RemoveItem
returns-in-RemoveItem c =
    let s = c.args.sought.now in
    let both = referrer_as s.here.now c.args.next.now s.mv.now (Some _) (item_place s.mv.now _ _ c.in-RemoveItem.is) in
    (λ t. both.0 (c.has_broken-in-RemoveItem.ensures.0 t), λ is. c.has_broken-in-RemoveItem.ensures.1 (both.1 is))
