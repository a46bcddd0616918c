use Rattle.std.proofs.Common.{◌≡◌, ◌≤◌, Some, length, slice_get, ap, subst, arith}
use Rattle.move_core.specs.Moves.{place}
use Rattle.recheck.proofs.Losers.{is_loser}
use Rattle.recheck.proofs.losses.first_loser.Goals as goal

pub returns-in-1 : goal.returns-in-1
returns-in-1 c =
    let table = c.name_at.result.now in
    let same = ap length c.place-place.ensures in
    let few : length (place c.args.mv.now) ≤ 2 = omega (arith, same) in
    is_loser c.args.models.now c.args.index.now.config c.args.next.now c.args.mv.now table c.referrer_of_gone_key.result few
    (subst (λ p. slice_get p 0 ≡ Some table) c.place-place.ensures c.name_at.ensures.name) c.referrer_of_gone_key.ensures

pub returns-in-2 : goal.returns-in-2
returns-in-2 c =
    let table = c.name_at-in-2.result.now in
    let same = ap length c.place-place.ensures in
    let few : length (place c.args.mv.now) ≤ 2 = omega (arith, same) in
    is_loser c.args.models.now c.args.index.now.config c.args.next.now c.args.mv.now table c.referrer_of_key_if_gone.result few
    (subst (λ p. slice_get p 0 ≡ Some table) c.place-place.ensures c.name_at-in-2.ensures.name) c.referrer_of_key_if_gone.ensures
