use Rattle.std.proofs.Common.{inl, inr, ◌≡◌, ◌+◌, ◌<◌, length, arith}
use Rattle.std.proofs.lemmas.Bool.{cases_lt}
use Rattle.patch_core.proofs.WeightCounts.{item_weighs, item_goes_on, item_stops, member_weighs, member_goes_on, member_stops, member_too_long}
use Rattle.patch_core.proofs.weights.+weighing.Goals as goal

pub left_after_items-left_after-requires : goal.left_after_items-left_after-requires
left_after_items-left_after-requires t c = (omega (arith, item_weighs c.loop-i.i c.args.items.now _ c.at.ensures), tt)

pub left_after_items-returns-in_err-left : goal.left_after_items-returns-in_err-left
left_after_items-returns-in_err-left t c = rw c.from_residual.ensures (item_stops c.loop-i.i c.args.items.now _ c.loop-i.left c.args.budget c.args.levels c.at.ensures c.loop-i.invariant c.in_err-left.ensures)

pub left_after_items-loop-i-preserved : goal.left_after_items-loop-i-preserved
left_after_items-loop-i-preserved t c = item_goes_on c.loop-i.i c.args.items.now _ c.loop-i.left c.in_ok-left.left c.args.budget c.args.levels c.at.ensures c.loop-i.invariant c.in_ok-left.ensures

pub left_after_members-returns-in_err-rest : goal.left_after_members-returns-in_err-rest
left_after_members-returns-in_err-rest t c =
    let k = c.name_at.result.now in
    let short : c.loop-i.left < length k = elim (cases_lt c.loop-i.left (length k)) [ inl lt ↦ lt | inr le ↦ absurd (c.in_err-rest.ensures le) ] in
    rw c.from_residual.ensures (λ fits. absurd (omega (arith, member_too_long c.loop-i.i c.args.members.now k c.name_at.ensures, c.loop-i.invariant.0)))

pub left_after_members-left_after-requires : goal.left_after_members-left_after-requires
left_after_members-left_after-requires t c = (omega (arith, member_weighs c.loop-i.i c.args.members.now _ _ c.name_at.ensures c.at.ensures), tt)

pub left_after_members-returns-in_err-left : goal.left_after_members-returns-in_err-left
left_after_members-returns-in_err-left t c =
    let name : c.in_ok-rest.rest + length c.name_at.result.now ≡ c.loop-i.left = omega (arith, c.in_ok-rest.ensures) in
    rw c.from_residual-in_err-left.ensures (member_stops c.loop-i.i c.args.members.now c.name_at.result.now _ c.loop-i.left c.args.budget c.args.levels c.name_at.ensures c.at.ensures c.loop-i.invariant (λ light. c.in_err-left.ensures (omega (arith, light, name))))

pub left_after_members-loop-i-preserved : goal.left_after_members-loop-i-preserved
left_after_members-loop-i-preserved t c =
    let name : c.in_ok-rest.rest + length c.name_at.result.now ≡ c.loop-i.left = omega (arith, c.in_ok-rest.ensures) in
    member_goes_on c.loop-i.i c.args.members.now c.name_at.result.now _ c.loop-i.left c.in_ok-rest.rest c.in_ok-left.left c.args.budget c.args.levels c.name_at.ensures c.at.ensures c.loop-i.invariant name c.in_ok-left.ensures
