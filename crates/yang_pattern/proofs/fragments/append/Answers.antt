use Rattle.std.proofs.Common.{◌≡◌, subst, length, arith}
use Rattle.std.proofs.lemmas.List.{get_or_read, take_all}
use Rattle.yang_pattern.specs.PlaceSets.{IsShifted, place_at, nowhere, IsAppended}
use Rattle.yang_pattern.proofs.Appending.{append_more}
use Rattle.yang_pattern.proofs.fragments.append.Goals as goal

pub loop-place-preserved : goal.loop-place-preserved
loop-place-preserved c =
    let old = c.args.places.now.items in
    let more = c.args.more.now in
    let i = c.loop-place.place-index in
    let read : c.place-item.result ≡ place_at more i = get_or_read more i c.place-item.result c.loop-place-test.true c.place-item.is nowhere in
    let count : c.len-count.result ≡ length old = omega arith in
    let shift = subst (λ n. IsShifted n (place_at more i) c.shift.result) count (subst (λ p. IsShifted c.len-count.result p c.shift.result) read c.shift.ensures) in
    rw c.in_ok-push.ensures.items (append_more old more c.loop-place.places.items i c.shift.result c.loop-place-test.true c.loop-place.invariant shift)

pub returns : goal.returns
returns c =
    subst (λ xs. IsAppended c.args.places.now.items xs c.loop-place.places.items) (take_all c.loop-place.place-index c.args.more.now c.loop-place-test.false) c.loop-place.invariant
