use Rattle.std.proofs.Common.{below_more, get_or, arith}
use Rattle.ref_index.specs.declared.places.Place.{Place}
use Rattle.recheck.specs.Changes.{AreElsewhere, IsOnOne}
use Rattle.recheck.specs.Verdicts.{is_elsewhere}
use Rattle.recheck.proofs.VerdictDrops.{among_among, among_filter, among_itself, none_at, still_elsewhere}
use Rattle.recheck.proofs.RemainingVerdicts.{left_more, one_left}
use Rattle.recheck.proofs.ParallelWalks.{left_itself}
use Rattle.recheck.proofs.changes.drop_places.Goals as goal

pub loop-place-init : goal.loop-place-init
loop-place-init c = record { among = among_itself c.args.verdicts.now.items; left = left_itself (IsOnOne c.args.places.now) c.args.verdicts.now.items; dropped = λ k d lt. absurd (omega (arith, lt)) }

pub loop-place-preserved : goal.loop-place-preserved
loop-place-preserved c =
    let p = c.place-item.result in
    let old = c.loop-place.verdicts.items in
    let new = c.drop_at.new.verdicts.items in
    let among = among_filter (is_elsewhere c.as_str.result.now c.as_str-in-loop-place.result.now) old new c.drop_at.ensures.rest c.drop_at.ensures.shorter in
    record {
      among = among_among c.args.verdicts.now.items old new c.loop-place.invariant.among among;
      left = left_more (IsOnOne c.args.places.now) c.args.verdicts.now.items old new c.loop-place.invariant.left
          (one_left c.args.places.now c.loop-place.place-index p c.as_str.result.now c.as_str-in-loop-place.result.now old new c.as_str.ensures.text
          c.as_str-in-loop-place.ensures.text c.drop_at.ensures.rest c.loop-place-test.true c.place-item.is);
      dropped =
          λ k d lt.
          below_more (λ k. (d : Place) → AreElsewhere (get_or c.args.places.now k d) new) c.loop-place.place-index
          (λ k lt d. still_elsewhere (get_or c.args.places.now k d) old new among (c.loop-place.invariant.dropped k d lt))
          (none_at c.args.places.now c.loop-place.place-index p c.as_str.result.now c.as_str-in-loop-place.result.now old new c.as_str.ensures.text
          c.as_str-in-loop-place.ensures.text c.drop_at.ensures.rest c.loop-place-test.true c.place-item.is) k lt d;
    }
