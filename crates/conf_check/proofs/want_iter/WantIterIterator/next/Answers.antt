use Rattle.std.proofs.Common.{refl}
use Rattle.conf_check.proofs.RemainingPlaces.{places_fall, progress}
use Rattle.conf_check.proofs.RemainingWants.{given, shape_stays}
use Rattle.conf_check.proofs.want_iter.WantIterIterator.next.Goals as goal

pub invariant_of-self : goal.invariant_of-self
invariant_of-self c = record { shaped = shape_stays c.args.self.now c.in_ok-place.place c.in_ok-place.ensures.first.0.0.within }

pub returns-clause-steps : goal.returns-clause-steps
returns-clause-steps c = record {
  models = refl;
  config = refl;
  gives = given c.args.self.now c.in_ok-place.place _ c.in_ok-place.at c.in_ok-place.ensures.first c.in_ok-place.ensures.named;
}

pub returns-clause-goes : goal.returns-clause-goes
returns-clause-goes c =
    progress _ _ _ _ _ _ refl tt tt
    (places_fall c.args.self.now.from c.in_ok-place.place c.in_ok-place.ensures.first.0.0.behind
    c.has_small_numbers.ensures.table c.has_small_numbers.ensures.key c.has_small_numbers.ensures.field c.has_small_numbers.ensures.item)
