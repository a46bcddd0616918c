use Rattle.std.proofs.Common.{take, take_all, refl, sym}
use Rattle.std.proofs.lemmas.List.Elements.{All-same}
use Rattle.yang_values.specs.Endings.{DoesEnd}
use Rattle.yang_values.specs.Walks.{placed}
use Rattle.yang_values.specs.declared.walks.Place.{Place}
use Rattle.yang_values.proofs.Ends.{all_more}
use Rattle.yang_values.proofs.endings.Endings.do_end.Goals as goal

pub loop-place-preserved : goal.loop-place-preserved
loop-place-preserved c =
    let P : Place → Type 0 = λ p. DoesEnd c.args.self.now (placed p) in
    all_more P c.args.places.now c.loop-place.place-index c.place-item.result c.loop-place-test.true c.place-item.is c.loop-place.invariant
    (c.if-not-does_end.ensures refl)

pub returns : goal.returns
returns c = λ e.
    let P : Place → Type 0 = λ p. DoesEnd c.args.self.now (placed p) in
    All-same P c.args.places.now (take c.loop-place.place-index c.args.places.now) (sym (take_all c.loop-place.place-index c.args.places.now c.loop-place-test.false))
    c.loop-place.invariant
