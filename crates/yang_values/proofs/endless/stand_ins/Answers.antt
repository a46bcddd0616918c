use Rattle.std.proofs.Common.{◌<◌, length, map, sym, subst, arith}
use Rattle.std.specs.Prelude.{Contains}
use Rattle.yang_types.specs.DataTypes.{data_type}
use Rattle.yang_scope.specs.Paths.{Placed}
use Rattle.yang_values.specs.Endless.{known_of, place_of, StandsFor}
use Rattle.yang_values.specs.Walks.{placed}
use Rattle.yang_values.proofs.EqualStatements.{length-map}
use Rattle.yang_values.proofs.ReachableTypes.{get_or-mapped}
use Rattle.yang_values.proofs.KnownTypes.{zip_more}
use Rattle.yang_values.proofs.endless.stand_ins.Goals as goal

pub find_taste-taste-requires : goal.find_taste-taste-requires
find_taste-taste-requires c =
    let places = c.args.places.now in
    let i = c.loop-place.place-index in
    let w = c.place-item.result in
    let below : i < length (map placed places) = omega (arith, length-map placed places, c.loop-place-test.true) in
    subst (λ (p : Placed). Contains (map place_of c.args.known.now) p) (sym (get_or-mapped placed places i w (placed w) c.loop-place-test.true c.place-item.is))
    (c.requires i (placed w) below)

pub loop-place-preserved : goal.loop-place-preserved
loop-place-preserved c =
    zip_more (StandsFor (map known_of c.args.known.now)) placed data_type c.args.places.now c.loop-place.place-index c.place-item.result c.loop-place.types.items c.push.new.self.items c.in_ok-stand_in.field-0
    c.loop-place-test.true c.place-item.is c.in_ok-push.ensures.items c.loop-place.invariant
    (c.find_taste-taste.result, c.find_taste-taste.ensures, c.in_ok-stand_in.ensures)
