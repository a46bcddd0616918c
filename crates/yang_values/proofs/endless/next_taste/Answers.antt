use Rattle.std.proofs.Common.{◌≡◌, ◌∙◌, List, All, map, sym, ap, subst}
use Rattle.std.specs.Prelude.{Contains}
use Rattle.std.proofs.lemmas.List.Elements.{All-weaker, All-contains_itself}
use Rattle.yang_types.specs.DataTypes.{data_type}
use Rattle.yang_scope.specs.Paths.{Placed}
use Rattle.yang_values.specs.Endless.{known_of, place_of}
use Rattle.yang_values.specs.TypeValues.{next}
use Rattle.yang_values.specs.Walks.{placed}
use Rattle.yang_values.proofs.KnownTypes.{next_right}
use Rattle.yang_values.proofs.endless.next_taste.Goals as goal

pub stand_ins-requires : goal.stand_ins-requires
stand_ins-requires c =
    let p : Placed = placed c.args.place in
    let there : List Placed = map place_of c.args.known.now in
    let leads : map placed c.as_slice.result.now ≡ next c.args.names.now p = ap (map placed) c.as_slice.ensures.value ∙ c.in_ok-places.ensures in
    subst (λ (ps : List Placed). All (Contains there) ps) (sym leads)
    (All-weaker (Contains (next c.args.names.now p)) (Contains there) (λ q among. c.requires.closed p q c.requires.there among) (next c.args.names.now p) (All-contains_itself (next c.args.names.now p)))

pub returns : goal.returns
returns c = λ is_pattern decides most right.
    let p : Placed = placed c.args.place in
    let leads : map placed c.as_slice.result.now ≡ next c.args.names.now p = ap (map placed) c.as_slice.ensures.value ∙ c.in_ok-places.ensures in
    next_right is_pattern c.args.names.now c.args.text.now most (map known_of c.args.known.now) right p (map placed c.as_slice.result.now) (map data_type c.in_ok-types.types.items) (data_type c.in_ok-ty.ty) c.taste_of-taste.result
    leads c.in_ok-types.ensures (c.in_ok-ty.ensures is_pattern decides) c.taste_of-taste.ensures
