use Rattle.std.proofs.Common.{◌≡◌, ◌∙◌, List, ◌∷◌, map, sym, ap, subst, refl, arith}
use Rattle.std.specs.Prelude.{Contains}
use Rattle.yang_scope.specs.Paths.{Placed}
use Rattle.yang_scope.proofs.Blocks.{map-map}
use Rattle.yang_values.specs.Endless.{known_of, place_of, untried, AreClosed, AreRight}
use Rattle.yang_values.specs.Walks.{placed}
use Rattle.yang_values.specs.declared.endless.Known.{Known}
use Rattle.yang_values.specs.declared.endless.Taste.{Taste}
use Rattle.yang_values.proofs.KnownTypes.{untried_right, untried_places, reached_closed}
use Rattle.yang_values.proofs.endless.endless_taste.Goals as goal

-- the statements that are known of from the start
begun : (known : List Known) (ps : List Placed) → map known_of known ≡ map untried ps → map place_of known ≡ ps
begun known ps is =
    sym (map-map (λ (r : Placed × Taste). r.0) known_of known)
    ∙ ap (map (λ (r : Placed × Taste). r.0)) is
    ∙ untried_places ps

pub settle-requires-clause-closed : goal.settle-requires-clause-closed
settle-requires-clause-closed c =
    let p : Placed = placed c.args.place in
    let others : List Placed = map placed c.as_slice.result.now in
    let same : others ≡ map placed c.in_ok-places.places.items.items = ap (map placed) c.as_slice.ensures.value in
    subst (AreClosed c.args.names.now) (ap (λ qs. p ∷ qs) (sym same) ∙ sym (begun c.in_ok-known.known.items (p ∷ others) c.in_ok-known.ensures))
    (reached_closed c.args.names.now p (map placed c.in_ok-places.places.items.items) c.in_ok-places.ensures)

pub settle-requires-clause-right : goal.settle-requires-clause-right
settle-requires-clause-right c = λ is_pattern.
    let ps : List Placed = placed c.args.place ∷ map placed c.as_slice.result.now in
    subst (AreRight is_pattern c.args.names.now c.args.text.now 0) (sym c.in_ok-known.ensures)
    (untried_right is_pattern c.args.names.now c.args.text.now ps)

pub find_taste-requires : goal.find_taste-requires
find_taste-requires c =
    let p : Placed = placed c.args.place in
    let ps : List Placed = p ∷ map placed c.as_slice.result.now in
    let first : Contains ps p = (0, omega arith, refl) in
    subst (λ (qs : List Placed). Contains qs p)
    (sym (ap (map place_of) c.as_slice-3.ensures.value ∙ c.in_ok-known-2.ensures.places ∙ begun c.in_ok-known.known.items ps c.in_ok-known.ensures))
    first

pub returns : goal.returns
returns c = λ is_pattern decides.
    let known : List (Placed × Taste) = map known_of c.in_ok-known-2.known.items in
    let there : Contains known (placed c.args.place, c.find_taste.result) =
    subst (λ (ks : List (Placed × Taste)). Contains ks (placed c.args.place, c.find_taste.result)) (ap (map known_of) c.as_slice-3.ensures.value) c.find_taste.ensures in
    c.in_ok-known-2.ensures.right is_pattern decides (placed c.args.place) c.find_taste.result there
