use Rattle.std.proofs.Common.{◌≡◌, ◌∙◌, ◌++◌, [], ◌∷◌, All, List, map, refl, sym, ap, subst}
use Rattle.std.proofs.lemmas.List.Elements.{All-same, All-push}
use Rattle.yang_scope.specs.Modules.{Module}
use Rattle.yang_values.specs.Endings.{DoesEnd}
use Rattle.yang_values.specs.TypeValues.{next}
use Rattle.yang_values.specs.Walks.{placed}
use Rattle.yang_values.specs.declared.walks.Place.{Place}
use Rattle.yang_values.proofs.Ends.{ends_by_next}
use Rattle.yang_values.proofs.endings.Endings.add_if_ends.Goals as goal

pub invariant_of-self : goal.invariant_of-self
invariant_of-self c =
    let modules : List Module = c.self.inside.names.now in
    let place : Place = c.args.place in
    let places : List Place = c.as_slice.result.now in
    let P : Place → Type 0 = λ p. DoesEnd modules (placed p) in
    let leads : map placed places ≡ next modules (placed place) = ap (map placed) c.as_slice.ensures.value ∙ c.in_ok-places.ensures in
    let all : All P places = subst (λ (ms : List Module). All (λ (p : Place). DoesEnd ms (placed p)) places) (sym c.self.view_is) (c.if-do_end.ensures refl) in
    All-same P c.push.new.self.items.items (c.self.inside.places.items.items ++ place ∷ []) c.in_ok-push.ensures.more
    (All-push P c.self.inside.places.items.items place c.self.invariant (ends_by_next modules (placed place) places leads all))

pub invariant_of-self-in_err-push : goal.invariant_of-self-in_err-push
invariant_of-self-in_err-push c =
    let P : Place → Type 0 = λ p. DoesEnd c.self.inside.names.now (placed p) in
    All-same P c.push.new.self.items.items c.self.inside.places.items.items c.in_err-push.ensures.kept c.self.invariant
