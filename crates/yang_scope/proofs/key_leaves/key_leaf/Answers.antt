use Rattle.std.proofs.Common.{rules, ◌≡◌, ◌∙◌, Option, Some, None, option_map, option_and_then, sym, ap}
use Rattle.std.specs.Option.{option_copied}
use Rattle.yang_text.specs.Declarations.{Declaration}
use Rattle.yang_text.specs.Statements.{declaration}
use Rattle.yang_scope.specs.Paths.{Placed, key_leaf_below}
use Rattle.yang_scope.proofs.Finding.{container-found}
use Rattle.yang_scope.proofs.key_leaves.key_leaf.Goals as goal

pub returns-in-Ok-Some : goal.returns-in-Ok-Some
returns-in-Ok-Some c = λ modules same.
    let below : Placed → Option Declaration = λ p. key_leaf_below c.args.table.now c.args.list.now c.args.leaf.now p.1 in
    let found : Placed = c.in-Some.found.now in
    let at : Option Placed = Some found in
    let leaf : Option Declaration = Some (declaration c.in-Ok-Some.leaf.now) in
    let is : leaf ≡ below found = search rules in
    (λ i. Some (c.number.ensures i, declaration c.in-Ok-Some.leaf.now))
    ∙ ap (option_map (λ (d : Declaration). (found.0, d))) is
    ∙ ap (option_and_then (λ (p : Placed). option_map (λ (d : Declaration). (p.0, d)) (below p)))
    (container-found c.args.container.now modules c.args.containers.now same at (ap option_copied (sym c.in-Some.is) ∙ c.named.ensures))

pub returns-in-Ok-None : goal.returns-in-Ok-None
returns-in-Ok-None c = λ modules same.
    let below : Placed → Option Declaration = λ p. key_leaf_below c.args.table.now c.args.list.now c.args.leaf.now p.1 in
    let found : Placed = c.in-Some.found.now in
    let at : Option Placed = Some found in
    let none : Option Declaration = None in
    let is : none ≡ below found = search rules in
    ap (option_map (λ (d : Declaration). (found.0, d))) is
    ∙ ap (option_and_then (λ (p : Placed). option_map (λ (d : Declaration). (p.0, d)) (below p)))
    (container-found c.args.container.now modules c.args.containers.now same at (ap option_copied (sym c.in-Some.is) ∙ c.named.ensures))

pub returns-in-None : goal.returns-in-None
returns-in-None c = λ modules same.
    let below : Placed → Option Declaration = λ p. key_leaf_below c.args.table.now c.args.list.now c.args.leaf.now p.1 in
    let none : Option Placed = None in
    ap (option_and_then (λ (p : Placed). option_map (λ (d : Declaration). (p.0, d)) (below p)))
    (container-found c.args.container.now modules c.args.containers.now same none (ap option_copied (sym c.in-None.is) ∙ c.named.ensures))
