use Rattle.std.proofs.Common.{◌≡◌, ◌∙◌, List, Option, Some, None, sym, ap}
use Rattle.std.specs.Option.{option_copied}
use Rattle.yang_scope.specs.Modules.{Module}
use Rattle.yang_scope.specs.Paths.{Placed, container_named}
use Rattle.yang_scope.proofs.Finding.{container-found}
use Rattle.yang_scope.proofs.names.Names.container_named.Goals as goal

pub returns-in-Some : goal.returns-in-Some
returns-in-Some c =
    let name = c.args.name.now in
    let found : Placed = c.in-Some.container.now in
    let at : Option Placed = Some found in
    let is : at ≡ container_named c.self.inside.set name =
    container-found name c.self.inside.set c.self.inside.containers c.self.invariant.1 at (ap option_copied (sym c.in-Some.is) ∙ c.named.ensures) in
    (λ i. Some (c.number.ensures i, c.statement.ensures i))
    ∙ is
    ∙ ap (λ (ms : List Module). container_named ms name) c.self.view_is

pub returns-in-None : goal.returns-in-None
returns-in-None c =
    let name = c.args.name.now in
    let none : Option Placed = None in
    container-found name c.self.inside.set c.self.inside.containers c.self.invariant.1 none (ap option_copied (sym c.in-None.is) ∙ c.named.ensures)
    ∙ ap (λ (ms : List Module). container_named ms name) c.self.view_is
