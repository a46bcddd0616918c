use Rattle.std.proofs.Common.{◌∙◌, Option, Some, None, codes, option_and_then, sym, ap}
use Rattle.std.specs.Option.{option_copied}
use Rattle.yang_scope.specs.Nodes.{numbered_list}
use Rattle.yang_scope.specs.Paths.{Placed, child_named}
use Rattle.yang_scope.proofs.Finding.{container-found}
use Rattle.yang_scope.proofs.key_leaves.list_named.Goals as goal

pub returns-in-Some : goal.returns-in-Some
returns-in-Some c = λ modules same.
    let found : Placed = c.in-Some.container.now in
    let at : Option Placed = Some found in
    c.list_below.ensures
    ∙ ap (λ (o : Option Placed). option_and_then (numbered_list c.args.list.now) (option_and_then (λ (p : Placed). child_named (codes "container") c.args.table.now p.1) o))
    (container-found c.args.container.now modules c.args.containers.now same at (ap option_copied (sym c.in-Some.is) ∙ c.named.ensures))

pub returns-in-None : goal.returns-in-None
returns-in-None c = λ modules same.
    let none : Option Placed = None in
    ap (λ (o : Option Placed). option_and_then (numbered_list c.args.list.now) (option_and_then (λ (p : Placed). child_named (codes "container") c.args.table.now p.1) o))
    (container-found c.args.container.now modules c.args.containers.now same none (ap option_copied (sym c.in-None.is) ∙ c.named.ensures))
