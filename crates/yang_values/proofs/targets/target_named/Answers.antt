use Rattle.std.proofs.Common.{◌≡◌, ◌∙◌, IfOk, Option, ap, subst}
use Rattle.yang_types.specs.declared.types.Target.{Target}
use Rattle.yang_scope.specs.Paths.{container_named}
use Rattle.yang_values.specs.Targets.{target_in}
use Rattle.yang_values.proofs.KeyPartNumbers.{target_by_list}
use Rattle.yang_values.proofs.targets.target_named.Goals as goal

pub returns : goal.returns
returns c =
    let table = c.args.table.now in
    let leaf = c.args.leaf.now in
    subst (λ (o : Option Target). IfOk c.target_in.result (λ found. found ≡ o))
    (ap (target_in table leaf) c.list_named-found.ensures ∙ target_by_list table c.args.list.now leaf (container_named c.args.names.now c.args.container.now))
    c.target_in.ensures
