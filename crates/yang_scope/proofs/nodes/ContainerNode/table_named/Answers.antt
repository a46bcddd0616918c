use Rattle.std.proofs.Common.{◌∙◌, codes, ap}
use Rattle.std.specs.List.{find}
use Rattle.yang_text.specs.Statements.{declaration}
use Rattle.yang_scope.specs.Paths.{Placed, is_named, child_named}
use Rattle.yang_scope.proofs.Finding.{now-copied, named-child}
use Rattle.yang_scope.proofs.nodes.ContainerNode.table_named.Goals as goal

pub returns : goal.returns
returns c =
    let name = c.args.name.now in
    now-copied c.named.result
    ∙ c.named.ensures
    ∙ ap (find (is_named name)) c.self.invariant
    ∙ named-child name (codes "container") (declaration c.self.inside.statement.now)
    ∙ ap (λ (p : Placed). child_named (codes "container") name p.1) c.self.view_is
