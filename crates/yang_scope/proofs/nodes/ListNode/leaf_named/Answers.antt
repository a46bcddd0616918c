use Rattle.std.proofs.Common.{◌∙◌, Some, codes, sym, ap}
use Rattle.std.specs.List.{find}
use Rattle.std.specs.Option.{option_copied}
use Rattle.yang_text.specs.Statements.{declaration}
use Rattle.yang_scope.specs.Paths.{Placed, is_named, child_named}
use Rattle.yang_scope.proofs.Finding.{named-child}
use Rattle.yang_scope.proofs.nodes.ListNode.leaf_named.Goals as goal

pub returns-in-Some : goal.returns-in-Some
returns-in-Some c =
    let name = c.args.name.now in
    ap Some c.statement.ensures
    ∙ ap option_copied (sym c.in-Some.is)
    ∙ c.named.ensures
    ∙ ap (find (is_named name)) c.self.invariant
    ∙ named-child name (codes "leaf") (declaration c.self.inside.statement.now)
    ∙ ap (λ (p : Placed). child_named (codes "leaf") name p.1) c.self.view_is

pub returns-in-None : goal.returns-in-None
returns-in-None c =
    let name = c.args.name.now in
    ap option_copied (sym c.in-None.is)
    ∙ c.named.ensures
    ∙ ap (find (is_named name)) c.self.invariant
    ∙ named-child name (codes "leaf") (declaration c.self.inside.statement.now)
    ∙ ap (λ (p : Placed). child_named (codes "leaf") name p.1) c.self.view_is
