use Rattle.std.proofs.Common.{arith, ◌≡◌, length, List, ◌++◌, ◌∙◌, sym, ap, subst}
use Rattle.yang_text.specs.Declarations.{argument}
use Rattle.yang_scope.specs.NameTables.{IsTableOf}
use Rattle.yang_scope.specs.Statements.{Entry, name_entry}
use Rattle.yang_scope.proofs.ElementNumbers.{entries, entries-push}
use Rattle.yang_scope.proofs.node_lists.NodeList.with.Goals as goal

pub invariant_of-result : goal.invariant_of-result
invariant_of-result g c =
    let declared = g.N.ModelNode.declared in
    let nodes = c.self.inside.nodes.items in
    let place : c.len.result ≡ length nodes = omega (arith, c.len.ensures) in
    subst (λ (es : List Entry). IsTableOf c.push_some.new.self.numbers es)
    ((λ i. entries declared 0 nodes ++ name_entry (place i) (argument (c.node_statement.ensures i)))
    ∙ sym (entries-push declared nodes c.args.node)
    ∙ ap (entries declared 0) (sym c.in_ok-push.ensures.items))
    (c.in_ok-push_some.ensures _ c.self.invariant)
