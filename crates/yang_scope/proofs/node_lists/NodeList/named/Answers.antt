use Rattle.std.proofs.Common.{◌∙◌, sym, ap, slice_get, option_and_then}
use Rattle.std.specs.List.{find}
use Rattle.yang_scope.specs.Paths.{is_named}
use Rattle.yang_scope.proofs.Finding.{copied-item}
use Rattle.yang_scope.proofs.ElementNumbers.{named-at}
use Rattle.yang_scope.proofs.node_lists.NodeList.named.Goals as goal

pub returns-in-Some : goal.returns-in-Some
returns-in-Some g c =
    let nodes = c.self.inside.nodes.items in
    copied-item c.deref.result.now c.in-Some.number c.get-in-Some.result c.get-in-Some.ensures.lookup
    ∙ ap (λ xs. slice_get xs c.in-Some.number) c.deref.ensures.value
    ∙ ap (option_and_then (slice_get nodes)) (sym c.in-Some.is ∙ c.get.ensures _ c.self.invariant)
    ∙ named-at g.N.ModelNode.declared c.args.name.now nodes
    ∙ ap (find (λ n. is_named c.args.name.now (g.N.ModelNode.declared n))) c.self.view_is

pub returns-in-None : goal.returns-in-None
returns-in-None g c =
    let nodes = c.self.inside.nodes.items in
    ap (option_and_then (slice_get nodes)) (sym c.in-None.is ∙ c.get.ensures _ c.self.invariant)
    ∙ named-at g.N.ModelNode.declared c.args.name.now nodes
    ∙ ap (find (λ n. is_named c.args.name.now (g.N.ModelNode.declared n))) c.self.view_is
