use Rattle.std.proofs.Common.{Some, None, false, not, ap, ◌∙◌}
use Rattle.std.proofs.lemmas.Bool.{false≢true}
use Rattle.xpath_part.specs.declared.nodes.Node.{Node}
use Rattle.conf_check.specs.NodeTrees.{tree_of}
use Rattle.conf_check.specs.Validity.{context_of}
use Rattle.conf_check.proofs.FalseMusts.{false_where, not_true}
use Rattle.conf_check.proofs.musts.is_false.Goals as goal

pub returns-in-Some : goal.returns-in-Some
returns-in-Some c =
    false_where c.args.nodes.now c.args.table c.args.key c.args.must.now (Some c.in-Some.context) (not c.holds.result)
    (c.in-Some.ensures.context ∙ ap (λ (n : Node). context_of (tree_of c.args.nodes.now) n c.args.must.now.leaf) c.entry_node.ensures)
    (not_true c.holds.result _ c.holds.ensures)

pub returns-in-None : goal.returns-in-None
returns-in-None c =
    false_where c.args.nodes.now c.args.table c.args.key c.args.must.now None false
    (c.in-None.ensures.context ∙ ap (λ (n : Node). context_of (tree_of c.args.nodes.now) n c.args.must.now.leaf) c.entry_node.ensures)
    (λ e. absurd (false≢true e), λ x. absurd x)
