use Rattle.std.proofs.Common.{ap, ◌∙◌}
use Rattle.std.specs.Str.{bytes_eq}
use Rattle.conf_check.proofs.LeafNodes.{named_shaped, named_unshaped}
use Rattle.conf_check.proofs.children.is_named_at.Goals as goal

pub returns-in-Some : goal.returns-in-Some
returns-in-Some c =
    c.eq.ensures ∙ ap (bytes_eq c.args.name.now) c.as_str.ensures.text
    ∙ named_shaped c.args.nodes.now c.args.table c.args.key c.in-Some.entry c.in-Some.ensures c.args.name.now

pub returns-in-None : goal.returns-in-None
returns-in-None c = named_unshaped c.args.nodes.now c.args.table c.args.key c.in-None.ensures c.args.name.now
