use Rattle.std.proofs.Common.{ap, ◌∙◌}
use Rattle.conf_doc.specs.Shaping.{shape_checked, shaping}
use Rattle.conf_doc.proofs.RoundTrip.{config_back}
use Rattle.conf_doc.proofs.taking.tree_of_config.Goals as goal

pub returns-clause-shapes_back : goal.returns-clause-shapes_back
returns-clause-shapes_back c = ap shaping c.in_ok-tree.ensures ∙ ap shape_checked (config_back c.args.config c.len.ensures.formed)
