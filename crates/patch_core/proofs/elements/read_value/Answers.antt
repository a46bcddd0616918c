use Rattle.std.proofs.Common.{ap, ◌∙◌, option_map, codes}
use Rattle.serde_json.specs.View.{view}
use Rattle.serde_json.proofs.Views.{view-lookup}
use Rattle.patch_core.proofs.elements.read_value.Goals as goal

pub returns-in_default : goal.returns-in_default
returns-in_default c =
    let found = ap (option_map view) c.in_default.ensures.value ∙ view-lookup (codes "value") c.args.members.now.entries in rw (← found)

pub returns : goal.returns
returns c =
    let found = ap (option_map view) c.in-Some.ensures.value ∙ view-lookup (codes "value") c.args.members.now.entries in rw (← found) c.read_tree.ensures
