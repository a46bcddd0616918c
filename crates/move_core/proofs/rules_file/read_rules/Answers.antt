use Rattle.serde_json.specs.View.{view}
use Rattle.move_core.proofs.NonemptyNames.{settings_named}
use Rattle.move_core.proofs.rules_file.read_rules.Goals as goal

pub returns-clause-named : goal.returns-clause-named
returns-clause-named c = settings_named c.settings_of.result (view c.in_ok-value.value) c.settings_of.ensures
