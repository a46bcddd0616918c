use Rattle.std.proofs.Common.{◌∙◌}
use Rattle.std.proofs.lemmas.Result.{IfOk-weaker}
use Rattle.conf_doc.specs.Pairs.{set_part}
use Rattle.conf_doc.proofs.AtPlaces.{absent_changed, found_changed}
use Rattle.conf_doc.proofs.configuration.Config.set_entry.Goals as goal

pub returns-in_ok-table-in-Some-clause-changed : goal.returns-in_ok-table-in-Some-clause-changed
returns-in_ok-table-in-Some-clause-changed c =
    IfOk-weaker c.set_table.result _ _ (λ d is. is ∙ found_changed c.args.name.now (set_part c.args.key.now c.args.entry) c.args.self.now _ _ c.in-Some.ensures.table c.in_ok-table-in-Some.ensures.changed) c.set_table.ensures.changed

pub returns-in-None-clause-changed : goal.returns-in-None-clause-changed
returns-in-None-clause-changed c =
    IfOk-weaker c.copy.result _ _ (λ d is. is ∙ absent_changed c.args.name.now (set_part c.args.key.now c.args.entry) c.args.self.now c.in-None.ensures.table) c.copy.ensures.copy
