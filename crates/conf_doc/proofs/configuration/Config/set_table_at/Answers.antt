use Rattle.std.proofs.Common.{◌∙◌}
use Rattle.std.proofs.lemmas.Result.{IfOk-weaker}
use Rattle.conf_doc.proofs.AtPlaces.{table_changed}
use Rattle.conf_doc.proofs.configuration.Config.set_table_at.Goals as goal

pub returns-clause-changed : goal.returns-clause-changed
returns-clause-changed c = IfOk-weaker c.set_table.result _ _ (λ d is. is ∙ table_changed c.args.self.now c.args.path.now _ c.args.table c.requires.long c.name_at.ensures.name) c.set_table.ensures.changed
