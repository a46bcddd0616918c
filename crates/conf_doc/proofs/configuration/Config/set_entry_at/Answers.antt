use Rattle.std.proofs.Common.{◌∙◌}
use Rattle.std.proofs.lemmas.Result.{IfOk-weaker}
use Rattle.conf_doc.proofs.AtPlaces.{entry_changed}
use Rattle.conf_doc.proofs.configuration.Config.set_entry_at.Goals as goal

pub returns-clause-changed : goal.returns-clause-changed
returns-clause-changed c = IfOk-weaker c.set_entry.result _ _ (λ d is. is ∙ entry_changed c.args.self.now c.args.path.now _ _ c.args.entry c.requires.long c.name_at-name.ensures.name c.name_at-key.ensures.name) c.set_entry.ensures.changed
