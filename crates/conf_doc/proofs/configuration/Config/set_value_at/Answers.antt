use Rattle.std.proofs.Common.{◌∙◌}
use Rattle.std.proofs.lemmas.Result.{IfOk-weaker}
use Rattle.conf_doc.proofs.AtPlaces.{value_changed}
use Rattle.conf_doc.proofs.configuration.Config.set_value_at.Goals as goal

pub returns-clause-changed : goal.returns-clause-changed
returns-clause-changed c = IfOk-weaker c.set_value.result _ _ (λ d is. is ∙ value_changed c.args.self.now c.args.path.now _ _ _ c.args.value c.requires.long c.name_at-name.ensures.name c.name_at-key.ensures.name c.name_at-field.ensures.name) c.set_value.ensures.changed
