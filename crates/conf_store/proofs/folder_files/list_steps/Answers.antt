use Rattle.conf_store.proofs.StepNameWalks.{kept_pass}
use Rattle.conf_store.proofs.folder_files.list_steps.Goals as goal

pub returns-in_ok-keep_steps-in-Ok-clause-names : goal.returns-in_ok-keep_steps-in-Ok-clause-names
returns-in_ok-keep_steps-in-Ok-clause-names g c =
    kept_pass c.in-Ok.names c.in_ok-keep_steps-in-Ok.field-0 c.in_ok-keep_steps-in-Ok.ensures
