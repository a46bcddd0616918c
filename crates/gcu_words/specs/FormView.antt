-- A form as the code keeps it.
use Rattle.std.specs.Prelude.{◌≡◌, true, false, ⊤, Option, Some, None}
use Rattle.gcu_words.specs.Views.{target_view}
use Rattle.gcu_words.specs.Form as words
use Rattle.gcu_words.specs.Tasks as asked
use Rattle.gcu_words.specs.declared.form.Form.{Form}
use Rattle.gcu_words.specs.declared.form.Form.TheVariants.{Unknown, Preview, Check, ListCheckpoints, MigrateCheckpoints, SaveCheckpoint, DeleteCheckpoint, Plan, Change, Status, Abandon, Demo, CheckPlan}
use Rattle.gcu_words.specs.declared.tasks.Task.{Task}
use Rattle.gcu_words.specs.declared.tasks.Task.TheVariants.{Reach, RunScript}

-- the task that it is
abbrev pub task_view : Task → asked.Task
task_view (Reach target) = asked.reach (target_view target)
task_view (RunScript script) = asked.run_script script.now

-- the command that it is, or None for words that are no command
abbrev pub form_view : Form → Option words.Form
form_view Unknown = None
form_view (Preview patch) = Some (words.preview patch.now)
form_view Check = Some words.check
form_view ListCheckpoints = Some words.list_checkpoints
form_view MigrateCheckpoints = Some words.migrate_checkpoints
form_view (SaveCheckpoint name) = Some (words.save_checkpoint name.now)
form_view (DeleteCheckpoint name) = Some (words.delete_checkpoint name.now)
form_view (Plan task options) = Some (words.plan (task_view task) options.budget)
form_view (Change task options) = Some (words.change (task_view task) options.budget)
form_view Status = Some words.status
form_view Abandon = Some words.abandon
form_view (Demo size) = Some (words.demo size.seed size.ports)
form_view (CheckPlan patch plan) = Some (words.check_plan patch.now plan.now)

-- what is only printed has the option for that, and what is done hasn't
abbrev pub HasItsOptions : Form → Type 0
HasItsOptions (Plan task options) = options.dry_run ≡ true
HasItsOptions (Change task options) = options.dry_run ≡ false
HasItsOptions other = ⊤
