-- What words ask of a host that tells its state: the first refusal in its order, or the request.
use Rattle.std.specs.Prelude.{ℕ, List, Bool, true, false, Option, Some, None, Result, Ok, Err}
use Rattle.std.specs.FinMap.{get}
use Rattle.host_core.specs.Answers.{map_ok}
use Rattle.host_core.specs.State.{State}
use Rattle.conf_doc.specs.declared.configuration.Config.{Config}
use Rattle.checkpoints.specs.Migrations.{migration}
use Rattle.checkpoints.specs.Numbers.{is_full, numbered_points}
use Rattle.checkpoints.specs.Points.{Held, points}
use Rattle.gcu_output.specs.declared.outcomes.Outcome.{Outcome}
use Rattle.gcu_output.specs.declared.outcomes.Outcome.TheVariants.{Usage, NoCheckpoint, CheckpointExists, SequenceFull}
use Rattle.gcu_output.specs.declared.outcomes.PointWhy.TheVariants as why
use Rattle.gcu_inputs.specs.Asking.{Asking, a_file, asks, follows, settles_first, ◌>>>◌}
use Rattle.gcu_words.specs.Form.{Form, abandon, change, check, check_plan, delete_checkpoint, demo, form, list_checkpoints, migrate_checkpoints, plan, preview, save_checkpoint, status}
use Rattle.gcu_inputs.specs.IntentAsked.{uninterrupted}
use Rattle.gcu_inputs.specs.PatchAsked.{patch_asked, target}
use Rattle.gcu_inputs.specs.StoredAsked.{stored_asked}
use Rattle.gcu_requests.specs.Checking.{check_asked}
use Rattle.gcu_requests.specs.DemoAsked.{demo_asked}
use Rattle.gcu_requests.specs.InterruptionAsked.{abandon_asked, status_asked}
use Rattle.gcu_requests.specs.PlanCheckAsked.{check_plan_asked}
use Rattle.gcu_requests.specs.PointAsked.{name_answer}
use Rattle.gcu_requests.specs.Request as request
use Rattle.gcu_requests.specs.Request.{Request}
use Rattle.gcu_requests.specs.WorkAsked.{change_asked, dry_run_asked}

-- ---- checkpoints

-- a checkpoint that isn't there is refused, whatever one that is there holds
abbrev pub there_answer : List ℕ → Option Held → Result (List ℕ) Outcome
there_answer name None = Err (NoCheckpoint name why.Absent)
there_answer name (Some held) = Ok name

-- the checkpoint of a name is to be deleted
abbrev pub there_asked : List ℕ → State → Asking Request
there_asked name s =
    asks a_file (map_ok request.delete_checkpoint (there_answer name (get (points s.files) name)))

-- a checkpoint that is there is refused, whatever it holds, and then one that no number is left for
abbrev pub absent_answer : List ℕ → Config → Bool → Option Held → Result Request Outcome
absent_answer name config full (Some held) = Err (CheckpointExists name)
absent_answer name config true None = Err SequenceFull
absent_answer name config false None = Ok (request.save_checkpoint name config)

-- a configuration is to be saved as the checkpoint of a name
abbrev pub absent_asked : List ℕ → Config → State → Asking Request
absent_asked name config s =
    asks a_file (absent_answer name config (is_full s.files) (get (points s.files) name))

-- ---- the commands

-- the configuration after a patch; the stored one is read before the patch
abbrev pub patching_asked : List ℕ → State → Asking Config
patching_asked path s =
    stored_asked s >>> λ start.
    patch_asked path s >>> λ ops.
    follows (target ops start)

-- the same, where no change is under way
abbrev pub target_asked : List ℕ → State → Asking Config
target_asked path s = uninterrupted s >>> λ _. patching_asked path s

-- `preview PATH`: the configuration after the patch
abbrev pub preview_asked : List ℕ → State → Asking Request
preview_asked path s = target_asked path s >>> λ c. follows (Ok (request.preview c))

-- the names of all checkpoints, with their numbers
abbrev pub numbers_asked : State → Asking Request
numbers_asked s = asks a_file (Ok (request.list_checkpoints (numbered_points s.files)))

-- `list-checkpoints`: the same, where no change is under way
abbrev pub list_asked : State → Asking Request
list_asked s = uninterrupted s >>> λ _. numbers_asked s

-- the checkpoints of the old format are to be put anew
abbrev pub old_asked : State → Asking Request
old_asked s = asks a_file (Ok (request.migrate_checkpoints (migration s.files)))

-- the same, where no change is under way
abbrev pub migration_asked : State → Asking Request
migration_asked s = uninterrupted s >>> λ _. old_asked s

-- `migrate-checkpoints`: what is pending is settled first
abbrev pub migrate_asked : State → Asking Request
migrate_asked s = settles_first >>> λ _. migration_asked s

-- `checkpoint NAME`: the name is looked at before the folder, and the stored configuration is to be valid
abbrev pub save_asked : List ℕ → State → Asking Request
save_asked word s =
    follows (name_answer word) >>> λ name.
    settles_first >>> λ _.
    check_asked s >>> λ _.
    stored_asked s >>> λ start.
    absent_asked name start s

-- `delete-checkpoint NAME`: the name is looked at before the folder
abbrev pub delete_asked : List ℕ → State → Asking Request
delete_asked word s =
    follows (name_answer word) >>> λ name.
    settles_first >>> λ _.
    uninterrupted s >>> λ _.
    there_asked name s

-- what a command asks, or that there is none
abbrev pub form_asked : Option Form → State → Asking Request
form_asked None s = follows (Err Usage)
form_asked (Some (preview path)) s = preview_asked path s
form_asked (Some check) s = check_asked s
form_asked (Some list_checkpoints) s = list_asked s
form_asked (Some migrate_checkpoints) s = migrate_asked s
form_asked (Some (save_checkpoint name)) s = save_asked name s
form_asked (Some (delete_checkpoint name)) s = delete_asked name s
form_asked (Some (plan task budget)) s = dry_run_asked task budget s
form_asked (Some (change task budget)) s = change_asked task budget s
form_asked (Some status) s = status_asked s
form_asked (Some abandon) s = abandon_asked s
form_asked (Some (demo seed ports)) s = demo_asked seed ports s
form_asked (Some (check_plan patch saved)) s = check_plan_asked patch saved s

-- what the words ask of a host in this state
abbrev pub asked : List (List ℕ) → State → Asking Request
asked words s = form_asked (form words) s
