-- Which words are a command.
use Rattle.std.specs.Prelude.{ℕ, List, [], ◌∷◌, codes, ◌&&◌, if◌then◌else◌, Option, Some, None, option_and_then, option_map}
use Rattle.gcu_words.specs.Demos.{demo_of}
use Rattle.gcu_words.specs.Options.{Options, default_budget, options}
use Rattle.gcu_words.specs.Targets.{resumed}
use Rattle.gcu_words.specs.Words.{is_positional, is_word}
use Rattle.gcu_words.specs.Tasks.{Task, reach, task_of}

-- a command with its words
pub data Form : Type 0 where
  -- with the path of the patch
  preview : List ℕ → Form
  check : Form
  list_checkpoints : Form
  migrate_checkpoints : Form
  -- with the name of the checkpoint
  save_checkpoint : List ℕ → Form
  -- with the name of the checkpoint
  delete_checkpoint : List ℕ → Form
  -- with a task and the budget of each plan, where it is only printed what would be done
  plan : Task → ℕ → Form
  -- the same where it is done
  change : Task → ℕ → Form
  status : Form
  abandon : Form
  -- with the seed and the number of ports of a plan between generated configurations
  demo : ℕ → ℕ → Form
  -- with the paths of a patch and of a plan for it
  check_plan : List ℕ → List ℕ → Form

-- a change that was stopped is to be finished: it takes no other option than a budget
abbrev pub form_of_resume : List (List ℕ) → Option Form
form_of_resume [] = Some (change (reach resumed) default_budget)
form_of_resume (a ∷ b ∷ []) =
    option_map (λ given. change (reach resumed) given.budget) (options (a ∷ b ∷ []))
form_of_resume other = None

-- the command that a word is which has to do with a change that was stopped
abbrev pub form_of_interruption : List ℕ → Option Form
form_of_interruption command =
    if is_word command (codes "status") then Some status
    else if is_word command (codes "resume") then form_of_resume []
    else if is_word command (codes "abandon") then Some abandon
    else None

-- the command that a word is
abbrev pub form_of_one : List ℕ → Option Form
form_of_one command =
    if is_word command (codes "check") then Some check
    else if is_word command (codes "list-checkpoints") then Some list_checkpoints
    else if is_word command (codes "migrate-checkpoints") then Some migrate_checkpoints
    else form_of_interruption command

-- what a task would do is only printed, or it is done
abbrev pub planned : Task → Options → Form
planned task given =
    if given.dry_run then plan task given.budget else change task given.budget

-- the command that a word, a second one and options are
abbrev pub form_of_plan : List ℕ → List ℕ → List (List ℕ) → Option Form
form_of_plan command word ws =
    option_and_then (λ task. option_map (planned task) (options ws)) (task_of command word)

-- the demonstration that a seed and a number of ports are
abbrev pub form_of_demo : List ℕ → List (List ℕ) → Option Form
form_of_demo seed (ports ∷ []) = option_map (λ d. demo d.seed d.ports) (demo_of seed ports)
form_of_demo seed other = None

-- the check of a plan that the path of a patch and that of the plan are
abbrev pub form_of_check : List ℕ → List (List ℕ) → Option Form
form_of_check patch (saved ∷ []) =
    if is_positional patch && is_positional saved then Some (check_plan patch saved) else None
form_of_check patch other = None

-- the command that a word, a second one and more are
abbrev pub form_of_more : List ℕ → List ℕ → List (List ℕ) → Option Form
form_of_more command word ws =
    if is_word command (codes "demo") then form_of_demo word ws
    else if is_word command (codes "resume") then form_of_resume (word ∷ ws)
    else if is_word command (codes "check-plan") then form_of_check word ws
    else form_of_plan command word ws

-- the command that two words are
abbrev pub form_of_two : List ℕ → List ℕ → Option Form
form_of_two command word =
    if is_word command (codes "preview") && is_positional word then Some (preview word)
    else if is_word command (codes "checkpoint") && is_positional word
    then Some (save_checkpoint word)
    else if is_word command (codes "delete-checkpoint") && is_positional word
    then Some (delete_checkpoint word)
    else form_of_plan command word []

-- the command that the words are
abbrev pub form : List (List ℕ) → Option Form
form [] = None
form (a ∷ []) = form_of_one a
form (a ∷ b ∷ []) = form_of_two a b
form (a ∷ b ∷ c ∷ ws) = form_of_more a b (c ∷ ws)
