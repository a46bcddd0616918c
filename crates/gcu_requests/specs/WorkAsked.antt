-- What a command asks that does a task, or prints what it would do.
use Rattle.std.specs.Prelude.{ℕ, Result, Ok}
use Rattle.host_core.specs.Answers.{map_ok}
use Rattle.host_core.specs.State.{State}
use Rattle.gcu_output.specs.declared.outcomes.Outcome.{Outcome}
use Rattle.gcu_inputs.specs.Asking.{Asking, follows, settles_first, ◌>>>◌}
use Rattle.gcu_words.specs.Tasks.{Task, reach, run_script}
use Rattle.gcu_requests.specs.PlanAsked.{planning_asked, target_answer}
use Rattle.gcu_requests.specs.Request.{Request, Work, change, operated, plan, planned}
use Rattle.gcu_requests.specs.SessionsAsked.{operating_asked}

-- what the task needs, with that budget for each plan
abbrev pub work_asked : Task → ℕ → State → Asking Work
work_asked (reach from) budget s = planning_asked from budget s >>> λ p. follows (Ok (planned p))
work_asked (run_script path) budget s =
    operating_asked path budget s >>> λ p. follows (Ok (operated p))

-- a target by a name that no checkpoint has is refused
abbrev pub task_answer : Task → Result Task Outcome
task_answer (reach word) = map_ok reach (target_answer word)
task_answer (run_script path) = Ok (run_script path)

-- ---- where it is only printed

-- what the task would do is to be printed
abbrev pub plan_asked : Task → ℕ → State → Asking Request
plan_asked task budget s = work_asked task budget s >>> λ w. follows (Ok (plan w))

-- the same, where a name is looked at before anything is read
abbrev pub dry_run_asked : Task → ℕ → State → Asking Request
dry_run_asked word budget s =
    follows (task_answer word) >>> λ task.
    plan_asked task budget s

-- ---- where it is done

-- what is pending is settled, and the task is to be done
abbrev pub settled_asked : Task → ℕ → State → Asking Request
settled_asked task budget s =
    settles_first >>> λ _.
    work_asked task budget s >>> λ w.
    follows (Ok (change w))

-- the same, where a name is looked at before that
abbrev pub change_asked : Task → ℕ → State → Asking Request
change_asked word budget s =
    follows (task_answer word) >>> λ task.
    settled_asked task budget s
