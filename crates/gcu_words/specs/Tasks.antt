-- What a command does step by step.
use Rattle.std.specs.Prelude.{ℕ, List, codes, ◌&&◌, if◌then◌else◌, Option, Some, option_map}
use Rattle.gcu_words.specs.Targets.{Target, target_of}
use Rattle.gcu_words.specs.Words.{is_positional, is_word}

-- a plan for a target, or what several operators do by the script at a path
pub data Task : Type 0 where
  reach : Target → Task
  run_script : List ℕ → Task

-- the task of a command and its word, where it is a command that has one and the word is no option
abbrev pub task_of : List ℕ → List ℕ → Option Task
task_of command word =
    if is_word command (codes "sessions") && is_positional word then Some (run_script word)
    else option_map reach (target_of command word)
