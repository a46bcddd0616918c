-- What a task does: which moves, and what is printed before them.
use Rattle.std.specs.Prelude.{◌≡◌, ℕ, List}
use Rattle.move_core.specs.Operations.{plan_text}
use Rattle.move_core.specs.declared.moves.Move.{Move}
use Rattle.operators.specs.Runs.{IsOperated}
use Rattle.sessions.specs.Runs.{moves_of}
use Rattle.sessions.specs.Worlds.{WorldState}
use Rattle.gcu_requests.specs.Request.{Work, operated, planned}
use Rattle.command_answers.specs.Plannings.{IsPlanFor}

-- the moves of a plan with its text, or the commits of operators with what these are told
abbrev pub IsWorkOf : Work → List Move → List ℕ → Type 0
IsWorkOf (planned p) ms text = IsPlanFor p ms × (text ≡ plan_text ms)
IsWorkOf (operated p) ms text =
    (after : WorldState) × IsOperated p text after × (ms ≡ moves_of after.commits)
