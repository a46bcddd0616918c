-- An aim as the code keeps it.
use Rattle.operators.specs.declared.aims.Aim as code
use Rattle.operators.specs.declared.aims.Aim.TheVariants as kept
use Rattle.sessions.specs.Turns.{Aim, Towards, Refusal}

-- the aim that it is
abbrev pub aim_view : code.Aim → Aim
aim_view (kept.Towards goal plan) = Towards goal plan
aim_view (kept.Refusal number) = Refusal number
