-- That an output tells one thing of a command.
use Rattle.std.specs.Prelude.{◌≡◌, ◌<◌, ◌^◌, ℕ, List, length}
use Rattle.move_core.specs.Operations.{plan_text}
use Rattle.move_core.specs.declared.moves.Move.{Move}
use Rattle.command_runs.specs.Works.{AreAcknowledged, FitTheirPlaces, IsWork}

-- a text begins with so many whole acknowledgements for one number, and for no other
pub record HasOneNumber (text : List ℕ) : Type 0 where
  pub number : ℕ
  pub acknowledged : AreAcknowledged number text
  pub alone : (k : ℕ) → AreAcknowledged k text → k ≡ number

-- moves that put what is of the kind of its place are told by the text of their plan
abbrev pub PlansAreTold : Type 0
PlansAreTold = (ms ns : List Move) → FitTheirPlaces ms → FitTheirPlaces ns
    → length ms < 2 ^ 64 → length ns < 2 ^ 64 → plan_text ms ≡ plan_text ns → ms ≡ ns

-- what a command did step by step is one list of moves and one number by its output
abbrev pub WorkIsOne : Type 0
WorkIsOne = (output : List ℕ) (ms ns : List Move) (k j : ℕ)
    → IsWork output ms k → IsWork output ns j → (ms ≡ ns) × (k ≡ j)
