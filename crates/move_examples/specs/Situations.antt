-- What is asked of models and of situations before moves are asked for.
use Rattle.std.specs.Prelude.{◌≤◌, ℕ, List, All}
use Rattle.move_core.specs.Contexts.{IsNamed, IsValidIn}
use Rattle.move_examples.specs.declared.situations.Situation.{Situation}
use Rattle.yang_model.specs.Sizes.{most_statements}
use Rattle.yang_text.specs.Declarations.{Declaration, total_weight}

-- a text has no more statements than models may have
abbrev pub IsSmall : List Declaration → Type 0
IsSmall text = total_weight text ≤ most_statements

-- no named text has more
abbrev pub AreSmall : List (List ℕ × List Declaration) → Type 0
AreSmall texts = All (λ t. IsSmall t.1) texts

-- its names aren't empty, and its configurations are valid
pub record IsReady (s : Situation) : Type 0 where
  pub named : IsNamed s.ctx
  pub start : IsValidIn s.ctx s.start
  pub cur : IsValidIn s.ctx s.cur
  pub goal : IsValidIn s.ctx s.goal
