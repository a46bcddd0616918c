-- What is asked of a kit, and what it gives.
use Rattle.std.specs.Prelude.{ℕ, List}
use Rattle.move_core.specs.Contexts.{IsNamed, IsValidIn, rulebook}
use Rattle.move_core.specs.Listed.{Extends, IsGeneratedMove, LeadsTo}
use Rattle.move_core.specs.declared.moves.Generated.{Generated}
use Rattle.move_core.specs.declared.moves.Move.{Move}
use Rattle.move_lists.specs.Firsts.{AreFirstsOf}
use Rattle.move_lists.specs.declared.asking.Question.{Question}
use Rattle.move_lists.specs.declared.firsts.First.{First}

-- the boxes may be asked it
pub record CanAsk (q : Question) : Type 0 where
  pub named : IsNamed q.ctx.now
  pub cur : IsValidIn q.ctx.now q.cur.now
  pub goal : IsValidIn q.ctx.now q.goal.now

-- some generator gives it
abbrev pub IsOffered : Question → Generated → Type 0
IsOffered q g = IsGeneratedMove (rulebook q.ctx.now) q.cur.now q.goal.now g

-- they are the generated moves there, and of each it is told whether it is restoring
abbrev pub AreFirstsIn : Question → List First → Type 0
AreFirstsIn q fs = AreFirstsOf (rulebook q.ctx.now) q.start.now q.cur.now q.goal.now fs

-- some extender gives the second move for the first one
abbrev pub FollowsIn : Question → Move → Move → Type 0
FollowsIn q m x = Extends (rulebook q.ctx.now) q.cur.now q.goal.now m x

-- that many extensions lead from the first move to the second one
abbrev pub LeadsIn : Question → Move → ℕ → Move → Type 0
LeadsIn q m n x = LeadsTo (rulebook q.ctx.now) q.cur.now q.goal.now m n x
