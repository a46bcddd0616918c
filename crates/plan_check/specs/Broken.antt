-- Wants that a move leaves unsatisfied.
use Rattle.std.specs.Prelude.{◌≡◌, ℕ, List, Option, Contains}
use Rattle.conf_check.specs.Acceptance.{IsSatisfied}
use Rattle.conf_check.specs.Wants.{Want, want_of}
use Rattle.conf_check.specs.declared.want_iter.WantAt.{WantAt}
use Rattle.conf_doc.specs.declared.configuration.Config.{Config}
use Rattle.move_core.specs.Contexts.{HasWant, item_at}
use Rattle.move_core.specs.Extensions.{removal}
use Rattle.move_core.specs.Moves.{Place}
use Rattle.move_core.specs.declared.moves.Move.{Move}
use Rattle.plan_check.specs.declared.here.Here.{Here}

-- a want at the place is unsatisfied afterwards
pub record HasBroken (h : Here) (next : Config) (p : Place) (item : Option ℕ) : Type 0 where
  pub want : Want
  pub there : HasWant h.ctx.now.models h.cur.now p item want
  pub broken : ¬ IsSatisfied h.ctx.now.models next want.target want.text

-- it is that one
abbrev pub IsBrokenAt : Here → Config → Place → Option ℕ → WantAt → Type 0
IsBrokenAt h next p item a =
    (item_at h.cur.now p a.item ≡ item)
    × ¬ IsSatisfied h.ctx.now.models next (want_of a.want).target (want_of a.want).text

-- one of those is it
pub record HasOneBroken
    (h : Here) (next : Config) (p : Place) (item : Option ℕ) (ats : List WantAt) : Type 0 where
  pub at : WantAt
  pub there : Contains ats at
  pub is : IsBrokenAt h next p item at

-- what has it is removed
pub record IsReferrerAt (h : Here) (next : Config) (x : Move) : Type 0 where
  pub at : Place
  pub item : Option ℕ
  pub breaks : HasBroken h next at item
  pub move : x ≡ removal at item
