-- Places that require a value, and the moves that give it.
use Rattle.std.specs.Prelude.{◌≡◌, ℕ, List, Some, slice_get, Contains}
use Rattle.conf_doc.specs.Changes.{HasPlace}
use Rattle.conf_doc.specs.declared.configuration.Config.{Config}
use Rattle.key_split.specs.Key.{key_parts}
use Rattle.move_core.specs.Contexts.{IsModelled}
use Rattle.move_core.specs.Extensions.{ChangesFor, HasRequired, put_value, required_part, rule_entry, rule_field}
use Rattle.move_core.specs.Moves.{Agree}
use Rattle.move_core.specs.declared.moves.Move.{Move}
use Rattle.move_core.specs.declared.settings.Required.{Required}
use Rattle.move_core.specs.declared.settings.Requiring.{Requiring}
use Rattle.plan_check.specs.Keeping.{requiring_place}
use Rattle.plan_check.specs.declared.here.Here.{Here}
use Rattle.plan_check.specs.declared.required.Change.{Change}

-- it requires the value of the asked entry, and differs afterwards
pub record DiffersAt (c : Change) (q : Requiring) (key : List ℕ) : Type 0 where
  pub part : slice_get (key_parts key) q.part ≡ Some c.named.now
  pub differs : ¬ Agree c.cur.now c.next.now (requiring_place q key)

-- so at one of those keys
pub record DiffersAmong (c : Change) (q : Requiring) (keys : List (List ℕ)) : Type 0 where
  pub key : List ℕ
  pub there : Contains keys key
  pub differs : DiffersAt c q key

-- so at some key
pub record Differs (c : Change) (q : Requiring) : Type 0 where
  pub key : List ℕ
  pub differs : DiffersAt c q key

-- a rule's field is to have its value at a key of both, and has another one
pub record LacksValue (h : Here) (next : Config) (r : Required) (key : List ℕ) : Type 0 where
  pub modelled : IsModelled h.ctx.now.models r.table
  pub before : HasPlace h.cur.now (rule_entry r key)
  pub after : HasPlace next (rule_entry r key)
  pub other : ¬ HasRequired r key h.cur.now

-- the move to next changes what requires a rule's value, and the other one puts that
pub record IsRequiredBy (h : Here) (next : Config) (r : Required) (x : Move) : Type 0 where
  pub key : List ℕ
  pub changes : ChangesFor r key h.cur.now next
  pub lacks : LacksValue h next r key
  pub move : x ≡ put_value h.cur.now (rule_field r key) (required_part r)
