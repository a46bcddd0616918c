-- What moves are judged by: the settings of a rules file, and what models say of configurations.
use Rattle.std.specs.Prelude.{ℕ, List, Option}
use Rattle.conf_doc.specs.declared.configuration.Config.{Config}
use Rattle.move_core.specs.Moves.{Place}
use Rattle.move_core.specs.declared.settings.Settings.{Settings}

-- The settings; the tables that have a model; the wants that a configuration has at its places, a part of a key
-- at the entry and a text at the field, of an item of a list with its index; the wants that it satisfies; and
-- whether it is valid.
pub record Rulebook : Type 1 where
  pub settings : Settings
  pub IsModelled : List ℕ → Type 0
  pub Want : Type 0
  pub HasWant : Config → Place → Option ℕ → Want → Type 0
  pub IsSatisfied : Config → Want → Type 0
  pub IsValid : Config → Type 0
