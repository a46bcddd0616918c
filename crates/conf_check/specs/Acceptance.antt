-- What a type accepts and wants in a configuration (RFC 7950, sections 9.9 and 9.12).
use Rattle.std.specs.Prelude.{◌≡◌, ◌⊎◌, ℕ, List, [], map, Some, slice_get, Contains}
use Rattle.std.specs.Option.{option_map_or}
use Rattle.conf_doc.specs.Pairs.{find}
use Rattle.conf_doc.specs.declared.configuration.Config.{Config}
use Rattle.key_split.specs.Key.{key_parts}
use Rattle.yang_model.specs.Belongs.{Belongs}
use Rattle.yang_model.specs.ModelSets.{ModelSet, shapes_of}
use Rattle.yang_types.specs.Accepts.{Accepts}
use Rattle.yang_types.specs.DataType.{DataType, leafref, union, DataTypes, no_types, type_and}
use Rattle.yang_types.specs.declared.types.Target.{Target}

-- the keys of a table, none where there is no such table
abbrev pub keys_of : List ℕ → Config → List (List ℕ)
keys_of table config = option_map_or (map (λ e. e.0)) (find table config) []

-- some entry of the wanted shape has that text as the wanted part of its key
pub record IsSatisfied (models : ModelSet) (config : Config) (target : Target)
    (text : List ℕ) : Type 0 where
  pub key : List ℕ
  pub there : Contains (keys_of target.table config) key
  pub belongs : Belongs (shapes_of target.table models) key (Some target.shape)
  pub part : slice_get (key_parts key) target.part ≡ Some text

abbrev mutual
  -- a leafref accepts what its plain type accepts and an entry of the configuration has, and a
  -- union what some member accepts; other types accept what they accept by themselves
  pub AcceptsIn : ModelSet → Config → DataType → List ℕ → Type 0
  AcceptsIn models config (leafref target t) s = Accepts t s × IsSatisfied models config target s
  AcceptsIn models config (union ts) s = AcceptsAnyIn models config ts s
  AcceptsIn models config t s = Accepts t s

  -- some of the types accepts
  pub AcceptsAnyIn : ModelSet → Config → DataTypes → List ℕ → Type 0
  AcceptsAnyIn models config no_types s = ⊥
  AcceptsAnyIn models config (type_and t ts) s =
      AcceptsIn models config t s ⊎ AcceptsAnyIn models config ts s

abbrev mutual
  -- a leafref that accepts a text wants the leaf that it names, a union what its first member that
  -- accepts wants, and other types want nothing
  pub IsWanted : ModelSet → Config → DataType → List ℕ → Target → Type 0
  IsWanted models config (leafref target t) s wanted =
      (wanted ≡ target) × AcceptsIn models config (leafref target t) s
  IsWanted models config (union ts) s wanted = IsFirstWanted models config ts s wanted
  IsWanted models config t s wanted = ⊥

  -- of the first of the types that accepts
  pub IsFirstWanted : ModelSet → Config → DataTypes → List ℕ → Target → Type 0
  IsFirstWanted models config no_types s wanted = ⊥
  IsFirstWanted models config (type_and t ts) s wanted =
      IsWanted models config t s wanted
      ⊎ ((¬ AcceptsIn models config t s) × IsFirstWanted models config ts s wanted)
