-- What is found while the paths of an expression are followed.
use Rattle.std.specs.Prelude.{◌≡◌, ◌||◌, ℕ, List, String}
use Rattle.std.specs.List.{flat_map, list_any}
use Rattle.std.specs.Str.{bytes_eq}
use Rattle.std.specs.Global.{Global}
use Rattle.std.specs.BTreeSet.{BTreeSet, contains_text}
use Rattle.yang_scope.specs.Modules.{Module}
use Rattle.yang_must.specs.Routes.{Route, names_nothing, ends_badly}
use Rattle.yang_must.specs.Musts.{tables_along}
use Rattle.yang_must.specs.declared.findings.Findings.{Findings}

-- a set holds exactly the names of a list
pub record IsSetOf (set : BTreeSet (String Global)) (names : List (List ℕ)) : Type 0 where
  pub holds : (name : List ℕ) → contains_text set name ≡ list_any (bytes_eq name) names

-- a set has the names of a list beside those that it had
pub record Gains (old new : BTreeSet (String Global)) (names : List (List ℕ)) : Type 0 where
  pub gains :
      (name : List ℕ)
      → contains_text new name ≡ (contains_text old name || list_any (bytes_eq name) names)

-- what was found beside what had been found before, where some paths were followed
pub record Finds
    (modules : List Module) (m : ℕ) (old new : Findings) (rs : List Route) : Type 0 where
  pub unknown : new.unknown ≡ (old.unknown || list_any (names_nothing modules m) rs)
  pub misplaced : new.misplaced ≡ (old.misplaced || list_any (ends_badly modules m) rs)
  pub reads : Gains old.reads.names new.reads.names (flat_map (tables_along modules m) rs)

-- all that is found by following some paths
pub record IsFound
    (modules : List Module) (m : ℕ) (found : Findings) (rs : List Route) : Type 0 where
  pub unknown : found.unknown ≡ list_any (names_nothing modules m) rs
  pub misplaced : found.misplaced ≡ list_any (ends_badly modules m) rs
  pub reads : IsSetOf found.reads.names (flat_map (tables_along modules m) rs)
