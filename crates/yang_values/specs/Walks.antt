-- Type statements on the way of a walk from one to all that it leads to, and types built from it.
use Rattle.std.specs.Prelude.{◌≡◌, ◌<◌, ℕ, Bool, List, [], ◌∷◌, ◌++◌, Contains, slice_index_or, take, drop}
use Rattle.yang_text.specs.Statements.{declaration}
use Rattle.yang_types.specs.DataType.{DataType}
use Rattle.yang_scope.specs.Modules.{Module}
use Rattle.yang_scope.specs.Paths.{Placed}
use Rattle.yang_values.specs.Circles.{IsReached}
use Rattle.yang_values.specs.TypeValues.{next, only_type, type_by, type_within}
use Rattle.yang_values.specs.declared.walks.Place.{Place}
use Rattle.yang_values.specs.declared.walks.Step.{Step}
use Rattle.yang_values.specs.declared.walks.Visit.{Visit}

-- a type statement, and the number of its module
abbrev pub placed : Place → Placed
placed p = (p.number, declaration p.statement.now)

-- the type of a statement that is still to be visited
abbrev pub step_type : (List ℕ → Bool) → List Module → Step → DataType
step_type is_pattern modules s = type_within is_pattern modules s.most (placed s.place)

-- a statement that was visited, and how many it leads to
abbrev pub Visited : Type 0
Visited = Placed × ℕ

-- the same of a visit
abbrev pub visited : Visit → Visited
visited v = (placed v.place, v.children)

-- the type that is left when each statement has taken the types that it leads to off the others and
-- put its own one on them
abbrev pub built : (List ℕ → Bool) → List Module → List Visited → List DataType → DataType
built is_pattern modules [] types = only_type types
built is_pattern modules (v ∷ vs) types =
    built is_pattern modules vs (type_by is_pattern modules v.0 (take v.1 types) ∷ drop v.1 types)

-- so many types taken off others, and those that are left
pub record IsTaken (count : ℕ) (types first rest : List DataType) : Type 0 where
  pub taken : first ≡ take count types
  pub left : rest ≡ drop count types

-- some type statements with others behind them: those that weren't there
pub record IsAdded (before added after : List Placed) : Type 0 where
  pub extra : List Placed
  pub behind : after ≡ before ++ extra
  pub from : (q : Placed) → Contains extra q → Contains added q
  pub there : (q : Placed) → Contains added q → Contains after q

-- all that a type statement leads to in one or more steps
pub record AreReached (modules : List Module) (p : Placed) (qs : List Placed) : Type 0 where
  pub reached : (q : Placed) → Contains qs q → IsReached modules p q
  pub first : (q : Placed) → Contains (next modules p) q → Contains qs q
  pub closed : (r q : Placed) → Contains qs r → Contains (next modules r) q → Contains qs q

-- the same, where so many of them were gone on from
pub record AreReachedUpTo (modules : List Module) (i : ℕ) (p : Placed) (qs : List Placed)
    : Type 0 where
  pub reached : (q : Placed) → Contains qs q → IsReached modules p q
  pub first : (q : Placed) → Contains (next modules p) q → Contains qs q
  pub closed :
      (j : ℕ) (q : Placed) → j < i → Contains (next modules (slice_index_or qs j p)) q
      → Contains qs q
