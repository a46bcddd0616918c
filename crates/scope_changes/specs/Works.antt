-- Changes of several scopes: what is printed and restarted for them, and the files that they have to do with.
use Rattle.std.specs.Prelude.{◌≡◌, ◌≢◌, ◌<◌, ℕ, zero, suc, ◌+◌, List, [], ◌∷◌, ◌++◌, Some, codes, flat_map}
use Rattle.std.specs.FinMap.{get}
use Rattle.std.specs.List.{AllByRecursion}
use Rattle.host_core.specs.State.{Files}
use Rattle.conf_doc.specs.Texts.{line_feed}
use Rattle.conf_store.specs.Files.{intent_file}
use Rattle.conf_store.specs.Folds.{IsOther}
use Rattle.checkpoints.specs.Points.{points}
use Rattle.change_apply.specs.Acknowledgements.{acks}
use Rattle.change_apply.specs.Change.{Change, restarted, steps}
use Rattle.scopes.specs.Files.{plain_name}
use Rattle.scopes.specs.Scopes.{IsScope, scope_name}
use Rattle.scopes.specs.Views.{seen_files}
use Rattle.scopes.specs.declared.scope.Scope.{Scope}
use Rattle.scopes.specs.declared.scope.Scope.TheVariants.{Localhost, Asic}

-- a scope, and a change of its files
pub record ScopeWork : Type 0 where
  pub scope : Scope
  pub change : Change

-- ---- the order

-- localhost comes first, then the ASICs by number
abbrev pub Precedes : Scope → Scope → Type 0
Precedes Localhost Localhost = ⊥
Precedes Localhost (Asic n) = Unit {0}
Precedes (Asic m) Localhost = ⊥
Precedes (Asic m) (Asic n) = m < n

-- scopes that there are, each once, in order
abbrev pub AreInOrder : List ScopeWork → Type 0
AreInOrder [] = Unit {0}
AreInOrder (w ∷ works) =
    IsScope w.scope × AllByRecursion (λ v. Precedes w.scope v.scope) works × AreInOrder works

-- ---- what comes out

-- the line that tells that the change of a scope begins
abbrev pub apply_line : Scope → List ℕ
apply_line scope = codes "apply " ++ scope_name scope ++ line_feed

-- a line, but nothing where there are no steps
abbrev pub line_for : ℕ → List ℕ → List ℕ
line_for zero line = []
line_for (suc k) line = line

-- what is printed before the steps of one
abbrev pub opening : ScopeWork → List ℕ
opening w = line_for (steps w.change) (apply_line w.scope)

-- what is printed next
abbrev pub next_line : List ScopeWork → List ℕ
next_line [] = []
next_line (w ∷ works) = opening w

-- what is printed for one: the line, and the acknowledgements of its steps
abbrev pub lines : ScopeWork → List ℕ
lines w = opening w ++ acks (steps w.change)

-- the same for all
abbrev pub all_lines : List ScopeWork → List ℕ
all_lines works = flat_map lines works

-- the services of all steps, those of each scope in turn
abbrev pub all_restarts : List ScopeWork → List (List ℕ)
all_restarts works = flat_map (λ w. restarted w.change (steps w.change)) works

-- how many steps there are in all
abbrev pub all_steps : List ScopeWork → ℕ
all_steps [] = 0
all_steps (w ∷ works) = steps w.change + all_steps works

-- ---- files

-- the scope doesn't have the file, or a change has nothing to do with its plain name
abbrev pub IsOutside : Scope → List ℕ → Type 0
IsOutside scope name =
    (plain : List ℕ) → plain_name scope name ≡ Some plain
    → IsOther plain × (plain ≢ intent_file)

-- the files that no change with steps has to do with are as before
abbrev pub KeepsOutside : List ScopeWork → Files → Files → Type 0
KeepsOutside works before after =
    (name : List ℕ) → AllByRecursion (λ w. 0 < steps w.change → IsOutside w.scope name) works
    → get after name ≡ get before name

-- each scope, named by a change or not, has the checkpoints from before
abbrev pub KeepsPointsOfScopes : Files → Files → Type 0
KeepsPointsOfScopes before after =
    (scope : Scope) → points (seen_files scope after) ≡ points (seen_files scope before)
