-- The scopes of operations come in their order.
use Rattle.std.proofs.Common.{◌≡◌, ◌<◌, ◌≤◌, ℕ, zero, suc, ◌+◌, Bool, true, false, List, [], ◌∷◌, length, map, filter, refl, sym, ap, ◌∙◌, subst, arith}
use Rattle.std.specs.List.{AllByRecursion, list_any, range_with_len}
use Rattle.scopes.specs.Scopes.{IsScope, all_scopes, most_asics}
use Rattle.scopes.specs.Splitting.{is_in}
use Rattle.scopes.specs.declared.scope.Scope.{Scope}
use Rattle.scopes.specs.declared.scope.Scope.TheVariants.{Localhost, Asic}
use Rattle.scope_changes.specs.Works.{AreInOrder, Precedes, ScopeWork}
use Rattle.gcu_requests.specs.ScopesPlannings as read
use Rattle.gcu_requests.specs.declared.scopes_planning.ScopeEnds.{ScopeEnds}
use Rattle.move_core.specs.declared.settings.Settings.{Settings}
use Rattle.scope_commands.specs.ReadyScopes.{works_by}
use Rattle.scope_commands.specs.declared.plan_scopes.ScopePlan as code

-- scopes that there are, each once, in order
abbrev InOrder : List Scope → Type 0
InOrder [] = Unit {0}
InOrder (x ∷ xs) = IsScope x × AllByRecursion (Precedes x) xs × InOrder xs

-- ---- all of them

behind : (m a n : ℕ) → m < a → AllByRecursion (Precedes (Asic m)) (map Asic (range_with_len a n))
behind m a zero less = tt
behind m a (suc n) less = (less, behind m (a + 1) n (omega (arith, less)))

behind_host : (a n : ℕ) → AllByRecursion (Precedes Localhost) (map Asic (range_with_len a n))
behind_host a zero = tt
behind_host a (suc n) = (tt, behind_host (a + 1) n)

asics_in_order : (a n : ℕ) → a + n ≤ most_asics → InOrder (map Asic (range_with_len a n))
asics_in_order a zero few = tt
asics_in_order a (suc n) few =
    (omega (arith, few), behind a (a + 1) n (omega arith), asics_in_order (a + 1) n (omega (arith, few)))

all_in_order : InOrder all_scopes
unfolding all_scopes
all_in_order = (tt, behind_host 0 most_asics, asics_in_order 0 most_asics (omega arith))

-- ---- some of them

module _ (p : Scope → Bool) where
  some_all : (P : Scope → Type 0) (xs : List Scope) → AllByRecursion P xs → AllByRecursion P (filter p xs)
  some_all P [] all = tt
  some_all P (x ∷ xs) all = by (p x) refl (some_all P xs all.1)
    where
      by : (b : Bool) → p x ≡ b → AllByRecursion P (filter p xs) → AllByRecursion P (filter p (x ∷ xs))
      by true is rest = rw is (all.0, rest)
      by false is rest = rw is rest

  some_in_order : (xs : List Scope) → InOrder xs → InOrder (filter p xs)
  some_in_order [] order = tt
  some_in_order (x ∷ xs) order = by (p x) refl (some_in_order xs order.2)
    where
      by : (b : Bool) → p x ≡ b → InOrder (filter p xs) → InOrder (filter p (x ∷ xs))
      by true is rest = rw is (order.0, some_all (Precedes x) xs order.1, rest)
      by false is rest = rw is rest

-- ---- changes of them

works_scopes : (settings : Settings) (es : List ScopeEnds) (ps : List code.ScopePlan) → length es ≡ length ps
    → map (λ (w : ScopeWork). w.scope) (works_by settings es ps) ≡ map (λ (e : ScopeEnds). e.scope) es
works_scopes settings [] ps long = refl
works_scopes settings (e ∷ es) [] long = absurd cc
works_scopes settings (e ∷ es) (p ∷ ps) long =
    ap (λ (l : List Scope). e.scope ∷ l) (works_scopes settings es ps (omega (arith, long)))

precedes_each : (x : Scope) (works : List ScopeWork)
    → AllByRecursion (Precedes x) (map (λ (w : ScopeWork). w.scope) works)
    → AllByRecursion (λ (v : ScopeWork). Precedes x v.scope) works
precedes_each x [] all = tt
precedes_each x (w ∷ works) all = (all.0, precedes_each x works all.1)

works_order : (works : List ScopeWork) → InOrder (map (λ (w : ScopeWork). w.scope) works) → AreInOrder works
works_order [] order = tt
works_order (w ∷ works) order = (order.0, precedes_each w.scope works order.1, works_order works order.2)

-- the changes of what is read are in order
pub in_order : (settings : Settings) (es : List ScopeEnds) (ps : List code.ScopePlan) (works : List ScopeWork)
    → read.AreInOrder es → length es ≡ length ps
    → works ≡ works_by settings es ps → AreInOrder works
in_order settings es ps works (ops, are) long is =
    works_order works
    (subst InOrder (sym (ap (map (λ (w : ScopeWork). w.scope)) is ∙ works_scopes settings es ps long ∙ are))
    (some_in_order (λ (scope : Scope). list_any (is_in scope) ops) all_scopes all_in_order))
