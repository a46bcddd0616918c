-- How many scopes there may be, how many steps they have, and the counts of faults from one to the next.
use Rattle.std.proofs.Common.{◌≡◌, ◌≤◌, ◌+◌, inl, inr, ℕ, suc, List, [], ◌∷◌, ◌++◌, length, refl, ◌∙◌, arith}
use Rattle.std.specs.List.{AllByRecursion}
use Rattle.host_core.specs.Counts.{Counts}
use Rattle.change_apply.specs.Change.{steps}
use Rattle.change_apply.specs.Ends.{HasCause, MayRise}
use Rattle.change_apply.specs.declared.errors.ApplyFault.{ApplyFault}
use Rattle.change_apply.specs.declared.errors.ApplyFault.TheVariants.{Disk, Service, Print}
use Rattle.scopes.specs.Scopes.{IsScope}
use Rattle.scopes.specs.declared.scope.Scope.{Scope}
use Rattle.scopes.specs.declared.scope.Scope.TheVariants.{Localhost, Asic}
use Rattle.scope_changes.specs.Works.{AreInOrder, Precedes, ScopeWork, all_steps}
use Rattle.scope_changes.proofs.Lists.{each}

-- ---- scopes

-- how many scopes come before it
rank : Scope → ℕ
rank Localhost = 0
rank (Asic n) = suc n

rank_less : (a b : Scope) → Precedes a b → suc (rank a) ≤ rank b
unfolding rank
rank_less Localhost Localhost before = absurd before
rank_less Localhost (Asic n) before = omega arith
rank_less (Asic m) Localhost before = absurd before
rank_less (Asic m) (Asic n) before = omega (arith, before)

rank_small : (a : Scope) → IsScope a → rank a ≤ 256
unfolding rank
rank_small Localhost is = omega arith
rank_small (Asic n) is = omega (arith, is)

few_from : (works : List ScopeWork) (r : ℕ) → r ≤ 257 → AllByRecursion (λ w. r ≤ rank w.scope) works → AreInOrder works → length works + r ≤ 257
few_from [] r le above order = omega (arith, le)
few_from (w ∷ works) r le above order =
    let small : rank w.scope ≤ 256 = rank_small w.scope order.0 in
    let low : r ≤ rank w.scope = above.0 in
    let rest : length works + suc (rank w.scope) ≤ 257 =
    few_from works (suc (rank w.scope)) (omega (arith, small))
    (each (λ v. Precedes w.scope v.scope) (λ v. suc (rank w.scope) ≤ rank v.scope) (λ v before. rank_less w.scope v.scope before) works order.1) order.2 in
    omega (arith, rest, low)

-- at most so many scopes are in order
pub few_scopes : (works : List ScopeWork) → AreInOrder works → length works ≤ 257
few_scopes works order = let few = few_from works 0 (omega arith) (all works) order in omega (arith, few)
  where
    all : (works : List ScopeWork) → AllByRecursion (λ w. 0 ≤ rank w.scope) works
    all [] = tt
    all (w ∷ works) = (omega arith, all works)

pub steps_more : (works : List ScopeWork) (w : ScopeWork) → all_steps (works ++ w ∷ []) ≡ all_steps works + steps w.change
steps_more [] w = omega arith
steps_more (v ∷ works) w = let rest = steps_more works w in omega (arith, rest)

-- ---- counts

-- nothing rose yet
pub none_rose : (a : Counts) → MayRise a a
none_rose a = record { input = refl; disk = omega arith; print = omega arith; service = omega arith }

-- one after another
pub rises_on : (a b c : Counts) → MayRise a b → MayRise b c → MayRise a c
rises_on a b c first second = record {
  input = second.input ∙ first.input;
  disk = omega (arith, first.disk, second.disk);
  print = omega (arith, first.print, second.print);
  service = omega (arith, first.service, second.service);
}

-- a cause that arose later
pub cause_later : (a b c : Counts) (fault : ApplyFault) → MayRise a b → HasCause b c fault → HasCause a c fault
cause_later a b c (Disk step) first (inl less) = let le : a.disk ≤ b.disk = first.disk in inl (omega (arith, le, less))
cause_later a b c (Disk step) first (inr last) = inr last
cause_later a b c (Service step service) first (inl less) = let le : a.service ≤ b.service = first.service in inl (omega (arith, le, less))
cause_later a b c (Service step service) first (inr last) = inr last
cause_later a b c (Print step) first (inl less) = let le : a.print ≤ b.print = first.print in inl (omega (arith, le, less))
cause_later a b c (Print step) first (inr last) = inr last
