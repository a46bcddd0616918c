-- One round of the loop over the scopes: those before the i-th are done, and it is next.
use Rattle.std.proofs.Common.{◌≡◌, ◌≤◌, ◌<◌, ◌+◌, ◌^◌, ◌⊎◌, ⊎_elim, ℕ, suc, List, ◌∷◌, ◌++◌, take, drop, Option, Some, None, IfSome, sym, ap, ◌∙◌, subst, arith}
use Rattle.std.specs.Prelude.{slice_get}
use Rattle.host_core.specs.Crashes.{Left}
use Rattle.host_core.specs.State.{State}
use Rattle.conf_store.specs.Changes.{IsSettled}
use Rattle.conf_store.specs.Folds.{StandsFor}
use Rattle.change_apply.specs.Change.{Change, steps}
use Rattle.change_apply.specs.Ends.{IsStoppedBy}
use Rattle.change_apply.specs.declared.errors.ApplyFault.{ApplyFault}
use Rattle.change_apply.specs.declared.errors.ApplyFault.TheVariants.{Disk, Service, Print}
use Rattle.scopes.specs.Views.{seen_files}
use Rattle.scope_changes.specs.Crashes.{IsLeftAmong}
use Rattle.scope_changes.specs.Ends.{AreReadyFor, IsBetween, StopsAll, behind_steps}
use Rattle.scope_changes.specs.Stages.{FinishesOne, IsStoppedOne, LeavesOne, StopsOne, step_of}
use Rattle.scope_changes.specs.Works.{AreInOrder, ScopeWork, all_steps}
use Rattle.scope_changes.proofs.Counting.{steps_more}
use Rattle.scope_changes.proofs.Lists.{drop_at, take_and_drop, take_at}
use Rattle.scope_changes.proofs.OtherScopes.{AsicsApart, HostApart}
use Rattle.scope_changes.proofs.Parting.{IsPlaced, placed}
use Rattle.scope_changes.proofs.Passing.{LeftSoFar, between_next, left_next, so_far_next, stands_between, stopped_next}

-- a fault tells no more steps than there are
told_steps : (change : Change) (fault : ApplyFault) (s t : State) → IsStoppedBy change fault s t → step_of fault ≤ steps change
told_steps change (Disk k) s t stopped = stopped.within
told_steps change (Service k service) s t stopped = stopped.stopped.within
told_steps change (Print k) s t stopped = stopped.stopped.within

step_within : (w : ScopeWork) (fault : ApplyFault) (s t : State) → IsStoppedOne w fault s t → step_of fault ≤ steps w.change
step_within w fault s t stopped =
    ⊎_elim (λ inside. told_steps w.change fault _ _ inside.stopped)
    (λ line. let none : step_of fault ≡ 0 = ap step_of line.is in omega (arith, none)) stopped.is

module _ (works : List ScopeWork) (i : ℕ) (w : ScopeWork) (at : slice_get works i ≡ Some w) where
  abbrev done : List ScopeWork
  done = take i works

  abbrev due : List ScopeWork
  due = drop (suc i) works

  are : works ≡ done ++ w ∷ due
  are = take_and_drop works i ∙ ap (λ (l : List ScopeWork). take i works ++ l) (drop_at works i w at)

  next_is : (o m : Option State) → IsBetween (take i works) (drop i works) o m → IsBetween done (w ∷ due) o m
  next_is o m is = subst (λ (l : List ScopeWork). IsBetween (take i works) l o m) (drop_at works i w at) is

  -- ---- what it needs

  pub stands_here : (o m : Option State) → IfSome o (λ s. AreReadyFor works s.files) → IsBetween (take i works) (drop i works) o m
      → IfSome m (λ s. StandsFor w.change.stored (seen_files w.scope s.files))
  stands_here o m ready is =
      stands_between done w due o m (subst (λ (l : List ScopeWork). IfSome o (λ s. AreReadyFor l s.files)) are ready) (next_is o m is)

  pub steps_here : all_steps (take (suc i) works) ≡ all_steps (take i works) + steps w.change
  steps_here = ap all_steps (take_at works i w at) ∙ steps_more (take i works) w

  -- ---- what it does

  module _ (asics : AsicsApart) (host : HostApart) (order : AreInOrder works) where
    place : IsPlaced done w due
    place = placed done w due (subst AreInOrder are order)

    pub between_here : (o m n : Option State) → IsBetween (take i works) (drop i works) o m → FinishesOne w m n
        → IsBetween (take (suc i) works) (drop (suc i) works) o n
    between_here o m n is fin =
        subst (λ (l : List ScopeWork). IsBetween l (drop (suc i) works) o n) (sym (take_at works i w at))
        (between_next asics host done w due place o m n (next_is o m is) fin)

    pub stopped_here : (fault told : ApplyFault) (o m n : Option State) → IfSome o IsSettled → IsBetween (take i works) (drop i works) o m
        → StopsOne w fault m n → (all_steps (take i works) + step_of fault < 2 ^ 64 → told ≡ behind_steps (all_steps (take i works)) fault)
        → all_steps (take i works) + steps w.change < 2 ^ 64 → StopsAll works told o n
    stopped_here fault told o m n clean is stops tells small = by o m clean is stops
      where
        by : (o m : Option State) → IfSome o IsSettled → IsBetween (take i works) (drop i works) o m → StopsOne w fault m n → StopsAll works told o n
        by None m clean is stops = subst (λ p. StopsOne w fault p n) is stops
        by (Some s) m clean is stops =
            let stopped = subst (λ p. StopsOne w fault p n) is.1 stops in
            let few : step_of fault ≤ steps w.change = step_within w fault _ stopped.0 stopped.2 in
            subst (λ (f : ApplyFault). StopsAll works f (Some s) n) (sym (tells (omega (arith, few, small))))
            (stopped_next asics host done w due place works are fault (Some s) m n clean (next_is (Some s) m is) stops)

    module _ {H : Type 0} (moment : H → ℕ) (left_since : H → ℕ → Left → Type 0) (mid new : H) (t : ℕ) (within : t ≤ moment mid) (was : Left → Type 0)
        (o m n : Option State) (clean : IfSome o IsSettled) (is : IsBetween (take i works) (drop i works) o m)
        (run : IfSome m (LeavesOne moment left_since w mid new)) (so_far : LeftSoFar works was (left_since mid t) o m) where
      pub left_here : (left : Left) → left_since new t left → IfSome o (λ s. was left ⊎ IsLeftAmong works s left)
      left_here = left_next asics host done w due place works are moment left_since mid new t within was o m clean (next_is o m is) run so_far

      pub so_far_here : FinishesOne w m n → LeftSoFar works was (left_since new t) o n
      so_far_here fin =
          so_far_next asics host done w due place works are moment left_since mid new t within was o m n clean (next_is o m is) fin run so_far
