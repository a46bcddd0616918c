-- What a change over the files of a scope does, as the folder has it.
use Rattle.std.proofs.Common.{◌≡◌, ◌≤◌, ◌⊎◌, ◌++◌, inl, inr, ⊎_elim, ℕ, List, Option, Some, None, IfSome, option_map, Result, Ok, Err, refl, sym, ap, subst}
use Rattle.std.specs.FinMap.{get}
use Rattle.std.specs.Option.{option_map_or}
use Rattle.std.specs.Prelude.{IfErr, OnOk, is_some}
use Rattle.host_core.specs.Crashes.{Image, Left}
use Rattle.host_core.specs.State.{Files, Pending, State, dirty, listing, settled}
use Rattle.conf_store.specs.Changes.{IsSettled}
use Rattle.change_apply.specs.Acknowledgements.{acks}
use Rattle.change_apply.specs.Change.{Change, restarted, steps}
use Rattle.change_apply.specs.Crashes.{IsLeft}
use Rattle.change_apply.specs.Ends.{Finishes, IsApplied, IsStoppedBy, Stops, worked}
use Rattle.change_apply.specs.declared.errors.ApplyFault.{ApplyFault}
use Rattle.scopes.specs.Files.{plain_name}
use Rattle.scopes.specs.Views.{AreOthersSame, AreOthersSettled, CameBefore, IsSeen, KeepsOthers, seen, seen_files, seen_left, seen_pending}
use Rattle.scopes.specs.declared.scope.Scope.{Scope}
use Rattle.scope_changes.specs.Stages.{FinishesIn, IsLeftIn, IsMixed, LeavesIn, StopsIn}

-- what holds behind the views holds of the host
pub at_ends : {H : Type 0} (P : H → H → Type 0) (old behind new ended : H) → behind ≡ old → new ≡ ended → P behind ended → P old new
at_ends {H} P old behind new ended begins ends h = subst (λ (n : H). P old n) (sym ends) (subst (λ (o : H). P o ended) begins h)

-- what is told gives something else
pub some_gives : {P Q : State → Type 0} (o : Option State) → IfSome o P → ((s : State) → P s → Q s) → IfSome o Q
some_gives None h gives = tt
some_gives (Some s) h gives = gives s h

-- what an error gives
pub err_gives : {P Q : ApplyFault → Type 0} (r : Result (Unit {0}) ApplyFault) → ((fault : ApplyFault) → P fault → Q fault) → IfErr r P → IfErr r Q
err_gives (Ok x) gives h = tt
err_gives (Err fault) gives h = gives fault h

module _ (scope : Scope) where
  -- nothing is pending in the folder where the scope shows that nothing is
  settled_behind : (p : Pending) (files : Files) → seen_pending scope p files ≡ settled → p ≡ settled
  settled_behind settled files is = refl
  settled_behind (dirty name) files is = by (plain_name scope name) is
    where
      by : (o : Option (List ℕ)) → option_map_or dirty o (listing (seen_files scope files)) ≡ settled → dirty name ≡ settled
      by None e = absurd cc
      by (Some plain) e = absurd cc
  settled_behind (listing before) files is = absurd cc

  -- with nothing pending a crash leaves the files of others
  clean_others : (s : State) → s.pending ≡ settled → AreOthersSettled scope s
  clean_others s clean left image =
      let is : left ≡ s.files = subst (λ p. Image p s.files left) clean image in
      λ name none. ap (λ (files : Files). get files name) is

  -- ---- ends

  -- of the files of others
  abbrev Keeps : Option State → Option State → Type 0
  Keeps o n =
      IfSome o (λ s. AreOthersSettled scope s → IfSome n (λ t.
      AreOthersSame scope s.files t.files × AreOthersSettled scope t))

  worked_behind : (change : Change) (s t : State) (files : Files) → seen scope t ≡ worked files (steps change) (restarted change (steps change)) (seen scope s)
      → t ≡ worked t.files (steps change) (restarted change (steps change)) s
  worked_behind change s t files is =
      let inputs : t.inputs ≡ s.inputs = ap (λ (v : State). v.inputs) is in
      let pending : t.pending ≡ settled = settled_behind t.pending t.files (ap (λ (v : State). v.pending) is) in
      let output : t.output ≡ s.output ++ acks (steps change) = ap (λ (v : State). v.output) is in
      let restarts : t.restarts ≡ s.restarts ++ restarted change (steps change) = ap (λ (v : State). v.restarts) is in
      λ i. record { inputs = inputs i; files = t.files; pending = pending i; output = output i; restarts = restarts i }

  pub finishes_behind : (change : Change) (o n : Option State) → IfSome o IsSettled → is_some n ≡ is_some o → Keeps o n
      → Finishes change (option_map (seen scope) o) (option_map (seen scope) n) → FinishesIn scope change o n
  finishes_behind change None None clean tells keeps fin = refl
  finishes_behind change None (Some t) clean tells keeps fin = absurd cc
  finishes_behind change (Some s) None clean tells keeps fin = absurd cc
  finishes_behind change (Some s) (Some t) clean tells keeps (files, is, applied) =
      let same : seen scope t ≡ worked files (steps change) (restarted change (steps change)) (seen scope s) = cc in
      let there : seen_files scope t.files ≡ files = ap (λ (v : State). v.files) same in (
        t.files,
        ap (λ (v : State). Some v) (worked_behind change s t files same),
        record {
          applied = subst (IsApplied change (seen_files scope s.files)) (sym there) applied;
          others = (keeps (clean_others s clean)).0;
        },
      )

  pub stops_behind : (change : Change) (fault : ApplyFault) (o n : Option State) → IfSome o IsSettled → is_some n ≡ is_some o → Keeps o n
      → Stops change fault (option_map (seen scope) o) (option_map (seen scope) n) → StopsIn scope change fault o n
  stops_behind change fault None None clean tells keeps stops = refl
  stops_behind change fault None (Some t) clean tells keeps stops = absurd cc
  stops_behind change fault (Some s) None clean tells keeps stops = absurd cc
  stops_behind change fault (Some s) (Some t) clean tells keeps (v, is, stopped) =
      let same : v ≡ seen scope t = cc in (
        t,
        refl,
        record {
          stopped = subst (IsStoppedBy change fault (seen scope s)) same stopped;
          others = (keeps (clean_others s clean)).0;
        },
      )

-- ---- crashes, and the host behind the views

module _ {H : Type 0} (told : H → Option State) (moment : H → ℕ) (left_since : H → ℕ → Left → Type 0) where
  -- what a crash leaves, as the views show it
  pub record SeenLeaves (from to : Scope) (old new : H) (P : Left → Type 0) : Type 0 where
    pub before : (t : ℕ) (left : Left) → t ≤ moment old → IsSeen to (left_since new t) left → IsSeen from (left_since old t) left ⊎ P left

  module _ (scope : Scope) (change : Change) (old new : H) where
    pub leaves_behind : (o : Option State) → IfSome o IsSettled
        → IfSome o (λ s. AreOthersSettled scope s → (t : ℕ) (left : Left) → t ≤ moment old → left_since new t left
        → left_since old t left ⊎ AreOthersSame scope s.files left.files)
        → IfSome o (λ s. (t : ℕ) (left : Left) → t ≤ moment old → left_since new t left
        → left_since old t left ⊎ CameBefore s left.output left.restarts)
        → IfSome (option_map (seen scope) o) (λ s. SeenLeaves scope scope old new (IsLeft change s))
        → IfSome o (LeavesIn moment left_since scope change old new)
    leaves_behind None clean ever holds run = tt
    leaves_behind (Some s) clean ever holds run = λ t left le since.
        ⊎_elim (λ before. inl before)
        (λ others. ⊎_elim (λ before. inl before) (λ came. inr (at t left others came (run.before t (seen_left scope left) le (left, since, refl)))) (holds t left le since))
        (ever (clean_others scope s clean) t left le since)
      where
        at : (t : ℕ) (left : Left) → AreOthersSame scope s.files left.files → CameBefore s left.output left.restarts
            → IsSeen scope (left_since old t) (seen_left scope left) ⊎ IsLeft change (seen scope s) (seen_left scope left)
            → IsLeftIn scope change s left ⊎ IsMixed scope s (left_since old t) left
        at t left others came (inl earlier) = inr (record { whole = earlier.0; one = earlier.1; shown = earlier.2; others = others; came = came })
        at t left others came (inr under_way) = inl (record { under_way = under_way; others = others })

  module _ (change : Change) (result : Result (Unit {0}) ApplyFault) where
    -- what a run gives that begins on one view of a host and ends on another
    pub record IsViewed (from to : Scope) (old new : H) : Type 0 where
      pub ok : OnOk result (Finishes change (option_map (seen from) (told old)) (option_map (seen to) (told new)))
      pub err : IfErr result (λ fault. Stops change fault (option_map (seen from) (told old)) (option_map (seen to) (told new)))
      pub leaves : IfSome (option_map (seen from) (told old)) (λ s. SeenLeaves from to old new (IsLeft change s))
      pub keeps : KeepsOthers told moment left_since from old new

    -- it is a run over the files of that scope
    pub viewed : (scope from to : Scope) (old behind new ended : H) → from ≡ scope → to ≡ from → behind ≡ old → new ≡ ended
        → IsViewed from to behind ended → IsViewed scope scope old new
    viewed scope from to old behind new ended is same begins ends h =
        subst (λ (n : H). IsViewed scope scope old n) (sym ends)
        (subst (λ (o : H). IsViewed scope scope o ended) begins
        (subst (λ (s : Scope). IsViewed s s behind ended) is
        (subst (λ (s : Scope). IsViewed from s behind ended) same h)))

    module _ (scope : Scope) (old new : H) (clean : IfSome (told old) IsSettled) (h : IsViewed scope scope old new) where
      pub ok_behind : OnOk result (FinishesIn scope change (told old) (told new))
      ok_behind = by result h.ok
        where
          by : (r : Result (Unit {0}) ApplyFault) → OnOk r (Finishes change (option_map (seen scope) (told old)) (option_map (seen scope) (told new)))
              → OnOk r (FinishesIn scope change (told old) (told new))
          by (Ok x) ok = finishes_behind scope change (told old) (told new) clean h.keeps.tells h.keeps.now ok
          by (Err e) ok = tt

      pub err_behind : IfErr result (λ fault. StopsIn scope change fault (told old) (told new))
      err_behind = by result h.err
        where
          by : (r : Result (Unit {0}) ApplyFault) → IfErr r (λ fault. Stops change fault (option_map (seen scope) (told old)) (option_map (seen scope) (told new)))
              → IfErr r (λ fault. StopsIn scope change fault (told old) (told new))
          by (Ok x) err = tt
          by (Err e) err = stops_behind scope change e (told old) (told new) clean h.keeps.tells h.keeps.now err

      pub left_behind : IfSome (told old) (LeavesIn moment left_since scope change old new)
      left_behind = leaves_behind scope change old new (told old) clean h.keeps.ever h.keeps.holds h.leaves

    -- what such a run does to the folder
    pub record IsRun (scope : Scope) (old new : H) : Type 0 where
      pub ok : OnOk result (FinishesIn scope change (told old) (told new))
      pub err : IfErr result (λ fault. StopsIn scope change fault (told old) (told new))
      pub leaves : IfSome (told old) (LeavesIn moment left_since scope change old new)

    pub runs_viewed : (scope from to : Scope) (old behind new ended : H) → from ≡ scope → to ≡ from → behind ≡ old → new ≡ ended
        → IfSome (told old) IsSettled → IsViewed from to behind ended → IsRun scope old new
    runs_viewed scope from to old behind new ended is same begins ends clean h =
        let run = viewed scope from to old behind new ended is same begins ends h in
        record { ok = ok_behind scope old new clean run; err = err_behind scope old new clean run; leaves = left_behind scope old new clean run }
