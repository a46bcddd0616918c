-- From one scope to the next: what is done, what a fault leaves, and what a crash does.
use Rattle.std.proofs.Common.{◌≡◌, ◌≤◌, ◌<◌, ◌⊎◌, ⊎_elim, inl, inr, ℕ, ◌+◌, List, [], ◌∷◌, ◌++◌, Option, Some, None, IfSome, refl, sym, ap, ◌∙◌, subst, arith, append_assoc, append-nil}
use Rattle.host_core.specs.Crashes.{Image, Left, MayLeaveNow}
use Rattle.host_core.specs.State.{Files, IsFront, State, settled}
use Rattle.conf_store.specs.Changes.{IsSettled}
use Rattle.conf_store.specs.Folds.{StandsFor}
use Rattle.change_apply.specs.Change.{Change, restarted, steps}
use Rattle.change_apply.specs.Crashes as changes
use Rattle.change_apply.specs.Crashes.{IsLeft}
use Rattle.change_apply.specs.Ends.{IsStoppedBy}
use Rattle.change_apply.specs.declared.errors.ApplyFault.{ApplyFault}
use Rattle.change_apply.specs.declared.errors.ApplyFault.TheVariants.{Disk, Service, Print}
use Rattle.scopes.specs.Laws.{came_itself, front_of, front_of_front}
use Rattle.scopes.specs.Views.{seen, seen_files, seen_left, seen_pending}
use Rattle.scope_changes.specs.Crashes.{IsLeftAmong, LeavesSince}
use Rattle.scope_changes.specs.Ends.{AreParted, AreReadyFor, IsBetween, IsStoppedBefore, IsStoppedWithin, StopsAll, begun, behind_all, behind_steps}
use Rattle.scope_changes.specs.Stages.{FinishesOne, IsLeftOne, IsStoppedAtLine, IsStoppedIn, LeavesOne, StopsOne, opened}
use Rattle.scope_changes.specs.Works.{ScopeWork, all_lines, all_restarts, all_steps, apply_line, lines, next_line}
use Rattle.scope_changes.proofs.Lists.{flat_map_more, front_of_all}
use Rattle.scope_changes.proofs.Opening.{left_front}
use Rattle.scope_changes.proofs.OtherScopes.{AsicsApart, HostApart, kept_but}
use Rattle.scope_changes.proofs.Parting.{IsPlaced, applied_beside, applied_done, parted_behind, parted_first, parted_within}

-- ---- what a crash left so far

-- as before all of it, or one of the scopes was under way, or none; and no more was printed than now
abbrev pub LeftWith : List ScopeWork → (was these : Left → Type 0) → State → State → Type 0
LeftWith works was these s now =
    (left : Left) → these left → (was left ⊎ IsLeftAmong works s left) × IsFront left.output now.output

abbrev pub LeftSoFar : List ScopeWork → (was these : Left → Type 0) → Option State → Option State → Type 0
LeftSoFar works was these o m = IfSome o (λ s. IfSome m (λ now. LeftWith works was these s now))

-- no more was printed than there is
abbrev pub IsNoMore : (Left → Type 0) → Option State → Type 0
IsNoMore was o = IfSome o (λ s. (left : Left) → was left → IsFront left.output s.output)

-- without scopes nothing is printed
nothing_more : (xs : List ℕ) → xs ≡ xs ++ [] ++ []
nothing_more xs = sym (append-nil (xs ++ []) ∙ append-nil xs)

-- before the first scope
left_first : (works : List ScopeWork) (s : State) (left : Left) → IsSettled s → MayLeaveNow (Some s) left → IsLeftAmong works s left
left_first works s left clean may =
    inr (record {
      done = [];
      due = works;
      are = refl;
      part = [];
      rest = next_line works;
      line = refl;
      output = may.output ∙ nothing_more s.output;
      restarts = may.restarts ∙ sym (append-nil s.restarts);
      files = subst (AreParted [] works [] s.files) (sym (subst (λ p. Image p s.files left.files) clean may.files)) (parted_first works s.files);
    })

no_more_now : (s : State) (was : Left → Type 0) → ((left : Left) → was left → MayLeaveNow (Some s) left) → (left : Left) → was left → IsFront left.output s.output
no_more_now s was now left since = subst (λ (l : List ℕ). IsFront l s.output) (sym (now left since).output) (came_itself s).0

pub so_far_first : (works : List ScopeWork) (was : Left → Type 0) (o : Option State) → IsNoMore was o → LeftSoFar works was was o o
so_far_first works was None fronts = tt
so_far_first works was (Some s) fronts = λ left since. (inl since, fronts left since)

-- behind the last
pub so_far_last : (works done due : List ScopeWork) (was these : Left → Type 0) (o m : Option State) → IsBetween done due o m → LeftSoFar works was these o m
    → (left : Left) → these left → IfSome o (λ s. was left ⊎ IsLeftAmong works s left)
so_far_last works done due was these None m is so_far left since = tt
so_far_last works done due was these (Some s) m (files, is, parted) so_far left since =
    (subst (λ p. IfSome p (λ v. LeftWith works was these s v)) is so_far left since).0

-- all of it
pub leaves_all : {H : Type 0} (moment : H → ℕ) (left_since : H → ℕ → Left → Type 0) (works : List ScopeWork) (o : Option State) (old new : H) → IfSome o IsSettled
    → moment old ≤ moment new → ((left : Left) → left_since old (moment old) left → MayLeaveNow o left)
    → ((t : ℕ) → t ≤ moment old → IsNoMore (left_since old t) o → (left : Left) → left_since new t left → IfSome o (λ s. left_since old t left ⊎ IsLeftAmong works s left))
    → IfSome o (λ s. LeavesSince moment left_since old new s (IsLeftAmong works s))
leaves_all moment left_since works None old new clean later now leaves = tt
leaves_all moment left_since works (Some s) old new clean later now leaves = record {
  later = later;
  each = λ left since.
      ⊎_elim (λ before. left_first works s left clean (now left before)) (λ among. among)
      (leaves (moment old) (omega arith) (no_more_now s (left_since old (moment old)) now) left since);
  before = λ t le fronts left since. leaves t le fronts left since;
}

-- the files that a change has nothing to do with stay where it is stopped
others_of : (change : Change) (fault : ApplyFault) (s t : State) → IsStoppedBy change fault s t → changes.KeepsOthers s.files t.files
others_of change (Disk k) s t stopped = stopped.others
others_of change (Service k service) s t stopped = stopped.stopped.others
others_of change (Print k) s t stopped = stopped.stopped.others

-- ---- the first scope

pub between_first : (works : List ScopeWork) (o : Option State) → IfSome o IsSettled → IsBetween [] works o o
between_first works None clean = refl
between_first works (Some s) clean =
    let output = nothing_more s.output in
    let restarts : s.restarts ≡ s.restarts ++ [] = sym (append-nil s.restarts) in (
      s.files,
      (λ i. Some (record { inputs = s.inputs; files = s.files; pending = clean i; output = output i; restarts = restarts i })),
      parted_first works s.files,
    )

-- ---- what is needed of a state between two

pub clean_between : (done due : List ScopeWork) (o n : Option State) → IsBetween done due o n → IfSome n IsSettled
clean_between done due None n is = subst (λ p. IfSome p IsSettled) (sym is) tt
clean_between done due (Some s) n (files, is, parted) = subst (λ p. IfSome p IsSettled) (sym is) refl

pub stands_between : (done : List ScopeWork) (w : ScopeWork) (due : List ScopeWork) (o n : Option State)
    → IfSome o (λ s. AreReadyFor (done ++ w ∷ due) s.files) → IsBetween done (w ∷ due) o n
    → IfSome n (λ s. StandsFor w.change.stored (seen_files w.scope s.files))
stands_between done w due None n ready is = subst (λ p. IfSome p (λ s. StandsFor w.change.stored (seen_files w.scope s.files))) (sym is) tt
stands_between done w due (Some s) n ready (files, is, parted) =
    subst (λ p. IfSome p (λ s. StandsFor w.change.stored (seen_files w.scope s.files))) (sym is)
    (subst (StandsFor w.change.stored) (sym parted.unbegun.0) (front_of_all (λ v. StandsFor v.change.stored (seen_files v.scope s.files)) done due w ready).1)

-- ---- one scope

module _ (asics : AsicsApart) (host : HostApart) (done : List ScopeWork) (w : ScopeWork) (due : List ScopeWork) (is_placed : IsPlaced done w due) where
  -- what is printed for the scopes before it, and behind that
  lines_then : (xs part : List ℕ) → (xs ++ all_lines done ++ []) ++ part ≡ xs ++ all_lines done ++ part
  lines_then xs part = ap (λ (l : List ℕ). l ++ part) (append-nil (xs ++ all_lines done))

  lines_more : (xs : List ℕ) → (xs ++ all_lines done ++ []) ++ lines w ≡ xs ++ all_lines (done ++ w ∷ []) ++ []
  lines_more xs =
      lines_then xs (lines w)
      ∙ append_assoc xs (all_lines done) (lines w)
      ∙ ap (λ (l : List ℕ). xs ++ l) (sym (flat_map_more lines done w))
      ∙ sym (append-nil (xs ++ all_lines (done ++ w ∷ [])))

  restarts_more : (xs : List (List ℕ)) → (xs ++ all_restarts done) ++ restarted w.change (steps w.change) ≡ xs ++ all_restarts (done ++ w ∷ [])
  restarts_more xs =
      append_assoc xs (all_restarts done) (restarted w.change (steps w.change))
      ∙ ap (λ (l : List (List ℕ)). xs ++ l) (sym (flat_map_more (λ (v : ScopeWork). restarted v.change (steps v.change)) done w))

  done_by : (s : State) (f : Files) (n : Option State) → AreParted done (w ∷ due) done s.files f
      → FinishesOne w (Some (behind_all done [] f s)) n → IsBetween (done ++ w ∷ []) due (Some s) n
  done_by s f n parted (files, is, applied) =
      let output = lines_more s.output in
      let restarts = restarts_more s.restarts in (
        files,
        is ∙ (λ i. Some (record { inputs = s.inputs; files = files; pending = settled; output = output i; restarts = restarts i })),
        parted_behind asics host done w due is_placed s.files f files (applied_beside w f files applied) (applied_done w s.files f files parted.unbegun.0 applied) parted,
      )

  -- it is done
  pub between_next : (o m n : Option State) → IsBetween done (w ∷ due) o m → FinishesOne w m n → IsBetween (done ++ w ∷ []) due o n
  between_next None m n is fin = subst (λ p. FinishesOne w p n) is fin
  between_next (Some s) m n (f, is, parted) fin = done_by s f n parted (subst (λ p. FinishesOne w p n) is fin)

  -- what its scope shows when it begins
  begun_is : (s : State) (f : Files) → s.pending ≡ settled → seen_files w.scope f ≡ seen_files w.scope s.files
      → seen w.scope (opened w (behind_all done [] f s)) ≡ begun done w s
  begun_is s f clean same =
      let pending : settled ≡ seen_pending w.scope s.pending s.files = sym (ap (λ p. seen_pending w.scope p s.files) clean) in
      let output = lines_then s.output (apply_line w.scope) in
      λ i. record { inputs = s.inputs; files = same i; pending = pending i; output = output i; restarts = s.restarts ++ all_restarts done }

  module _ (works : List ScopeWork) (are : works ≡ done ++ w ∷ due) (s : State) (f : Files) (clean : s.pending ≡ settled)
      (parted : AreParted done (w ∷ due) done s.files f) where
    -- it is stopped at its line
    at_line : (fault : ApplyFault) (t : State) → 0 < steps w.change → IsStoppedAtLine w fault (behind_all done [] f s) t
        → IsStoppedBefore works (behind_steps (all_steps done) fault) s t
    at_line fault t some line =
        let there : t.files ≡ f = ap (λ (v : State). v.files) line.state in
        let inputs : t.inputs ≡ s.inputs = ap (λ (v : State). v.inputs) line.state in
        let pending : t.pending ≡ settled = ap (λ (v : State). v.pending) line.state in
        let output : t.output ≡ s.output ++ all_lines done ++ line.part = ap (λ (v : State). v.output) line.state ∙ lines_then s.output line.part in
        let restarts : t.restarts ≡ s.restarts ++ all_restarts done = ap (λ (v : State). v.restarts) line.state in
        let number : all_steps done + 0 ≡ all_steps done = omega arith in
        record {
          done = done;
          at = w;
          due = due;
          are = are;
          some = some;
          is = ap (behind_steps (all_steps done)) line.is ∙ ap (λ n. Print n) number;
          part = line.part;
          rest = line.rest;
          line = line.line;
          state = λ i. record { inputs = inputs i; files = t.files; pending = pending i; output = output i; restarts = restarts i };
          files = subst (AreParted done (w ∷ due) done s.files) (sym there) parted;
        }

    -- it is stopped in its steps
    within : (fault : ApplyFault) (t : State) → 0 < steps w.change → IsStoppedIn w.scope w.change fault (opened w (behind_all done [] f s)) t
        → IsStoppedWithin works (behind_steps (all_steps done) fault) s t
    within fault t some stopped =
        let moved : IsStoppedBy w.change fault (begun done w s) (seen w.scope t) =
        subst (λ (v : State). IsStoppedBy w.change fault v (seen w.scope t)) (begun_is s f clean parted.unbegun.0) stopped.stopped in
        let others = others_of w.change fault (seen w.scope (opened w (behind_all done [] f s))) (seen w.scope t) stopped.stopped in
        record {
          done = done;
          at = w;
          due = due;
          are = are;
          some = some;
          inner = fault;
          is = refl;
          stopped = moved;
          files =
              parted_within asics host done w due is_placed s.files f t.files
              (λ name out. kept_but w.scope f t.files others stopped.others name (out some)) parted;
        }

    -- a crash left it
    left_by : (left : Left) → IsLeftOne w (behind_all done [] f s) left → IsLeftAmong works s left
    left_by left (inl (some, under_way)) =
        inl (record {
          done = done;
          at = w;
          due = due;
          are = are;
          some = some;
          under_way =
              subst (λ (v : State). IsLeft w.change v (seen_left w.scope left)) (begun_is s f clean parted.unbegun.0) under_way.under_way;
          files =
              parted_within asics host done w due is_placed s.files f left.files
              (λ name out. kept_but w.scope f left.files under_way.under_way.others under_way.others name (out some)) parted;
        })
    left_by left (inr at) =
        inr (record {
          done = done;
          due = w ∷ due;
          are = are;
          part = at.part;
          rest = at.rest;
          line = at.line;
          output = at.output ∙ lines_then s.output at.part;
          restarts = at.restarts;
          files = subst (AreParted done (w ∷ due) done s.files) (sym at.files) parted;
        })

  module _ (works : List ScopeWork) (are : works ≡ done ++ w ∷ due) where
    -- it is stopped
    pub stopped_next : (fault : ApplyFault) (o m n : Option State) → IfSome o IsSettled → IsBetween done (w ∷ due) o m → StopsOne w fault m n
        → StopsAll works (behind_steps (all_steps done) fault) o n
    stopped_next fault None m n clean is stops = subst (λ p. StopsOne w fault p n) is stops
    stopped_next fault (Some s) m n clean (f, is, parted) stops =
        let found = subst (λ p. StopsOne w fault p n) is stops in
        let stopped = found.2 in (
          found.0,
          found.1,
          ⊎_elim (λ steps. inl (within works are s f clean parted fault found.0 stopped.some steps))
              (λ line. inr (at_line works are s f clean parted fault found.0 stopped.some line)) stopped.is,
        )

    module _ {H : Type 0} (moment : H → ℕ) (left_since : H → ℕ → Left → Type 0) (mid new : H) (t : ℕ) (within : t ≤ moment mid) (was : Left → Type 0) where
      -- a crash on the way leaves one of them
      pub left_next : (o m : Option State) → IfSome o IsSettled → IsBetween done (w ∷ due) o m → IfSome m (LeavesOne moment left_since w mid new)
          → LeftSoFar works was (left_since mid t) o m → (left : Left) → left_since new t left → IfSome o (λ s. was left ⊎ IsLeftAmong works s left)
      left_next None m clean is run so_far left since = tt
      left_next (Some s) m clean (f, is, parted) run so_far left since =
          let now = behind_all done [] f s in
          let so = subst (λ p. IfSome p (λ v. LeftWith works was (left_since mid t) s v)) is so_far in
          ⊎_elim (λ before. (so left before).0) (λ one. inr (left_by works are s f clean parted left one))
          (subst (λ p. IfSome p (LeavesOne moment left_since w mid new)) is run t within (λ l before. (so l before).1) left since)

      -- and so far, once it is done
      pub so_far_next : (o m n : Option State) → IfSome o IsSettled → IsBetween done (w ∷ due) o m → FinishesOne w m n
          → IfSome m (LeavesOne moment left_since w mid new) → LeftSoFar works was (left_since mid t) o m
          → LeftSoFar works was (left_since new t) o n
      so_far_next None m n clean is fin run so_far = tt
      so_far_next (Some s) m n clean (f, is, parted) fin run so_far =
          let now = behind_all done [] f s in
          let ended = subst (λ p. FinishesOne w p n) is fin in
          let so = subst (λ p. IfSome p (λ v. LeftWith works was (left_since mid t) s v)) is so_far in
          let leaves = subst (λ p. IfSome p (LeavesOne moment left_since w mid new)) is run in
          subst (λ p. IfSome p (λ v. LeftWith works was (left_since new t) s v)) (sym ended.1)
          (λ left since.
          ⊎_elim
          (λ before. let h = so left before in (h.0, front_of_front left.output now.output (now.output ++ lines w) h.1 (front_of now.output (lines w))))
          (λ one. (inr (left_by works are s f clean parted left one), left_front w now left one))
          (leaves t within (λ l before. (so l before).1) left since))
