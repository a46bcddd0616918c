-- What the change of one scope makes of the folder.
use Rattle.std.specs.Prelude.{◌≡◌, ◌⊎◌, ℕ, ◌<◌, ◌≤◌, List, ◌++◌, Option, Some, None}
use Rattle.host_core.specs.Crashes.{Left}
use Rattle.host_core.specs.State.{Files, IsFront, State, settled}
use Rattle.change_apply.specs.Change.{Change, restarted, steps}
use Rattle.change_apply.specs.Crashes.{IsLeft}
use Rattle.change_apply.specs.Ends.{IsApplied, IsStoppedBy, worked}
use Rattle.change_apply.specs.declared.errors.ApplyFault.{ApplyFault}
use Rattle.change_apply.specs.declared.errors.ApplyFault.TheVariants.{Disk, Service, Print}
use Rattle.scopes.specs.Views.{AreOthersSame, CameBefore, seen, seen_files, seen_left}
use Rattle.scopes.specs.declared.scope.Scope.{Scope}
use Rattle.scope_changes.specs.Works.{ScopeWork, apply_line, lines, opening}

-- ---- in the view of a scope

-- the files of the scope are those of the finished change, and others as before
pub record IsAppliedIn (scope : Scope) (change : Change) (before after : Files) : Type 0 where
  pub applied : IsApplied change (seen_files scope before) (seen_files scope after)
  pub others : AreOthersSame scope before after

-- all steps of the change are done
abbrev pub FinishesIn : Scope → Change → Option State → Option State → Type 0
FinishesIn scope change None new = new ≡ None
FinishesIn scope change (Some s) new =
    (files : Files)
    × (new ≡ Some (worked files (steps change) (restarted change (steps change)) s))
    × IsAppliedIn scope change s.files files

-- it is stopped
pub record IsStoppedIn (scope : Scope) (change : Change) (fault : ApplyFault)
    (before after : State) : Type 0 where
  pub stopped : IsStoppedBy change fault (seen scope before) (seen scope after)
  pub others : AreOthersSame scope before.files after.files

-- the same, of a host that may not tell its state
abbrev pub StopsIn : Scope → Change → ApplyFault → Option State → Option State → Type 0
StopsIn scope change fault None new = new ≡ None
StopsIn scope change fault (Some s) new =
    (t : State) × (new ≡ Some t) × IsStoppedIn scope change fault s t

-- what a crash leaves
pub record IsLeftIn (scope : Scope) (change : Change) (before : State) (left : Left) : Type 0 where
  pub under_way : IsLeft change (seen scope before) (seen_left scope left)
  pub others : AreOthersSame scope before.files left.files

-- what is left of the scope is as in one of these; the rest, and what came out, is no earlier than before
pub record IsMixed (scope : Scope) (before : State) (these : Left → Type 0) (left : Left)
    : Type 0 where
  pub whole : Left
  pub one : these whole
  pub shown : seen_left scope left ≡ seen_left scope whole
  pub others : AreOthersSame scope before.files left.files
  pub came : CameBefore before left.output left.restarts

-- a crash later leaves what it might have left before, or something of the change
abbrev pub LeavesIn :
    {H : Type 0} → (H → ℕ) → (H → ℕ → Left → Type 0) → Scope → Change → H → H → State → Type 0
LeavesIn moment left_since scope change old new s =
    (t : ℕ) (left : Left) → t ≤ moment old → left_since new t left
    → left_since old t left ⊎ IsLeftIn scope change s left ⊎ IsMixed scope s (left_since old t) left

-- ---- with the line before it

-- the line is printed
abbrev pub opened : ScopeWork → State → State
opened w s = record s { output = s.output ++ apply_line w.scope }

-- the change of one scope is done
abbrev pub FinishesOne : ScopeWork → Option State → Option State → Type 0
FinishesOne w None new = new ≡ None
FinishesOne w (Some s) new =
    (files : Files)
    × (new ≡ Some (record s {
      files = files;
      pending = settled;
      output = s.output ++ lines w;
      restarts = s.restarts ++ restarted w.change (steps w.change);
    }))
    × IsAppliedIn w.scope w.change s.files files

-- it is stopped at its line, of which a front is printed
pub record IsStoppedAtLine (w : ScopeWork) (fault : ApplyFault) (before after : State)
    : Type 0 where
  pub is : fault ≡ Print 0
  pub part : List ℕ
  pub rest : List ℕ
  pub line : apply_line w.scope ≡ part ++ rest
  pub state : after ≡ record before { output = before.output ++ part }

-- it has steps, and is stopped
pub record IsStoppedOne (w : ScopeWork) (fault : ApplyFault) (before after : State) : Type 0 where
  pub some : 0 < steps w.change
  pub is :
      IsStoppedIn w.scope w.change fault (opened w before) after
      ⊎ IsStoppedAtLine w fault before after

-- the same, of a host that may not tell its state
abbrev pub StopsOne : ScopeWork → ApplyFault → Option State → Option State → Type 0
StopsOne w fault None new = new ≡ None
StopsOne w fault (Some s) new = (t : State) × (new ≡ Some t) × IsStoppedOne w fault s t

-- a crash left the files as they were, and a front of the line
pub record IsLeftAtLine (w : ScopeWork) (s : State) (left : Left) : Type 0 where
  pub part : List ℕ
  pub rest : List ℕ
  pub line : opening w ≡ part ++ rest
  pub files : left.files ≡ s.files
  pub output : left.output ≡ s.output ++ part
  pub restarts : left.restarts ≡ s.restarts

-- what a crash leaves of it
abbrev pub IsLeftOne : ScopeWork → State → Left → Type 0
IsLeftOne w s left =
    ((0 < steps w.change) × IsLeftIn w.scope w.change (opened w s) left) ⊎ IsLeftAtLine w s left

-- where what was left so far had a front of the output, a crash later leaves that, or something of the change
abbrev pub LeavesOne :
    {H : Type 0} → (H → ℕ) → (H → ℕ → Left → Type 0) → ScopeWork → H → H → State → Type 0
LeavesOne moment left_since w old new s =
    (t : ℕ) → t ≤ moment old
    → ((left : Left) → left_since old t left → IsFront left.output s.output)
    → (left : Left) → left_since new t left → left_since old t left ⊎ IsLeftOne w s left

-- ---- a fault

-- the steps that it tells
abbrev pub step_of : ApplyFault → ℕ
step_of (Disk k) = k
step_of (Service k service) = k
step_of (Print k) = k
