-- How changes of several scopes end: all finished, or one stopped by a fault.
use Rattle.std.specs.Prelude.{◌≡◌, ◌<◌, ◌⊎◌, ℕ, ◌+◌, List, [], ◌∷◌, ◌++◌, Option, Some, None, Ok}
use Rattle.std.specs.FinMap.{get}
use Rattle.std.specs.List.{AllByRecursion}
use Rattle.host_core.specs.State.{Files, State, settled}
use Rattle.conf_doc.specs.Texts.{file_text}
use Rattle.conf_doc.specs.declared.configuration.Config.{Config}
use Rattle.conf_store.specs.Files.{config_file, folded_file, intent_file, step_names}
use Rattle.conf_store.specs.Folds.{StandsFor}
use Rattle.conf_store.specs.Stored.{stored}
use Rattle.change_apply.specs.Change.{goal, steps}
use Rattle.change_apply.specs.Ends.{IsStoppedBy}
use Rattle.change_apply.specs.declared.errors.ApplyFault.{ApplyFault}
use Rattle.change_apply.specs.declared.errors.ApplyFault.TheVariants.{Disk, Service, Print}
use Rattle.scopes.specs.Views.{seen, seen_files}
use Rattle.scope_changes.specs.Works.{KeepsOutside, ScopeWork, all_lines, all_restarts, all_steps, apply_line}

-- ---- the scopes

-- each change is one of what the files of its scope stand for
abbrev pub AreReadyFor : List ScopeWork → Files → Type 0
AreReadyFor works files =
    AllByRecursion (λ w. StandsFor w.change.stored (seen_files w.scope files)) works

-- the one file is the file text of the configuration, and no intent is there
pub record IsOneFile (config : Config) (files : Files) : Type 0 where
  pub config_text : get files config_file ≡ Some (file_text config)
  pub steps : step_names files ≡ []
  pub folded : get files folded_file ≡ None
  pub intent : get files intent_file ≡ None

-- a scope is done: it stands for the goal of its change
pub record IsDone (before after : Files) (w : ScopeWork) : Type 0 where
  pub stands : stored (seen_files w.scope after) ≡ Ok (goal w.change)
  pub whole : 0 < steps w.change → IsOneFile (goal w.change) (seen_files w.scope after)
  -- without steps an intent is there where one was
  pub kept : steps w.change ≡ 0
      → get (seen_files w.scope after) intent_file ≡ get (seen_files w.scope before) intent_file

-- some scopes are done, others have all their files as before, and nothing but these was touched
pub record AreParted (done due touched : List ScopeWork) (before after : Files) : Type 0 where
  pub finished : AllByRecursion (IsDone before after) done
  pub unbegun :
      AllByRecursion (λ w. seen_files w.scope after ≡ seen_files w.scope before) due
  pub others : KeepsOutside touched before after

-- ---- finished

-- with these files, the changes of those scopes done and this printed behind, nothing is pending
abbrev pub behind_all : List ScopeWork → List ℕ → Files → State → State
behind_all done part files s = record s {
  files = files;
  pending = settled;
  output = s.output ++ all_lines done ++ part;
  restarts = s.restarts ++ all_restarts done;
}

-- those scopes are done, and the others as before
abbrev pub IsBetween : (done due : List ScopeWork) → Option State → Option State → Type 0
IsBetween done due None new = new ≡ None
IsBetween done due (Some s) new =
    (files : Files) × (new ≡ Some (behind_all done [] files s))
    × AreParted done due done s.files files

-- all are done
abbrev pub FinishesAll : List ScopeWork → Option State → Option State → Type 0
FinishesAll works = IsBetween works []

-- ---- stopped

-- what a scope shows once those before it are done and its line is printed
abbrev pub begun : List ScopeWork → ScopeWork → State → State
begun done at s = record (seen at.scope s) {
  output = s.output ++ all_lines done ++ apply_line at.scope;
  restarts = s.restarts ++ all_restarts done;
}

-- a fault behind so many steps of other scopes
abbrev pub behind_steps : ℕ → ApplyFault → ApplyFault
behind_steps n (Disk k) = Disk (n + k)
behind_steps n (Service k service) = Service (n + k) service
behind_steps n (Print k) = Print (n + k)

-- stopped in the change of one
pub record IsStoppedWithin (works : List ScopeWork) (fault : ApplyFault) (before after : State)
    : Type 0 where
  pub done : List ScopeWork
  pub at : ScopeWork
  pub due : List ScopeWork
  pub are : works ≡ done ++ at ∷ due
  pub some : 0 < steps at.change
  pub inner : ApplyFault
  pub is : fault ≡ behind_steps (all_steps done) inner
  pub stopped : IsStoppedBy at.change inner (begun done at before) (seen at.scope after)
  pub files : AreParted done due (done ++ at ∷ []) before.files after.files

-- stopped at the line before the change of one, of which a front is printed
pub record IsStoppedBefore (works : List ScopeWork) (fault : ApplyFault) (before after : State)
    : Type 0 where
  pub done : List ScopeWork
  pub at : ScopeWork
  pub due : List ScopeWork
  pub are : works ≡ done ++ at ∷ due
  pub some : 0 < steps at.change
  pub is : fault ≡ Print (all_steps done)
  pub part : List ℕ
  pub rest : List ℕ
  pub line : apply_line at.scope ≡ part ++ rest
  pub state : after ≡ behind_all done part after.files before
  pub files : AreParted done (at ∷ due) done before.files after.files

-- stopped by this fault
abbrev pub StopsAll : List ScopeWork → ApplyFault → Option State → Option State → Type 0
StopsAll works fault None new = new ≡ None
StopsAll works fault (Some s) new =
    (t : State) × (new ≡ Some t)
    × (IsStoppedWithin works fault s t ⊎ IsStoppedBefore works fault s t)
