-- How a change ends: finished, or stopped by a fault.
use Rattle.std.specs.Prelude.{◌≡◌, ◌<◌, ◌≤◌, ℕ, suc, List, [], ◌∷◌, ◌++◌, Option, Some, None, Ok}
use Rattle.std.specs.FinMap.{get}
use Rattle.host_core.specs.Counts.{Counts, Rose}
use Rattle.host_core.specs.State.{Files, State, settled}
use Rattle.conf_doc.specs.Texts.{file_text}
use Rattle.conf_doc.specs.declared.configuration.Config.{Config}
use Rattle.conf_store.specs.Files.{config_file, folded_file, intent_file, step_names}
use Rattle.conf_store.specs.Stored.{stored}
use Rattle.change_apply.specs.Acknowledgements.{ack, acks}
use Rattle.change_apply.specs.Change.{Change, goal, names, restarted, restarts_at, steps}
use Rattle.change_apply.specs.Crashes.{HasNext, KeepsBytes, KeepsOthers, StandAt}
use Rattle.change_apply.specs.Intents.{KeepsIntent}
use Rattle.change_apply.specs.declared.errors.ApplyFault.{ApplyFault}
use Rattle.change_apply.specs.declared.errors.ApplyFault.TheVariants.{Disk, Service, Print}
use Rattle.change_apply.specs.declared.ready.Restart.{Restart}

-- with these files, so many steps acknowledged and these services restarted, nothing is pending
abbrev pub worked : Files → ℕ → List (List ℕ) → State → State
worked files acked services s = record s {
  files = files;
  pending = settled;
  output = s.output ++ acks acked;
  restarts = s.restarts ++ services;
}

-- ---- finished

-- the one file is the file text of the configuration, no intent is there, and all else is as before
pub record IsWhole (config : Config) (before after : Files) : Type 0 where
  pub config_text : get after config_file ≡ Some (file_text config)
  pub steps : step_names after ≡ []
  pub folded : get after folded_file ≡ None
  pub intent : get after intent_file ≡ None
  pub others : KeepsOthers before after

-- the files stand for the goal; without steps nothing was written
pub record IsApplied (change : Change) (before after : Files) : Type 0 where
  pub stands : stored after ≡ Ok (goal change)
  pub none : steps change ≡ 0 → after ≡ before
  pub some : 0 < steps change → IsWhole (goal change) before after

-- all steps are done and acknowledged, and all their services restarted
abbrev pub Finishes : Change → Option State → Option State → Type 0
Finishes change None new = new ≡ None
Finishes change (Some s) new =
    (files : Files)
    × (new ≡ Some (worked files (steps change) (restarted change (steps change)) s))
    × IsApplied change s.files files

-- ---- stopped

-- the first k steps are acknowledged, and behind that this was printed and these were restarted
pub record IsStopped (change : Change) (k : ℕ) (part : List ℕ) (started : List Restart)
    (before after : State) : Type 0 where
  pub within : k ≤ steps change
  pub inputs : after.inputs ≡ before.inputs
  pub output : after.output ≡ before.output ++ acks k ++ part
  pub restarts : after.restarts ≡ before.restarts ++ restarted change k ++ names started
  pub stands : StandAt change k after.files
  pub intent : KeepsIntent change k before.files after.files
  pub others : KeepsOthers before.files after.files
  pub kept : k < steps change → KeepsBytes before.files after.files

-- stopped at the restart of that service of the next step, which is put
pub record IsStoppedInRestarts (change : Change) (k service : ℕ) (before after : State)
    : Type 0 where
  pub started : List Restart
  pub refused : Restart
  pub due : List Restart
  pub next : restarts_at change k ≡ started ++ refused ∷ due
  pub named : refused.service ≡ service
  pub stopped : IsStopped change k [] started before after
  pub put : HasNext change k after.files

-- stopped at the acknowledgement of the next step, which is put; a front of it is printed
pub record IsStoppedInPrint (change : Change) (k : ℕ) (before after : State) : Type 0 where
  pub part : List ℕ
  pub rest : List ℕ
  pub line : ack (suc k) ≡ part ++ rest
  pub stopped : IsStopped change k part (restarts_at change k) before after
  pub put : HasNext change k after.files

-- stopped by this fault
abbrev pub IsStoppedBy : Change → ApplyFault → State → State → Type 0
IsStoppedBy change (Disk k) = IsStopped change k [] []
IsStoppedBy change (Service k service) = IsStoppedInRestarts change k service
IsStoppedBy change (Print k) = IsStoppedInPrint change k

-- the same, of a host that may not tell its state
abbrev pub Stops : Change → ApplyFault → Option State → Option State → Type 0
Stops change fault None new = new ≡ None
Stops change fault (Some s) new = (t : State) × (new ≡ Some t) × IsStoppedBy change fault s t

-- ---- faults

-- the counts of disk, print and service may rise, and none falls
pub record MayRise (old new : Counts) : Type 0 where
  pub input : new.input ≡ old.input
  pub disk : old.disk ≤ new.disk
  pub print : old.print ≤ new.print
  pub service : old.service ≤ new.service

-- the count of the fault rose
abbrev pub HasCause : Counts → Counts → ApplyFault → Type 0
HasCause old new (Disk step) = Rose old.disk new.disk
HasCause old new (Service step service) = Rose old.service new.service
HasCause old new (Print step) = Rose old.print new.print
