-- The last lines of a change of several scopes, found among those that were made before.
use Rattle.std.proofs.Common.{◌≡◌, ◌<◌, ◌≤◌, ⊎_elim, inl, inr, ℕ, zero, suc, ◌+◌, List, [], ◌∷◌, ◌++◌, get_or, length, refl, sym, ap, ◌∙◌, subst, arith, Option, Some, None, IfSome}
use Rattle.std.specs.Prelude.{unwrap_or}
use Rattle.std.specs.FinMap.{get}
use Rattle.std.specs.List.{AllByRecursion}
use Rattle.std.proofs.Math.Seq.{get_or-append-add}
use Rattle.std.proofs.lemmas.List.{get_or_append_left, length-append}
use Rattle.host_core.specs.State.{Files, State}
use Rattle.conf_store.specs.Files.{intent_file}
use Rattle.change_apply.specs.Change.{Change, restarts_at, steps}
use Rattle.change_apply.specs.Ends.{IsStoppedBy, IsStoppedInRestarts}
use Rattle.change_apply.specs.declared.errors.ApplyFault.{ApplyFault}
use Rattle.change_apply.specs.declared.errors.ApplyFault.TheVariants.{Disk, Print, Service}
use Rattle.change_apply.specs.declared.ready.Restart.{Restart}
use Rattle.scopes.specs.Views.{seen, seen_files}
use Rattle.scope_changes.specs.Ends.{FinishesAll, IsDone, IsStoppedBefore, IsStoppedWithin, StopsAll, begun, behind_steps}
use Rattle.scope_changes.specs.Works.{ScopeWork, all_steps}
use Rattle.gcu_output.specs.Lines.{last_line, service_line}
use Rattle.gcu_output.specs.declared.outcomes.Outcome.{Outcome}
use Rattle.gcu_output.specs.declared.outcomes.Outcome.TheVariants.{Done, DiskFault, ServiceFault}
use Rattle.writing_commands.specs.FaultLines.{found, line_at, service_lines_at}
use Rattle.scope_commands.specs.ReadyScopes.{AreLong, HasAllBytes, restarts_in}
use Rattle.scope_commands.specs.ScopeEndings.{AreClosed, IsLastOfAll, IsRefusedRestart}
use Rattle.scope_commands.specs.declared.change_scopes.ReadyScopes.{ReadyScopes}
use Rattle.writing_commands.proofs.FaultTexts.{disk_there, service_there}

-- what is there before the last line, of a host that may not tell its state
abbrev pub IsLastIn : List ScopeWork → Option State → Option State → Outcome → List ℕ → Type 0
IsLastIn works None told answer text = told ≡ None
IsLastIn works (Some began) told answer text =
    (now : State) × (told ≡ Some now) × IsLastOfAll works began now answer text

-- ---- steps of all scopes

steps_of_all : (works : List ScopeWork) → AreLong works → length (restarts_in works) ≡ all_steps works
steps_of_all [] long = refl
steps_of_all (w ∷ works) long =
    length-append w.change.restarts (restarts_in works) ∙ (λ i. long.0 i + steps_of_all works long.1 i)

steps_around : (done : List ScopeWork) (w : ScopeWork) (due : List ScopeWork)
    → all_steps (done ++ w ∷ due) ≡ all_steps done + (steps w.change + all_steps due)
steps_around [] w due = omega arith
steps_around (x ∷ done) w due = ap (λ (n : ℕ). steps x.change + n) (steps_around done w due) ∙ omega arith

-- the restarts of a step of one of them
restarts_there : (done : List ScopeWork) (w : ScopeWork) (due : List ScopeWork) (k : ℕ) → AreLong (done ++ w ∷ due)
    → k < length w.change.restarts
    → get_or (restarts_in (done ++ w ∷ due)) (all_steps done + k) [] ≡ restarts_at w.change k
restarts_there [] w due k long low =
    let here : 0 + k ≡ k = omega arith in
    ap (λ (n : ℕ). get_or (w.change.restarts ++ restarts_in due) n []) here
    ∙ get_or_append_left w.change.restarts (restarts_in due) [] k low
restarts_there (x ∷ done) w due k long low =
    let up : (steps x.change + all_steps done) + k ≡ length x.change.restarts + (all_steps done + k) =
    let same : length x.change.restarts ≡ steps x.change = long.0 in omega (arith, same) in
    ap (λ (n : ℕ). get_or (x.change.restarts ++ restarts_in (done ++ w ∷ due)) n []) up
    ∙ get_or-append-add x.change.restarts (restarts_in (done ++ w ∷ due)) (all_steps done + k) []
    ∙ restarts_there done w due k long.1 low

-- a step that restarts something is one of them
low_step : (all : List (List Restart)) (k : ℕ) (started : List Restart) (r : Restart) (due : List Restart)
    → get_or all k [] ≡ started ++ r ∷ due → k < length all
low_step [] zero [] r due e = absurd cc
low_step [] zero (x ∷ started) r due e = absurd cc
low_step [] (suc k) [] r due e = absurd cc
low_step [] (suc k) (x ∷ started) r due e = absurd cc
low_step (rs ∷ all) zero started r due e = omega arith
low_step (rs ∷ all) (suc k) started r due e = let less = low_step all k started r due e in omega (arith, less)

-- ---- what a fault tells

disk_of : (n k : ℕ) (c : Change) (inner : ApplyFault) (s t : State) → Disk k ≡ behind_steps n inner
    → IsStoppedBy c inner s t → k ≤ n + steps c
disk_of n k c (Disk j) s t is stopped = let same : k ≡ n + j = cc in omega (arith, same, stopped.within)
disk_of n k c (Service j service) s t is stopped = absurd cc
disk_of n k c (Print j) s t is stopped = absurd cc

disk_within : (works : List ScopeWork) (k : ℕ) (s t : State) → IsStoppedWithin works (Disk k) s t → k ≤ all_steps works
disk_within works k s t h =
    let few = disk_of (all_steps h.done) k h.at.change h.inner (begun h.done h.at s) (seen h.at.scope t)
    h.is h.stopped in
    let all : all_steps works ≡ all_steps h.done + (steps h.at.change + all_steps h.due) = ap all_steps h.are ∙
    steps_around h.done h.at h.due in
    omega (arith, few, all)

disk_before : (works : List ScopeWork) (k : ℕ) (s t : State) → IsStoppedBefore works (Disk k) s t → k ≤ all_steps works
disk_before works k s t h = let is = h.is in absurd cc

-- the restart that was refused
record IsOwnRestart (n step service : ℕ) (c : Change) (inner : ApplyFault) (s t : State) : Type 0 where
  own : ℕ
  is : inner ≡ Service own service
  behind : step ≡ n + own
  restart : IsStoppedInRestarts c own service s t

own_restart : (n step service : ℕ) (c : Change) (inner : ApplyFault) (s t : State)
    → Service step service ≡ behind_steps n inner → IsStoppedBy c inner s t
    → IsOwnRestart n step service c inner s t
own_restart n step service c (Disk j) s t is stopped = absurd cc
own_restart n step service c (Service j x) s t is stopped =
    let same : x ≡ service = cc in
    let behind : step ≡ n + j = cc in
    record {
      own = j;
      is = ap (Service j) same;
      behind = behind;
      restart =
          subst (λ (y : ℕ). IsStoppedInRestarts c j y s t) same stopped;
    }
own_restart n step service c (Print j) s t is stopped = absurd cc

refused_restart : (works : List ScopeWork) (step service : ℕ) (s t : State)
    → StopsAll works (Service step service) (Some s) (Some t) → IsRefusedRestart works step service s t
refused_restart works step service s t (now, is, inl h) =
    let same : now ≡ t = cc in
    let at = subst (λ (v : State). IsStoppedWithin works (Service step service) s v) same h in
    let own = own_restart (all_steps at.done) step service at.at.change at.inner (begun at.done at.at s)
    (seen at.at.scope t) at.is at.stopped in
    record { within = at; own = own.own; inner = own.is; restart = own.restart }
refused_restart works step service s t (now, is, inr h) = let never = h.is in absurd cc

-- ---- the last line

-- no scope has an intent that is done and had none
all_closed : (works : List ScopeWork) (before after : Files) → AreClosed works before
    → AllByRecursion (IsDone before after) works → AreClosed works after
all_closed [] before after closed done = tt
all_closed (w ∷ works) before after closed done =
    (by (steps w.change) refl, all_closed works before after closed.1 done.1)
  where
    by : (n : ℕ) → steps w.change ≡ n → get (seen_files w.scope after) intent_file ≡ None
    by zero e = done.0.kept e ∙ closed.0
    by (suc n) e = (done.0.whole (omega (arith, e))).intent

-- all is done
pub done_last : (works : List ScopeWork) (o told : Option State) → IfSome o (λ s. AreClosed works s.files)
    → FinishesAll works o told
    → IsLastIn works o told Done (last_line Done)
done_last works None told closed h = h
done_last works (Some began) told closed h =
    (_, h.1, ((h.0, refl, h.2), refl, all_closed works began.files h.0 closed h.2.finished))

-- a fault of the disk stopped it
pub disk_last : (ready : ReadyScopes) → HasAllBytes ready → (o told : Option State) (k : ℕ)
    → StopsAll ready.changes (Disk k) o told
    → IsLastIn ready.changes o told (DiskFault k) (line_at ready.lines.disk k)
disk_last ready bytes None told k h = h
disk_last ready bytes (Some began) told k h =
    let few : k ≤ all_steps ready.changes = ⊎_elim (disk_within ready.changes k began h.0)
    (disk_before ready.changes k began h.0) h.2 in
    let long : length (restarts_in ready.changes) ≡ all_steps ready.changes = steps_of_all ready.changes bytes.long in (
      h.0,
      h.1,
      (
        (h.0, refl, h.2),
        ap (λ (ls : List (List ℕ)). line_at ls k) bytes.lines_are.disk ∙
            disk_there (suc (length (restarts_in ready.changes))) k (omega (arith, few, long)),
      ),
    )

module _ (ready : ReadyScopes) (bytes : HasAllBytes ready) (step service : ℕ) (s t : State)
    (h : IsRefusedRestart ready.changes step service s t) where
  own_next : get_or (restarts_in ready.changes) step [] ≡ h.restart.started ++ h.restart.refused ∷ h.restart.due
  own_next =
      let w = h.within in
      let behind : step ≡ all_steps w.done + h.own = behind_of w.is h.inner in
      let low = low_step w.at.change.restarts h.own h.restart.started h.restart.refused h.restart.due h.restart.next in
      (λ i. get_or (restarts_in (w.are i)) (behind i) [])
      ∙ restarts_there w.done w.at w.due h.own (subst AreLong w.are bytes.long) low
      ∙ h.restart.next
    where
      behind_of : Service step service ≡ behind_steps (all_steps h.within.done) h.within.inner
          → h.within.inner ≡ Service h.own service → step ≡ all_steps h.within.done + h.own
      behind_of is inner =
          let same : Service step service ≡ Service (all_steps h.within.done + h.own) service = is ∙
          ap (behind_steps (all_steps h.within.done)) inner in cc

  service_said : unwrap_or (found service (service_lines_at ready.lines.services step)) [] ≡ service_line step service
      h.restart.refused.name
  service_said =
      ap (λ (x : ℕ). unwrap_or (found x (service_lines_at ready.lines.services step)) []) (sym h.restart.named)
      ∙ service_there bytes.settings (restarts_in ready.changes) ready.lines.services step
      h.restart.started h.restart.refused h.restart.due bytes.lines_are.services (bytes.named step) own_next
      ∙ ap (λ (x : ℕ). service_line step x h.restart.refused.name) h.restart.named

-- a fault of a service stopped it
pub service_last : (ready : ReadyScopes) → HasAllBytes ready → (o told : Option State) (step service : ℕ)
    → StopsAll ready.changes (Service step service) o told
    → IsLastIn ready.changes o told (ServiceFault step service)
    (unwrap_or (found service (service_lines_at ready.lines.services step)) [])
service_last ready bytes None told step service h = h
service_last ready bytes (Some began) told step service h =
    let refused = refused_restart ready.changes step service began h.0 (h.0, refl, h.2) in
    (h.0, h.1, (refused, service_said ready bytes step service began h.0 refused))
