-- How a change ends whose plan is printed: its last line, and what a crash leaves until it is printed.
use Rattle.std.proofs.Common.{◌≡◌, ◌≤◌, ◌<◌, inl, inr, ℕ, zero, suc, List, [], ◌++◌, length, false, refl, sym, ap, ◌∙◌, subst, arith, Option, Some, None, IfSome, option_map}
use Rattle.std.specs.Prelude.{unwrap_or}
use Rattle.std.specs.FinMap.{get}
use Rattle.host_core.specs.Counts.{Counts, PrintMayRise, Rose}
use Rattle.host_core.specs.Crashes.{Elapses, Left, LeavesOnly, MayLeave, MayLeaveInPrint, MayLeaveNow}
use Rattle.host_core.specs.State.{Files, State, printed}
use Rattle.host_core.proofs.Runs as runs
use Rattle.conf_store.specs.Files.{intent_file}
use Rattle.change_apply.specs.Acknowledgements.{acks}
use Rattle.change_apply.specs.Change.{Change, steps}
use Rattle.change_apply.specs.Crashes.{IsLeft}
use Rattle.change_apply.specs.Ends.{Finishes, IsApplied, Stops}
use Rattle.change_apply.specs.declared.errors.ApplyFault.TheVariants.{Disk, Print, Service}
use Rattle.gcu_output.specs.Lines.{last_line, service_line}
use Rattle.gcu_output.specs.declared.outcomes.Outcome.{Outcome}
use Rattle.gcu_output.specs.declared.outcomes.Outcome.TheVariants.{Done, DiskFault, PrintFault, ServiceFault}
use Rattle.writing_commands.specs.FaultLines.{found, line_at, service_lines_at}
use Rattle.command_answers.specs.Answers.{HasCause}
use Rattle.command_answers.specs.Changing.{IsLast, IsLastLine, acknowledged}
use Rattle.command_answers.specs.Crashes.{LeftSince}
use Rattle.writing_commands.specs.Doing.{ClosesAs, EndsWork, HasBytes, IsEnded}
use Rattle.writing_commands.specs.declared.changing.ReadyChange.{ReadyChange}
use Rattle.writing_commands.proofs.FaultTexts.{disk_there, service_there}
use Rattle.writing_commands.proofs.Changes.{last_output}
use Rattle.writing_commands.proofs.LastLines.{last_line_of, service_last_line}

-- what is there before the last line, of a host that may not tell its state
abbrev pub IsLastIn : Change → Option State → Option State → Outcome → List ℕ → Type 0
IsLastIn c None told answer text = told ≡ None
IsLastIn c (Some began) told answer text = (now : State) × (told ≡ Some now) × IsLast c began now answer text

-- ---- before the last line

-- `intent` is gone where all is done
gone_at_end : (c : Change) (before after : Files) → ClosesAs false c before → IsApplied c before after
    → get after intent_file ≡ None
gone_at_end c before after (inl some) h = (h.some some).intent
gone_at_end c before after (inr gone) h = by (steps c) refl
  where
    by : (n : ℕ) → steps c ≡ n → get after intent_file ≡ None
    by zero e = ap (λ (f : Files). get f intent_file) (h.none e) ∙ gone
    by (suc n) e = (h.some (omega (arith, e))).intent

-- all is done
pub done_last : (c : Change) (o told : Option State) → IfSome o (λ s. ClosesAs false c s.files) → Finishes c o told
    → IsLastIn c o told Done (last_line Done)
done_last c None told none h = h
done_last c (Some began) told none h = (_, h.1, ((h.0, refl, h.2), refl, gone_at_end c began.files h.0 none h.2))

within : {k n : ℕ} (m : ℕ) → k ≤ n → m ≡ n → k < suc m
within m le e = omega (arith, le, e)

-- a fault of the disk stopped it
pub disk_last : (ready : ReadyChange) → HasBytes ready → (o told : Option State) (k : ℕ)
    → Stops ready.ready (Disk k) o told
    → IsLastIn ready.ready o told (DiskFault k) (line_at ready.lines.disk k)
disk_last ready bytes None told k h = h
disk_last ready bytes (Some began) told k h = (
  h.0,
  h.1,
  (
    h.2,
    ap (λ (ls : List (List ℕ)). line_at ls k) bytes.lines_are.disk
        ∙ disk_there (suc (length ready.ready.restarts)) k (within (length ready.ready.restarts) h.2.within bytes.long),
  ),
)

-- a fault of a service stopped it
pub service_last : (ready : ReadyChange) → HasBytes ready → (o told : Option State) (k service : ℕ)
    → Stops ready.ready (Service k service) o told
    → IsLastIn ready.ready o told (ServiceFault k service)
    (unwrap_or (found service (service_lines_at ready.lines.services k)) [])
service_last ready bytes None told k service h = h
service_last ready bytes (Some began) told k service h = (
  h.0,
  h.1,
  (
    h.2,
    ap (λ (s : ℕ). unwrap_or (found s (service_lines_at ready.lines.services k)) []) (sym h.2.named)
        ∙ service_there bytes.settings ready.ready.restarts ready.lines.services k h.2.started h.2.refused h.2.due
        bytes.lines_are.services (bytes.named k) h.2.next
        ∙ ap (λ (s : ℕ). service_line k s h.2.refused.name) h.2.named,
  ),
)

-- ---- its end

-- the last line is printed, or a front of it
pub ends_work : (c : Change) (o told after : Option State) (old mid new : Counts) (answer result : Outcome)
    (text : List ℕ) (step : ℕ) → step ≡ acknowledged c answer
    → IsLastIn c o told answer text → HasCause old new answer → IsEnded answer text step told after mid new result
    → EndsWork c o after old new result
ends_work c None told after old mid new answer result text step are last cause (inl whole) =
    whole.1 ∙ ap (option_map (printed text)) last
ends_work c None told after old mid new answer result text step are last cause (inr part) =
    part.1.3 ∙ ap (option_map (printed part.1.0)) last
ends_work c (Some began) told after old mid new answer result text step are last cause (inl whole) =
    inl (
      last.0,
      text,
      subst (λ (a : Outcome). IsLast c began last.0 a text) (sym whole.0) last.2,
      whole.1 ∙
          ap (option_map (printed text)) last.1,
    )
ends_work c (Some began) told after old mid new answer result text step are last cause (inr part) =
    inr (inl (
      last.0,
      answer,
      part.1.0,
      part.1.1,
      subst (λ (t : List ℕ). IsLast c began last.0 answer t) part.1.2 last.2,
      cause,
      part.0 ∙ ap PrintFault are,
      part.1.3 ∙ ap (option_map (printed part.1.0)) last.1,
    ))

-- the acknowledgement of a step is cut short
pub cut_in_step : (c : Change) (o told : Option State) (old new : Counts) (k : ℕ) → Stops c (Print k) o told
    → EndsWork c o told old new (PrintFault k)
cut_in_step c None told old new k h = h
cut_in_step c (Some began) told old new k h = inr (inr (h.0, k, h.2, refl, h.1))

-- ---- causes

-- a fault of the disk or of a service stays while a line is printed
pub disk_printed : (old mid new : Counts) → PrintMayRise mid new → Rose old.disk mid.disk → Rose old.disk new.disk
disk_printed old mid new rises h = subst (λ (n : ℕ). Rose old.disk n) (sym (ap (λ (c : Counts). c.disk) rises.2)) h

pub service_printed : (old mid new : Counts) → PrintMayRise mid new → Rose old.service mid.service
    → Rose old.service new.service
service_printed old mid new rises h =
    subst (λ (n : ℕ). Rose old.service n) (sym (ap (λ (c : Counts). c.service) rises.2)) h

-- ---- what a crash leaves

-- the last line of an answer
pub is_last_line : (c : Change) (began now : State) (answer : Outcome) (text : List ℕ) → IsLast c began now answer text
    → IsLastLine text
is_last_line c began now Done text h = last_line_of Done text h.1 tt
is_last_line c began now (DiskFault k) text h = last_line_of (DiskFault k) text h.1 tt
is_last_line c began now (ServiceFault k service) text h = service_last_line k service h.0.refused.name text h.1
is_last_line c began now other text never = absurd never

module _ {H : Type 0} (moment : H → ℕ) (left_since : H → ℕ → Left → Type 0) where
  ends_in : (c : Change) (began now : State) (answer : Outcome) (text : List ℕ) (old mid new : H)
      → IsLast c began now answer text
      → ((left : Left) → moment old ≤ moment mid → MayLeave now left → left_since mid (moment old) left)
      → LeavesOnly moment left_since old mid (IsLeft c began)
      → Elapses moment left_since mid new (MayLeaveInPrint text (Some now))
      → LeavesOnly moment left_since old new (LeftSince c began began)
  ends_in c began now answer text old mid new last here so_far time =
      runs.goes_on moment left_since old mid new (LeftSince c began began) (MayLeaveInPrint text (Some now))
      (runs.weaker moment left_since old mid (IsLeft c began) (LeftSince c began began) (λ left h. inl h) so_far) time
      (λ left h.
      let k = acknowledged c answer in
      let so_many : now.output ≡ began.output ++ acks k = last_output c began now answer text last in
      inr (record {
        now = now;
        answer = answer;
        part = h.0;
        rest = h.1;
        line = subst (λ (t : List ℕ). IsLast c began now answer t) h.2 last;
        output = h.3.output ∙ ap (λ (o : List ℕ). o ++ h.0) so_many;
        is = so_far.each (record left { output = began.output ++ acks k })
            (here (record left { output = began.output ++ acks k }) so_far.later
            (record { files = h.3.files; output = sym so_many; restarts = h.3.restarts }));
      }))

  -- of a host that may not tell its state
  pub ends_left : (c : Change) (o told : Option State) (answer : Outcome) (text : List ℕ) (old mid new : H)
      → IsLastIn c o told answer text
      → ((left : Left) → moment old ≤ moment mid → MayLeaveNow told left → left_since mid (moment old) left)
      → IfSome o (λ s. LeavesOnly moment left_since old mid (IsLeft c s))
      → Elapses moment left_since mid new (MayLeaveInPrint text told)
      → IfSome o (λ s. LeavesOnly moment left_since old new (LeftSince c s s))
  ends_left c None told answer text old mid new last here so_far time = tt
  ends_left c (Some began) told answer text old mid new last here so_far time =
      ends_in c began last.0 answer text old mid new last.2
      (λ left later may. here left later (subst (λ t. MayLeaveNow t left) (sym last.1) may)) so_far
      (subst (λ t. Elapses moment left_since mid new (MayLeaveInPrint text t)) last.1 time)
