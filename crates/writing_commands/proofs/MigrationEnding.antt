-- How a migration ends that is ready: its last line, and what a crash leaves until it is printed.
use Rattle.std.proofs.Common.{◌≡◌, ◌≤◌, ◌<◌, inl, inr, ℕ, suc, List, ◌++◌, length, take, refl, sym, ap, ◌∙◌, subst, arith, Option, Some, None, IfSome, option_map}
use Rattle.std.proofs.lemmas.Option.{slice_get_within}
use Rattle.host_core.specs.Counts.{Counts}
use Rattle.host_core.specs.Crashes.{Elapses, Left, LeavesOnly, MayLeave, MayLeaveInPrint, MayLeaveNow}
use Rattle.host_core.specs.State.{State, printed}
use Rattle.host_core.proofs.Runs as runs
use Rattle.checkpoints.specs.Migrations.{NewFile}
use Rattle.checkpoints.specs.MigrationCrashes.{IsLeft}
use Rattle.checkpoints.specs.MigrationEnds.{Finishes, Stops}
use Rattle.checkpoints.specs.MigrationLines.{lines_text}
use Rattle.checkpoints.specs.declared.errors.MigrateFault.TheVariants.{Disk, Print}
use Rattle.gcu_output.specs.Lines.{last_line}
use Rattle.gcu_output.specs.declared.outcomes.Outcome.{Outcome}
use Rattle.gcu_output.specs.declared.outcomes.Outcome.TheVariants.{Done, DiskFault, PrintFault}
use Rattle.command_answers.specs.Answers.{HasCause}
use Rattle.writing_commands.specs.Doing.{IsEnded}
use Rattle.writing_commands.specs.FaultLines.{line_at}
use Rattle.command_answers.specs.Migrating.{LeftMigrating}
use Rattle.writing_commands.specs.MigrationEnds.{EndsMigration, HasLines, IsLastOf, told_before}
use Rattle.writing_commands.specs.declared.migrating.ReadyMigration.{ReadyMigration}
use Rattle.writing_commands.proofs.FaultTexts.{disk_there}

-- what is there before the last line, of a host that may not tell its state
abbrev pub IsLastIn : List NewFile → Option State → Option State → Outcome → List ℕ → Type 0
IsLastIn news None told answer text = told ≡ None
IsLastIn news (Some began) told answer text = (now : State) × (told ≡ Some now) × IsLastOf news began now answer text

-- ---- before the last line

-- all is done
pub all_last : (news : List NewFile) (o told : Option State) → Finishes news o told
    → IsLastIn news o told Done (last_line Done)
all_last news None told h = h
all_last news (Some began) told h = (_, h.1, ((h.0, refl, h.2), refl))

-- a fault of the disk stopped it
pub stopped_last : (ready : ReadyMigration) → HasLines ready → (o told : Option State) (k : ℕ)
    → Stops ready.migration (Disk k) o told
    → IsLastIn ready.migration o told (DiskFault k) (line_at ready.faults k)
stopped_last ready lines None told k h = h
stopped_last ready lines (Some began) told k h =
    let within : k < length ready.migration = slice_get_within ready.migration k h.2.next h.2.is in (
      h.0,
      h.1,
      (
        h.2,
        ap (λ (ls : List (List ℕ)). line_at ls k) lines.faults ∙ disk_there (suc (length ready.migration))
            k (omega (arith, within)),
      ),
    )

-- ---- its end

-- the last line is printed, or a front of it
pub ends_migration : (news : List NewFile) (o told after : Option State) (old mid new : Counts)
    (answer result : Outcome) (text : List ℕ) (step : ℕ) → step ≡ told_before news answer
    → IsLastIn news o told answer text → HasCause old new answer → IsEnded answer text step told after mid new result
    → EndsMigration news o after old new result
ends_migration news None told after old mid new answer result text step are last cause (inl whole) =
    whole.1 ∙ ap (option_map (printed text)) last
ends_migration news None told after old mid new answer result text step are last cause (inr part) =
    part.1.3 ∙ ap (option_map (printed part.1.0)) last
ends_migration news (Some began) told after old mid new answer result text step are last cause (inl whole) =
    inl (
      last.0,
      text,
      subst (λ (a : Outcome). IsLastOf news began last.0 a text) (sym whole.0) last.2,
      whole.1 ∙
          ap (option_map (printed text)) last.1,
    )
ends_migration news (Some began) told after old mid new answer result text step are last cause (inr part) =
    inr (inl (
      last.0,
      answer,
      part.1.0,
      part.1.1,
      subst (λ (t : List ℕ). IsLastOf news began last.0 answer t) part.1.2 last.2,
      cause,
      part.0 ∙ ap PrintFault are,
      part.1.3 ∙ ap (option_map (printed part.1.0)) last.1,
    ))

-- the line of a checkpoint is cut short
pub cut_in_line : (news : List NewFile) (o told : Option State) (old new : Counts) (k : ℕ) → Stops news (Print k) o told
    → EndsMigration news o told old new (PrintFault k)
cut_in_line news None told old new k h = h
cut_in_line news (Some began) told old new k h = inr (inr (h.0, k, h.2, refl, h.1))

-- ---- what a crash leaves

some_is : (s t : State) → Some s ≡ Some t → s ≡ t
some_is s t e = let same : s ≡ t = cc in same

-- those that are told before the last line
abbrev pub told_ones : List NewFile → Outcome → List NewFile
told_ones news (DiskFault k) = take k news
told_ones news other = news

pub ones_output : (news : List NewFile) (began now : State) (answer : Outcome) (text : List ℕ)
    → IsLastOf news began now answer text
    → now.output ≡ began.output ++ lines_text (told_ones news answer)
ones_output news began now Done text h = ap (λ (t : State). t.output) (some_is now _ h.0.1)
ones_output news began now (DiskFault k) text h = h.0.leads.output
ones_output news began now other text never = absurd never

line_is : (news : List NewFile) (began now : State) (answer : Outcome) (text : List ℕ)
    → IsLastOf news began now answer text → text ≡ last_line answer
line_is news began now Done text h = h.1
line_is news began now (DiskFault k) text h = h.1
line_is news began now other text never = absurd never

module _ {H : Type 0} (moment : H → ℕ) (left_since : H → ℕ → Left → Type 0) where
  ends_in : (news : List NewFile) (began now : State) (answer : Outcome) (text : List ℕ) (old mid new : H)
      → IsLastOf news began now answer text
      → ((left : Left) → moment old ≤ moment mid → MayLeave now left → left_since mid (moment old) left)
      → LeavesOnly moment left_since old mid (IsLeft news began)
      → Elapses moment left_since mid new (MayLeaveInPrint text (Some now))
      → LeavesOnly moment left_since old new (LeftMigrating news began)
  ends_in news began now answer text old mid new last here so_far time =
      runs.goes_on moment left_since old mid new (LeftMigrating news began) (MayLeaveInPrint text (Some now))
      (runs.weaker moment left_since old mid (IsLeft news began) (LeftMigrating news began) (λ left h. inl h) so_far)
      time
      (λ left h.
      let ones = told_ones news answer in
      let so_many : now.output ≡ began.output ++ lines_text ones = ones_output news began now answer text last in
      inr (record {
        told = ones;
        answer = answer;
        part = h.0;
        rest = h.1;
        line = sym (line_is news began now answer text last) ∙ h.2;
        output = h.3.output ∙ ap (λ (o : List ℕ). o ++ h.0) so_many;
        is = so_far.each (record left { output = began.output ++ lines_text ones })
            (here (record left { output = began.output ++ lines_text ones }) so_far.later
            (record { files = h.3.files; output = sym so_many; restarts = h.3.restarts }));
      }))

  -- of a host that may not tell its state
  pub ends_left : (news : List NewFile) (o told : Option State) (answer : Outcome) (text : List ℕ) (old mid new : H)
      → IsLastIn news o told answer text
      → ((left : Left) → moment old ≤ moment mid → MayLeaveNow told left → left_since mid (moment old) left)
      → IfSome o (λ s. LeavesOnly moment left_since old mid (IsLeft news s))
      → Elapses moment left_since mid new (MayLeaveInPrint text told)
      → IfSome o (λ s. LeavesOnly moment left_since old new (LeftMigrating news s))
  ends_left news None told answer text old mid new last here so_far time = tt
  ends_left news (Some began) told answer text old mid new last here so_far time =
      ends_in news began last.0 answer text old mid new last.2
      (λ left later may. here left later (subst (λ t. MayLeaveNow t left) (sym last.1) may)) so_far
      (subst (λ t. Elapses moment left_since mid new (MayLeaveInPrint text t)) last.1 time)
