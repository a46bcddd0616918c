-- A command that settles what is pending and then writes: what it leaves, and what is then answered.
use Rattle.std.proofs.Common.{◌≡◌, ◌≤◌, ◌⊎◌, inl, inr, Bool, true, false, cond, List, [], ℕ, append-nil, refl, sym, ap, ◌∙◌, subst, arith, Option, Some, None, Result, Ok, Err, IfErr, IfSome, option_map}
use Rattle.std.specs.Prelude.{OnOk}
use Rattle.std.specs.Cmp.Lexicographic.{nat_list_cmp_total}
use Rattle.std.specs.FinMap as finmap
use Rattle.std.specs.FinMap.{get}
use Rattle.std.specs.Ordering.{is_eq}
use Rattle.std.specs.declared.cmp.Ordering.{Ordering}
use Rattle.std.specs.declared.cmp.Ordering.TheVariants.{Less, Equal, Greater}
use Rattle.host_core.specs.Counts.{Counts, PrintMayRise}
use Rattle.host_core.specs.Crashes.{Elapses, Image, Left, LeavesOnly, MayLeave, MayLeaveNow}
use Rattle.host_core.specs.Names.{name_cmp}
use Rattle.host_core.specs.State.{Files, Pending, State, dirty, listing, printed, settled, with_file, with_pending}
use Rattle.host_core.proofs.Runs as runs
use Rattle.conf_store.specs.Changes.{AreLeft, Changes, Leads, Settles}
use Rattle.gcu_output.specs.Printing.{IsBeforeAnyStep, IsTold, may_have_written, outcome_of, IsPrinted}
use Rattle.gcu_output.specs.Lines.{last_line}
use Rattle.gcu_output.specs.declared.outcomes.Outcome.{Outcome}
use Rattle.gcu_output.specs.declared.outcomes.Outcome.TheVariants.{Done, Memory, Usage, InputFault, DiskFault, PrintFault, ServiceFault, Unorderable, Budget}
use Rattle.gcu_inputs.specs.Asking.{Asking, a_file, a_settling}
use Rattle.gcu_inputs.specs.Preparing.{FailsIn, Finds, Found, Refuses, StandsIn, refusal}
use Rattle.gcu_requests.specs.Request.{Request}
use Rattle.command_answers.specs.Answers.{HasCause, LeavesDone, LeavesStopped, Says, IsDoneOutput}
use Rattle.command_answers.specs.Commands.{AnswersTo, IsReady, LeavesRefused, LeftTo}
use Rattle.command_answers.specs.Crashes.{LeftOf, LeftWriting}
use Rattle.command_answers.proofs.Answering.{printed_leaves, refused_cause, refused_says}
use Rattle.command_answers.proofs.Elapsing.{asking_begins, left_here, no_front}

-- ---- what is left before the output

-- what a request that writes does to the files: all of it, or as much as was done
pub record IsWriting (r : Request) (P Q : Files → Files → Type 0) : Type 0 where
  pub done : (before : State) (files : Files) → P before.files files
      → LeavesDone r before (record before { files = files; pending = settled })
  pub stopped : (before now : State) → Leads Q (with_pending settled before) now → LeavesStopped r 0 before now
  pub doing : (before : State) (left : Left) → AreLeft Q before left → LeftWriting r before left
  pub says : IsDoneOutput r (last_line Done)

-- at one state: what is there when the last line of an answer is to be printed
abbrev IsLeft : Asking Request → State → Option State → Outcome → Type 0
IsLeft asking s new e = (now : State) × (new ≡ Some now) × Says asking s now e (last_line e) × (now.output ≡ s.output)

module _ (asking : Asking Request) (s : State) (reads : asking.Reads a_settling) where
  abbrev start : State
  start = with_pending settled s

  -- what was refused once it was settled, where nothing was written
  settled_says : (e : Outcome) (c d : Counts) → Refuses c d e → StandsIn asking e → FailsIn (refusal e) asking
      → Says asking s start e (last_line e)
  settled_says Done c d never st f = absurd never
  settled_says Memory c d h st f = (inr (reads, refl), refl)
  settled_says Usage c d never st f = absurd never
  settled_says InputFault c d h st f = (st, inr (reads, refl), refl)
  settled_says (DiskFault step) c d h st f = (st, inl (h.0, inr (reads, refl)), refl)
  settled_says (PrintFault step) c d never st f = absurd never
  settled_says (ServiceFault step service) c d never st f = absurd never
  settled_says Unorderable c d never st f = absurd never
  settled_says (Budget n) c d never st f = absurd never
  settled_says other c d h st f = (f, inr (reads, refl), refl)

  module _ (r : Request) (P Q : Files → Files → Type 0) (w : IsWriting r P Q) (new : Option State)
      (may : asking.Gives (Ok r) ⊎ (new ≡ Some start)) where
    -- a fault of the disk stopped it, or there was nothing to write
    stopped_says : (step : ℕ) → step ≡ 0 → Changes Q (Some start) new → asking.Reads a_file
        → IsLeft asking s new (DiskFault step)
    stopped_says step first changes reads_file = by may
      where
        by : asking.Gives (Ok r) ⊎ (new ≡ Some start) → IsLeft asking s new (DiskFault step)
        by (inl given) = (
          changes.0,
          changes.1,
          (
            reads_file,
            inr (
              r,
              given,
              subst (λ k. LeavesStopped r k s changes.0) (sym first)
                  (w.stopped s changes.0 changes.2),
            ),
            refl,
          ),
          changes.2.output,
        )
        by (inr same) = (start, same, (reads_file, inl (first, inr (reads, refl)), refl), refl)

    refused_writing : (e : Outcome) (c d : Counts) → LeavesRefused Q (Some start) new e → Refuses c d e
        → StandsIn asking e → FailsIn (refusal e) asking
        → IsLeft asking s new e
    refused_writing (DiskFault step) c d left h st f = stopped_says step h.0 left st
    refused_writing Done c d left never st f = absurd never
    refused_writing Usage c d left never st f = absurd never
    refused_writing (PrintFault step) c d left never st f = absurd never
    refused_writing (ServiceFault step service) c d left never st f = absurd never
    refused_writing Unorderable c d left never st f = absurd never
    refused_writing (Budget n) c d left never st f = absurd never
    refused_writing Memory c d left h st f = (start, left, (inr (reads, refl), refl), refl)
    refused_writing InputFault c d left h st f = (start, left, (st, inr (reads, refl), refl), refl)
    refused_writing other c d left h st f = (start, left, (f, inr (reads, refl), refl), refl)

    -- what was asked for is left with each answer
    says_written : (result : Result (Unit {0}) Outcome) (c d : Counts)
        → OnOk result (Settles P (Some start) new) → IfErr result (LeavesRefused Q (Some start) new)
        → IfErr result (Refuses c d)
        → Found (λ _. r) result asking → IsLeft asking s new (outcome_of result)
    says_written (Ok done) c d ok err cause found =
        (record s { files = ok.0; pending = settled }, ok.1, (r, found.gives, w.done s ok.0 ok.2, w.says), refl)
    says_written (Err e) c d ok err cause found = refused_writing e c d err cause found.stands found.gives

-- what is found of a state that is told
abbrev pub FindsUnit : Option State → Request → Result (Unit {0}) Outcome → (State → Asking Request) → Type 0
FindsUnit o r result asking = Finds o (λ (u : Unit {0}). r) result asking

module _ (asking : State → Asking Request) where
  -- it was refused before anything was called
  pub ready_before : (o new : Option State) (e : Outcome) (c d : Counts) (r : Request) → new ≡ o → Refuses c d e
      → FindsUnit o r (Err e) asking
      → IsReady asking o new e
  ready_before None new e c d r same h found = same
  ready_before (Some s) new e c d r same h found =
      (s, same, refused_says (asking s) s e c d h found.stands found.gives, refl)

  -- it was refused once it was settled
  pub ready_settled : (o new : Option State) (e : Outcome) (c d : Counts) (r : Request)
      → new ≡ option_map (with_pending settled) o → Refuses c d e
      → IfSome o (λ s. (asking s).Reads a_settling) → FindsUnit o r (Err e) asking → IsReady asking o new e
  ready_settled None new e c d r is h reads found = is
  ready_settled (Some s) new e c d r is h reads found =
      (with_pending settled s, is, settled_says (asking s) s reads e c d h found.stands found.gives, refl)

  untold : (P Q : Files → Files → Type 0) (new : Option State) (result : Result (Unit {0}) Outcome)
      → OnOk result (Settles P None new)
      → IfErr result (LeavesRefused Q None new) → new ≡ None
  untold P Q new (Ok done) ok err = ok
  untold P Q new (Err (DiskFault step)) ok err = err
  untold P Q new (Err other) ok err = err

  -- it was written or refused, once it was settled
  pub ready_written : (o mid new : Option State) (r : Request) (P Q : Files → Files → Type 0) → IsWriting r P Q
      → (result : Result (Unit {0}) Outcome) (c d : Counts)
      → mid ≡ option_map (with_pending settled) o
      → OnOk result (Settles P mid new) → IfErr result (LeavesRefused Q mid new) → IfErr result (Refuses c d)
      → FindsUnit o r result asking → IfSome o (λ s. (asking s).Reads a_settling)
      → IfSome o (λ s. (asking s).Gives (Ok r) ⊎ (new ≡ mid))
      → IsReady asking o new (outcome_of result)
  ready_written None mid new r P Q w result c d is ok err cause found reads may =
      untold P Q new result (subst (λ m. OnOk result (Settles P m new)) is ok)
      (subst (λ m. IfErr result (LeavesRefused Q m new)) is err)
  ready_written (Some s) mid new r P Q w result c d is ok err cause found reads may =
      says_written (asking s) s reads r P Q w new (subst (λ m. (asking s).Gives (Ok r) ⊎ (new ≡ m)) is may) result c d
      (subst (λ m. OnOk result (Settles P m new)) is ok) (subst (λ m. IfErr result (LeavesRefused Q m new)) is err)
      cause found

-- ---- what a crash leaves

-- the same file again
same_again : (name : List ℕ) (files : Files) → with_file name (get files name) files ≡ files
same_again name files =
    finmap.same_map nat_list_cmp_total (finmap.slice_cmp-IsAntisymmetric finmap.nat_cmp-IsAntisymmetric) _ _
    (λ q. with_it q (get files name) refl)
  where
    tied : (q : List ℕ) (o : Option (List ℕ)) → get files name ≡ o → (r : Ordering) → name_cmp q name ≡ r
        → cond (is_eq r) o (get files q) ≡ get files q
    tied q o is Less e = refl
    tied q o is Equal e = sym is ∙ finmap.get_tied nat_list_cmp_total files q name e
    tied q o is Greater e = refl

    with_it : (q : List ℕ) (o : Option (List ℕ)) → get files name ≡ o → get (with_file name o files) q ≡ get files q
    with_it q None is = finmap.get-remove nat_list_cmp_total files name q ∙ tied q None is (name_cmp q name) refl
    with_it q (Some bytes) is =
        finmap.get-insert nat_list_cmp_total files name bytes q ∙ tied q (Some bytes) is (name_cmp q name) refl

-- what is there may be left
pub as_is : (p : Pending) (files : Files) → Image p files files
as_is settled files = refl
as_is (dirty name) files = (get files name, sym (same_again name files))
as_is (listing before) files = inr refl

-- what is left once all is settled may be left before
pub settled_left : (s : State) (left : Left) → MayLeave (with_pending settled s) left → MayLeave s left
settled_left s left may = record {
  files = subst (Image s.pending s.files) (sym may.files) (as_is s.pending s.files);
  output = may.output;
  restarts = may.restarts;
}

module _ {H : Type 0} (moment : H → ℕ) (left_since : H → ℕ → Left → Type 0) where
  -- all is as before
  pub asking_goes_on : (asking : State → Asking Request) (o n : Option State) (old mid : H) → n ≡ o
      → ((left : Left) → left_since old (moment old) left → MayLeaveNow o left)
      → Elapses moment left_since old mid (MayLeaveNow n)
      → LeavesOnly moment left_since old mid (LeftTo asking o)
  asking_goes_on asking o n old mid same now time =
      runs.goes_on moment left_since old old mid (LeftTo asking o) (MayLeaveNow n)
      (asking_begins moment left_since asking o old now) time
      (λ left may. left_here asking o left (subst (λ m. MayLeaveNow m left) same may))

  settled_to : (asking : State → Asking Request) (o told : Option State) (left : Left)
      → told ≡ option_map (with_pending settled) o
      → MayLeaveNow told left → LeftTo asking o left
  settled_to asking None told left is may = tt
  settled_to asking (Some s) told left is may =
      left_here asking (Some s) left (settled_left s left (subst (λ m. MayLeaveNow m left) is may))

  -- all is settled
  pub asking_settles : (asking : State → Asking Request) (o told : Option State) (old mid : H)
      → told ≡ option_map (with_pending settled) o
      → ((left : Left) → left_since old (moment old) left → MayLeaveNow o left)
      → Elapses moment left_since old mid (MayLeaveNow told)
      → LeavesOnly moment left_since old mid (LeftTo asking o)
  asking_settles asking o told old mid is now time =
      runs.goes_on moment left_since old old mid (LeftTo asking o) (MayLeaveNow told)
      (asking_begins moment left_since asking o old now) time
      (λ left may. settled_to asking o told left is may)

  -- it is written, or there is nothing to write
  within : (asking : Asking Request) (s : State) (r : Request) (P Q : Files → Files → Type 0) → IsWriting r P Q
      → (old mid new : H)
      → LeavesOnly moment left_since old mid (LeftOf asking s)
      → LeavesOnly moment left_since mid new (AreLeft Q (with_pending settled s))
      → asking.Gives (Ok r) ⊎ Elapses moment left_since mid new (MayLeave (with_pending settled s))
      → LeavesOnly moment left_since old new (LeftOf asking s)
  within asking s r P Q w old mid new so_far writes (inr reads) =
      runs.goes_on moment left_since old mid new (LeftOf asking s) (MayLeave (with_pending settled s)) so_far reads
      (λ left may. left_here (λ _. asking) (Some s) left (settled_left s left may))
  within asking s r P Q w old mid new so_far writes (inl given) =
      runs.joins moment left_since old mid new (LeftOf asking s) so_far
      (runs.weaker moment left_since mid new (AreLeft Q (with_pending settled s)) (LeftOf asking s)
      (λ left h. (
        [],
        no_front asking s,
        inr (
          r,
          given,
          w.doing (printed [] s) left
              (record { files = h.files; output = h.output ∙ sym (append-nil s.output); restarts = h.restarts }),
        ),
      )) writes)

  -- all is settled, and then written
  pub writes_within : (asking : State → Asking Request) (o told : Option State) (r : Request)
      (P Q : Files → Files → Type 0) → IsWriting r P Q
      → told ≡ option_map (with_pending settled) o → (old mid new : H)
      → ((left : Left) → left_since old (moment old) left → MayLeaveNow o left)
      → Elapses moment left_since old mid (MayLeaveNow told)
      → IfSome told (λ s. LeavesOnly moment left_since mid new (AreLeft Q s))
      → IfSome o (λ s. (asking s).Gives (Ok r) ⊎ Elapses moment left_since mid new (MayLeaveNow told))
      → moment mid ≤ moment new → LeavesOnly moment left_since old new (LeftTo asking o)
  writes_within asking None told r P Q w is old mid new now time writes reads later =
      record { later = omega (arith, time.later, later); each = λ left since. tt; before = λ t left le since. inr tt }
  writes_within asking (Some s) told r P Q w is old mid new now time writes reads later =
      within (asking s) s r P Q w old mid new (asking_settles asking (Some s) told old mid is now time)
      (subst (λ m. IfSome m (λ t. LeavesOnly moment left_since mid new (AreLeft Q t))) is writes)
      (subst (λ m. (asking s).Gives (Ok r) ⊎ Elapses moment left_since mid new (MayLeaveNow m)) is reads)

-- ---- what is answered

module _ (asking : State → Asking Request) where
  pub ready_printed : (o told after : Option State) (old mid new : Counts) (e result : Outcome)
      → IsReady asking o told e → IsPrinted e (last_line e) told after mid new result → PrintMayRise mid new
      → HasCause old mid e
      → AnswersTo asking o after old new result
  ready_printed None told after old mid new e result ready (inl whole) rises cause =
      whole.1 ∙ ap (option_map (printed (last_line e))) ready
  ready_printed None told after old mid new e result ready (inr part) rises cause =
      part.1.3 ∙ ap (option_map (printed part.1.0)) ready
  ready_printed (Some s) told after old mid new e result ready print rises cause =
      printed_leaves (asking s) s ready.0 after old mid new e (last_line e) result
      (subst (λ t. IsPrinted e (last_line e) t after mid new result) ready.1 print) rises cause ready.2 ready.3

  -- want of memory in the place of a refusal that changed nothing
  instead : (s now : State) (e : Outcome) → may_have_written e ≡ false → Says (asking s) s now e (last_line e)
      → Says (asking s) s now Memory (last_line Memory)
  instead s now Done isnt says = absurd cc
  instead s now (DiskFault step) isnt says = absurd cc
  instead s now (PrintFault step) isnt never = absurd never
  instead s now (ServiceFault step service) isnt says = absurd cc
  instead s now Memory isnt says = says
  instead s now Unorderable isnt says = (says.1, refl)
  instead s now (Budget n) isnt says = (says.1, refl)
  instead s now other isnt says = (says.1, refl)

  ready_instead : (o told : Option State) (e : Outcome) → may_have_written e ≡ false → IsReady asking o told e
      → IsReady asking o told Memory
  ready_instead None told e isnt ready = ready
  ready_instead (Some s) told e isnt ready = (ready.0, ready.1, instead s ready.0 e isnt ready.2, ready.3)

  -- the last line was printed
  pub told_answers : (o told after : Option State) (old mid new : Counts) (e result : Outcome)
      → IsReady asking o told e → IsTold (may_have_written e) e told after mid new result → PrintMayRise mid new
      → HasCause old mid e
      → AnswersTo asking o after old new result
  told_answers o told after old mid new e result ready printed rises cause = by (may_have_written e) refl printed
    where
      by : (written : Bool) → may_have_written e ≡ written → IsTold written e told after mid new result
          → AnswersTo asking o after old new result
      by true is whole = ready_printed o told after old mid new e result ready whole rises cause
      by false isnt (inl whole) = ready_printed o told after old mid new e result ready whole rises cause
      by false isnt (inr memory) =
          ready_printed o told after old mid new Memory result (ready_instead o told e isnt ready) memory rises tt

-- ---- the outcome of what was done or refused

-- a refusal with its cause comes after no acknowledgement
refused_first : (old new : Counts) (e : Outcome) → Refuses old new e → IsBeforeAnyStep e
refused_first old new (DiskFault step) h = h.0
refused_first old new Done never = absurd never
refused_first old new (ServiceFault step service) never = absurd never
refused_first old new other h = tt

pub comes_first : (old new : Counts) (result : Result (Unit {0}) Outcome) → IfErr result (Refuses old new)
    → IfErr result IsBeforeAnyStep
comes_first old new (Ok done) h = tt
comes_first old new (Err e) h = refused_first old new e h

pub outcome_cause : (old new : Counts) (result : Result (Unit {0}) Outcome) → IfErr result (Refuses old new)
    → HasCause old new (outcome_of result)
outcome_cause old new (Ok done) h = tt
outcome_cause old new (Err e) h = refused_cause old new e h

-- what follows of what is told
pub of_some : (o : Option State) (P Q : State → Type 0) → ((s : State) → P s → Q s) → IfSome o P → IfSome o Q
of_some None P Q f h = tt
of_some (Some s) P Q f h = f s h
