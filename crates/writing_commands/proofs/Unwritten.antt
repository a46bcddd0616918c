-- A command that is refused has written nothing, at any moment.
use Rattle.std.proofs.Common.{◌≡◌, ◌≤◌, inl, inr, Bool, true, false, ℕ, List, sym, ap, ◌∙◌, subst, Option, Some, None, Result, Ok, Err, IfErr, IfSome, option_map}
use Rattle.host_core.specs.Counts.{Counts}
use Rattle.host_core.specs.Crashes.{Elapses, Image, Left, LeavesOnly, MayLeaveInPrint, MayLeaveNow}
use Rattle.host_core.specs.State.{State, printed, settled, with_pending}
use Rattle.host_core.proofs.Runs as runs
use Rattle.gcu_output.specs.Lines.{last_line}
use Rattle.gcu_output.specs.Printing.{IsPrinted, IsTold, LeftInText, LeftInTold, may_have_written, outcome_of}
use Rattle.gcu_output.specs.declared.outcomes.Outcome.{Outcome}
use Rattle.gcu_output.specs.declared.outcomes.Outcome.TheVariants.{Done, Memory, Usage, InputFault, DiskFault, PrintFault, ServiceFault, Unorderable, Budget}
use Rattle.gcu_inputs.specs.Asking.{Asking}
use Rattle.gcu_inputs.specs.Preparing.{Refuses}
use Rattle.gcu_requests.specs.Request.{Request}
use Rattle.command_answers.specs.Answers.{IsRefusal, IsUntouched, Says}
use Rattle.command_answers.specs.Commands.{IsReady, LeftUnwritten, UnlessDiskFault}
use Rattle.writing_commands.specs.Doing.{IsKept}
use Rattle.writing_commands.proofs.Writing.{as_is, settled_left}

-- ---- what is left while nothing is written

now_unwritten : (o n : Option State) → IsKept o n → (left : Left) → MayLeaveNow n left → LeftUnwritten o left
now_unwritten None n kept left may = tt
now_unwritten (Some s) n (inl same) left may = (subst (λ (m : Option State). MayLeaveNow m left) same may).files
now_unwritten (Some s) n (inr is) left may =
    (settled_left s left (subst (λ (m : Option State). MayLeaveNow m left) is may)).files

-- while a text is printed
text_unwritten : (o n : Option State) → IsKept o n → (text : List ℕ) (left : Left) → MayLeaveInPrint text n left
    → LeftUnwritten o left
text_unwritten None n kept text left h = tt
text_unwritten (Some s) n (inl same) text left (part, rest, e, may) =
    (subst (λ (m : Option State). MayLeaveNow (option_map (printed part) m) left) same may).files
text_unwritten (Some s) n (inr is) text left (part, rest, e, may) =
    let files : left.files ≡ s.files = (subst (λ (m : Option State). MayLeaveNow (option_map (printed part) m) left) is may).files in
    subst (Image s.pending s.files) (sym files) (as_is s.pending s.files)

-- while the last line is
pub told_unwritten : (o n : Option State) → IsKept o n → (written : Bool) (e : Outcome) (left : Left)
    → LeftInTold written e n left → LeftUnwritten o left
told_unwritten o n kept true e left h = text_unwritten o n kept (last_line e) left h
told_unwritten o n kept false e left (inl h) = text_unwritten o n kept (last_line e) left h
told_unwritten o n kept false e left (inr h) = text_unwritten o n kept (last_line Memory) left h

-- ---- a refusal

module _ (P : Type 0) (before after : Option State) (c d old new : Counts) (result : Outcome)
    (any : IsRefusal result) where
  -- the answer that was printed is a refusal
  printed_refusal : (e : Outcome) → IsPrinted e (last_line e) before after old new result → IsRefusal e
  printed_refusal e (inl whole) = subst IsRefusal whole.0 any
  printed_refusal e (inr part) = absurd (subst IsRefusal part.0 any)

  refused_by : (e : Outcome) → Refuses c d e → IsTold (may_have_written e) e before after old new result
      → UnlessDiskFault P e → P × IsRefusal e
  refused_by Done never told h = absurd never
  refused_by Usage never told h = absurd never
  refused_by (PrintFault step) never told h = absurd never
  refused_by (ServiceFault step service) never told h = absurd never
  refused_by Unorderable never told h = absurd never
  refused_by (Budget n) never told h = absurd never
  refused_by (DiskFault step) cause told h = absurd (printed_refusal (DiskFault step) told)
  refused_by other cause told h = (h, tt)

  -- it was refused before it was told
  pub refused_before : (r : Result (Unit {0}) Outcome) → IfErr r (Refuses c d)
      → IsTold (may_have_written (outcome_of r)) (outcome_of r) before after old new result
      → IfErr r (UnlessDiskFault P) → P × IsRefusal (outcome_of r)
  refused_before (Ok done) cause told h = absurd (printed_refusal Done told)
  refused_before (Err e) cause told h = refused_by e cause told h

-- a refusal leaves all as before, or settled
says_untouched : (asking : Asking Request) (s now : State) (e : Outcome) (text : List ℕ) → Says asking s now e text
    → IsRefusal e → IsUntouched asking s now
says_untouched asking s now Done text h never = absurd never
says_untouched asking s now (DiskFault step) text h never = absurd never
says_untouched asking s now (PrintFault step) text h never = absurd never
says_untouched asking s now (ServiceFault step service) text h never = absurd never
says_untouched asking s now Memory text h any = h.0
says_untouched asking s now InputFault text h any = h.1
says_untouched asking s now Unorderable text h any = h.1
says_untouched asking s now (Budget n) text h any = h.1
says_untouched asking s now other text h any = h.1

ready_kept : (asking : State → Asking Request) (o n : Option State) (e : Outcome) → IsReady asking o n e → IsRefusal e
    → IsKept o n
ready_kept asking None n e ready any = inl ready
ready_kept asking (Some s) n e (t, is, says, same) any = by (says_untouched (asking s) s t e (last_line e) says any)
  where
    by : IsUntouched (asking s) s t → IsKept (Some s) n
    by (inl same) = inl (is ∙ ap (λ (u : State). Some u) same)
    by (inr (reads, same)) = inr (is ∙ ap (λ (u : State). Some u) same)

-- ---- what holds unless the disk failed

pub unless_fault : (P : Type 0) → P → (e : Outcome) → UnlessDiskFault P e
unless_fault P h (DiskFault step) = tt
unless_fault P h other = h

unless_one : (P Q : Type 0) → (P → Q) → (e : Outcome) → UnlessDiskFault P e → UnlessDiskFault Q e
unless_one P Q gives (DiskFault step) h = tt
unless_one P Q gives other h = gives h

pub unless_weaker : {X : Type 0} (P Q : Type 0) → (P → Q) → (r : Result X Outcome) → IfErr r (UnlessDiskFault P)
    → IfErr r (UnlessDiskFault Q)
unless_weaker P Q gives (Ok x) h = tt
unless_weaker P Q gives (Err e) h = unless_one P Q gives e h

-- the disk alone may have failed
pub only_fault : {X : Type 0} (P : Type 0) (r : Result X Outcome) → IfErr r (λ e. e ≡ DiskFault 0)
    → IfErr r (UnlessDiskFault P)
only_fault P (Ok x) fault = tt
only_fault P (Err e) fault = subst (UnlessDiskFault P) (sym fault) tt

-- ---- time

module _ {H : Type 0} (moment : H → ℕ) (left_since : H → ℕ → Left → Type 0) where
  -- nothing is called yet
  pub unwritten_begins : (o : Option State) (old : H)
      → ((left : Left) → left_since old (moment old) left → MayLeaveNow o left)
      → LeavesOnly moment left_since old old (LeftUnwritten o)
  unwritten_begins o old now =
      runs.begins moment left_since old (LeftUnwritten o)
      (λ left since. now_unwritten o o (inl (λ i. o)) left (now left since))

  -- all is as before or settled, and read
  pub unwritten_reads : (o n : Option State) (old new : H) → IsKept o n
      → ((left : Left) → left_since old (moment old) left → MayLeaveNow o left)
      → Elapses moment left_since old new (MayLeaveNow n) → LeavesOnly moment left_since old new (LeftUnwritten o)
  unwritten_reads o n old new kept now time =
      runs.goes_on moment left_since old old new (LeftUnwritten o) (MayLeaveNow n) (unwritten_begins o old now) time
      (now_unwritten o n kept)

  -- the last line of a refusal is printed
  pub unwritten_tells : (asking : State → Asking Request) (o n after : Option State) (r : Result (Unit {0}) Outcome) (c d before later : Counts) (result : Outcome) (old mid new : H)
      → IsReady asking o n (outcome_of r) → IfErr r (Refuses c d)
      → IfErr r (UnlessDiskFault (LeavesOnly moment left_since old mid (LeftUnwritten o)))
      → IsTold (may_have_written (outcome_of r)) (outcome_of r) n after before later result
      → Elapses moment left_since mid new (LeftInTold (may_have_written (outcome_of r)) (outcome_of r) n)
      → IsRefusal result → LeavesOnly moment left_since old new (LeftUnwritten o)
  unwritten_tells asking o n after r c d before later result old mid new ready cause early told time any =
      let both = refused_before (LeavesOnly moment left_since old mid (LeftUnwritten o)) n after c d before later result
      any r cause told early in
      runs.goes_on moment left_since old mid new (LeftUnwritten o)
      (LeftInTold (may_have_written (outcome_of r)) (outcome_of r) n) both.0 time
      (told_unwritten o n (ready_kept asking o n (outcome_of r) ready both.1) (may_have_written (outcome_of r)) (outcome_of r))
