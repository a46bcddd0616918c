-- What a command with a task prints: what stands before right moves and what follows, or the last line of an
-- answer.
use Rattle.std.proofs.Common.{◌≡◌, inl, inr, ℕ, List, [], ◌++◌, append-nil, append_assoc, sym, ap, ◌∙◌, subst, Option, Some, None, Ok, Err}
use Rattle.host_core.specs.Counts.{Counts}
use Rattle.host_core.specs.State.{State, printed}
use Rattle.change_apply.specs.Acknowledgements.{acks}
use Rattle.change_apply.specs.Change.{Change, steps}
use Rattle.change_apply.specs.Ends.{IsStopped}
use Rattle.change_apply.specs.declared.ready.Restart.{Restart}
use Rattle.gcu_output.specs.Lines.{last_line}
use Rattle.gcu_output.specs.declared.outcomes.Outcome.{Outcome}
use Rattle.gcu_output.specs.declared.outcomes.Outcome.TheVariants.{Done, Memory, InputFault, DiskFault, PrintFault, ServiceFault, Unorderable, Budget, Usage as usage}
use Rattle.gcu_inputs.specs.Asking.{Asking}
use Rattle.gcu_words.specs.Tasks.{Task}
use Rattle.gcu_requests.specs.Asked.{form_asked}
use Rattle.gcu_requests.specs.Request as request
use Rattle.gcu_requests.specs.Request.{Request, Work}
use Rattle.gcu_requests.specs.WorkAsked.{change_asked, dry_run_asked}
use Rattle.command_answers.specs.Answers.{IsDoneOutput, IsUntouched, LeavesDone, LeavesStopped, Prints, Says}
use Rattle.command_answers.specs.Changing.{IsBegun, IsChangeFor, IsLastLine, begun}
use Rattle.gcu_engine.specs.Headline.{IsTaskOutput, PrintsTask}
use Rattle.writing_commands.proofs.Changes.{some_is}
use Rattle.writing_commands.proofs.IntentRemovals.{begun_output}
use Rattle.writing_commands.proofs.LastLines.{HasLastLine, last_line_of}
use Rattle.gcu_engine.proofs.Requests.{change_given, plan_given}
use Rattle.gcu_engine.proofs.RightPlans.{IsWorkAsked, right_work}

pub same_change : (v w : Work) → request.change v ≡ request.change w → v ≡ w
same_change v w e = let same : v ≡ w = cc in same

pub untouched_output : (asking : Asking Request) (s now : State) → IsUntouched asking s now → now.output ≡ s.output
untouched_output asking s now (inl same) = ap (λ (t : State). t.output) same
untouched_output asking s now (inr (reads, same)) = ap (λ (t : State). t.output) same

-- the output before the last line, and that line: of right moves, or of nothing
record IsText (task : Task) (s now : State) (text : List ℕ) : Type 0 where
  pub front : List ℕ
  pub printed_is : now.output ≡ s.output ++ front
  pub right : IsTaskOutput task s (front ++ text)

-- nothing stands before the last line
alone : (task : Task) (s now : State) (text : List ℕ) → now.output ≡ s.output → IsTaskOutput task s text
    → IsText task s now text
alone task s now text same right = record { front = []; printed_is = same ∙ sym (append-nil s.output); right = right }

last_alone : (task : Task) (s now : State) (text : List ℕ) (e : Outcome) → now.output ≡ s.output → text ≡ last_line e
    → HasLastLine e → IsText task s now text
last_alone task s now text e same is told = alone task s now text same (inl (last_line_of e text is told))

module _ (task : Task) (s now : State) (budget : ℕ) where
  abbrev printing : Asking Request
  printing = dry_run_asked task budget s

  planned_text : (w : Work) (r : Request) → IsWorkAsked task s w → request.plan w ≡ r → LeavesDone r s now
      → (text : List ℕ) → IsDoneOutput r text → IsText task s now text
  planned_text w r is same leaves text out =
      let unchanged : now ≡ s = subst (λ (q : Request). LeavesDone q s now) (sym same) leaves in
      let told = subst (λ (q : Request). IsDoneOutput q text) (sym same) out in
      alone task s now text (ap (λ (t : State). t.output) unchanged)
      (inr (right_work task s w told.0 told.1 is told.2, last_line Done, told.3))

  no_stop : (step : ℕ) (w : Work) (r : Request) → request.plan w ≡ r → LeavesStopped r step s now → ⊥
  no_stop step w r same h = subst (λ (q : Request). LeavesStopped q step s now) (sym same) h

  plan_text_is : (e : Outcome) (text : List ℕ) → Says printing s now e text → IsText task s now text
  plan_text_is Done text (r, given, leaves, out) = let g = plan_given task budget s r given in
      planned_text g.0 r g.1 g.2 leaves text out
  plan_text_is Memory text h = last_alone task s now text Memory (untouched_output printing s now h.0) h.1 tt
  plan_text_is InputFault text h = last_alone task s now text InputFault (untouched_output printing s now h.1) h.2 tt
  plan_text_is (DiskFault step) text (reads, inl (first, same), is) =
      last_alone task s now text (DiskFault step) (untouched_output printing s now same) is tt
  plan_text_is (DiskFault step) text (reads, inr (r, given, stopped), is) =
      let g = plan_given task budget s r given in absurd (no_stop step g.0 r g.2 stopped)
  plan_text_is (PrintFault step) text never = absurd never
  plan_text_is (ServiceFault step service) text (w, given, halted, is) =
      let g = plan_given task budget s (request.change w) given in
      let apart : request.plan g.0 ≡ request.change w = g.2 in absurd cc
  plan_text_is Unorderable text h = last_alone task s now text Unorderable (untouched_output printing s now h.1) h.2 tt
  plan_text_is (Budget n) text h = last_alone task s now text (Budget n) (untouched_output printing s now h.1) h.2 tt
  plan_text_is other text h = last_alone task s now text other (untouched_output printing s now h.1) h.2 tt

  abbrev doing : Asking Request
  doing = change_asked task budget s

  -- behind what stands before the moves
  behind : (w : Work) (c : Change) (told : List ℕ) → IsWorkAsked task s w → IsChangeFor w s c told → (began : State)
      → IsBegun c (begun told s) began
      → (more text : List ℕ) → now.output ≡ began.output ++ more → IsText task s now text
  behind w c told asks is began begins more text printed_is = record {
    front = told ++ more;
    printed_is = printed_is ∙ ap (λ (o : List ℕ). o ++ more) (begun_output c (begun told s) began begins)
        ∙ append_assoc s.output told more;
    right = inr (right_work task s w c.moves told asks is.work, more ++ text, append_assoc told more text);
  }

  stopped_text : (w : Work) (c : Change) (told : List ℕ) → IsWorkAsked task s w → IsChangeFor w s c told
      → (began : State) → IsBegun c (begun told s) began
      → (k : ℕ) (part : List ℕ) (started : List Restart) → IsStopped c k part started began now → (text : List ℕ)
      → IsText task s now text
  stopped_text w c told asks is began begins k part started stopped text =
      behind w c told asks is began begins (acks k ++ part) text
      (stopped.output ∙ append_assoc began.output (acks k) part)

  changed_text : (w : Work) (r : Request) → IsWorkAsked task s w → request.change w ≡ r → LeavesDone r s now
      → (text : List ℕ) → IsText task s now text
  changed_text w r asks same leaves text =
      let h = subst (λ (q : Request). LeavesDone q s now) (sym same) leaves in
      behind w h.0 h.1 asks h.2 h.3 h.4 (acks (steps h.0)) text (ap (λ (t : State). t.output) (some_is now _ h.5.1))

  halted_text : (step : ℕ) (w : Work) (r : Request) → IsWorkAsked task s w → request.change w ≡ r
      → LeavesStopped r step s now → (text : List ℕ) → IsText task s now text
  halted_text step w r asks same stopped text =
      let h = subst (λ (q : Request). LeavesStopped q step s now) (sym same) stopped in
      stopped_text w h.0 h.1 asks h.2 h.3 h.4 step [] [] h.5 text

  change_text_is : (e : Outcome) (text : List ℕ) → Says doing s now e text → IsText task s now text
  change_text_is Done text (r, given, leaves, out) = let g = change_given task budget s r given in
      changed_text g.0 r g.1 g.2 leaves text
  change_text_is Memory text h = last_alone task s now text Memory (untouched_output doing s now h.0) h.1 tt
  change_text_is InputFault text h = last_alone task s now text InputFault (untouched_output doing s now h.1) h.2 tt
  change_text_is (DiskFault step) text (reads, inl (first, same), is) =
      last_alone task s now text (DiskFault step) (untouched_output doing s now same) is tt
  change_text_is (DiskFault step) text (reads, inr (r, given, stopped), is) =
      let g = change_given task budget s r given in halted_text step g.0 r g.1 g.2 stopped text
  change_text_is (PrintFault step) text never = absurd never
  change_text_is (ServiceFault step service) text (w, given, h, is) =
      let g = change_given task budget s (request.change w) given in
      let asks = subst (IsWorkAsked task s) (same_change g.0 w g.2) g.1 in
      stopped_text w h.0 h.1 asks h.2 h.3 h.4 step [] h.5.started h.5.stopped text
  change_text_is Unorderable text h = last_alone task s now text Unorderable (untouched_output doing s now h.1) h.2 tt
  change_text_is (Budget n) text h = last_alone task s now text (Budget n) (untouched_output doing s now h.1) h.2 tt
  change_text_is other text h = last_alone task s now text other (untouched_output doing s now h.1) h.2 tt

-- what is printed of such a text
prints_text : (task : Task) (s now : State) (after : Option State) (output rest : List ℕ)
    → after ≡ Some (printed output now) → IsText task s now (output ++ rest) → PrintsTask task s after
prints_text task s now after output rest is h = (
  printed output now,
  h.front ++ output,
  rest,
  is,
  ap (λ (l : List ℕ). l ++ output) h.printed_is ∙ append_assoc s.output h.front output,
  subst (IsTaskOutput task s) (sym (append_assoc h.front output rest)) h.right,
)

whole_text : (task : Task) (s now : State) (after : Option State) (output : List ℕ) → after ≡ Some (printed output now)
    → IsText task s now output → PrintsTask task s after
whole_text task s now after output is h =
    prints_text task s now after output [] is (subst (IsText task s now) (sym (append-nil output)) h)

module _ (task : Task) (budget : ℕ) (s now : State) (after : Option State) (old new : Counts) (output : List ℕ)
    (is : after ≡ Some (printed output now)) where
  plan_cut : (step : ℕ) → Prints (dry_run_asked task budget s) s now old new (PrintFault step) output
      → PrintsTask task s after
  plan_cut step (inl (acked, (other, rest, cause, says))) =
      prints_text task s now after output rest is (plan_text_is task s now budget other (output ++ rest) says)
  plan_cut step (inr (inl (w, given, h))) =
      let g = plan_given task budget s (request.change w) given in
      let apart : request.plan g.0 ≡ request.change w = g.2 in absurd cc
  plan_cut step (inr (inr (news, given, h, none))) =
      let g = plan_given task budget s (request.migrate_checkpoints news) given in
      let apart : request.plan g.0 ≡ request.migrate_checkpoints news = g.2 in absurd cc

  -- what a task prints that is only printed
  pub plan_prints : (result : Outcome) → Prints (dry_run_asked task budget s) s now old new result output
      → PrintsTask task s after
  plan_prints (PrintFault step) h = plan_cut step h
  plan_prints other h = whole_text task s now after output is (plan_text_is task s now budget other output h)

  change_cut : (step : ℕ) → Prints (change_asked task budget s) s now old new (PrintFault step) output
      → PrintsTask task s after
  change_cut step (inl (acked, (other, rest, cause, says))) =
      prints_text task s now after output rest is (change_text_is task s now budget other (output ++ rest) says)
  change_cut step (inr (inr (news, given, h, none))) =
      let g = change_given task budget s (request.migrate_checkpoints news) given in
      let apart : request.change g.0 ≡ request.migrate_checkpoints news = g.2 in absurd cc
  change_cut step (inr (inl (w, given, inl (first, (c, told, rest, fits, text, same))))) =
      let g = change_given task budget s (request.change w) given in
      let asks = subst (IsWorkAsked task s) (same_change g.0 w g.2) g.1 in
      prints_text task s now after output rest is
      (alone task s now (output ++ rest) (ap (λ (t : State). t.output) same)
      (inr (right_work task s w c.moves told asks fits.work, [], sym text ∙ sym (append-nil told))))
  change_cut step (inr (inl (w, given, inr ((c, told, fits, began, begins, stopped), none)))) =
      let g = change_given task budget s (request.change w) given in
      let asks = subst (IsWorkAsked task s) (same_change g.0 w g.2) g.1 in
      whole_text task s now after output is (stopped_text task s now budget w c told asks fits began begins step
      stopped.part _ stopped.stopped output)

  -- what a task prints that is done
  pub change_prints : (result : Outcome) → Prints (change_asked task budget s) s now old new result output
      → PrintsTask task s after
  change_prints (PrintFault step) h = change_cut step h
  change_prints other h = whole_text task s now after output is (change_text_is task s now budget other output h)

-- ---- words that are no command

pub no_request : (s : State) (r : Request) → (form_asked None s).Gives (Ok r) → ⊥
no_request s r given = let apart : Err usage ≡ Ok r = given in absurd cc

-- what is said of them is the last line of an answer, and nothing was printed before
pub unknown_line : (s now : State) (e : Outcome) (text : List ℕ) → Says (form_asked None s) s now e text
    → IsLastLine text × (now.output ≡ s.output)
unknown_line s now Done text (r, given, leaves, out) = absurd (no_request s r given)
unknown_line s now Memory text h = (last_line_of Memory text h.1 tt, untouched_output (form_asked None s) s now h.0)
unknown_line s now InputFault text (reads, same, is) = absurd reads
unknown_line s now (DiskFault step) text (reads, stopped, is) = absurd reads
unknown_line s now (PrintFault step) text never = absurd never
unknown_line s now (ServiceFault step service) text (w, given, halted, is) =
    absurd (no_request s (request.change w) given)
unknown_line s now Unorderable text ((r, given, none), same, is) = absurd (no_request s r given)
unknown_line s now (Budget n) text ((r, given, none), same, is) = absurd (no_request s r given)
unknown_line s now other text h = (last_line_of other text h.2 tt, untouched_output (form_asked None s) s now h.1)

unknown_text : (task : Task) (s now : State) (e : Outcome) (text : List ℕ) → Says (form_asked None s) s now e text
    → IsText task s now text
unknown_text task s now e text says = let h = unknown_line s now e text says in alone task s now text h.1 (inl h.0)

unknown_cut : (task : Task) (s now : State) (after : Option State) (old new : Counts) (output : List ℕ)
    → after ≡ Some (printed output now)
    → (step : ℕ) → Prints (form_asked None s) s now old new (PrintFault step) output → PrintsTask task s after
unknown_cut task s now after old new output is step (inl (acked, (other, rest, cause, says))) =
    prints_text task s now after output rest is (unknown_text task s now other (output ++ rest) says)
unknown_cut task s now after old new output is step (inr (inl (w, given, h))) =
    absurd (no_request s (request.change w) given)
unknown_cut task s now after old new output is step (inr (inr (news, given, h, none))) =
    absurd (no_request s (request.migrate_checkpoints news) given)

pub unknown_prints : (task : Task) (s now : State) (after : Option State) (old new : Counts) (output : List ℕ)
    → after ≡ Some (printed output now)
    → (result : Outcome) → Prints (form_asked None s) s now old new result output → PrintsTask task s after
unknown_prints task s now after old new output is (PrintFault step) h =
    unknown_cut task s now after old new output is step h
unknown_prints task s now after old new output is other h =
    whole_text task s now after output is (unknown_text task s now other output h)
