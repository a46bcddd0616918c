-- What is said of a task that isn't refused by a name is said of the words that name it.
use Rattle.std.proofs.Common.{◌≡◌, ◌⊎◌, ◌∙◌, ⊎_elim, inl, inr, ℕ, List, ◌++◌, refl, sym, ap, Bool, true, false, if◌then◌else◌, Option, Some, None, Result, Ok, Err, IfSome, option_map}
use Rattle.host_core.specs.Answers.{Gives, map_ok}
use Rattle.host_core.specs.Counts.{Counts}
use Rattle.host_core.specs.Crashes.{Left, LeavesOnly}
use Rattle.host_core.specs.State.{State, settled, with_pending}
use Rattle.host_core.proofs.Runs as runs
use Rattle.checkpoints.specs.Names.{is_good_name}
use Rattle.gcu_words.specs.Targets.{Target, patched, replaced, resumed, rolled_back}
use Rattle.gcu_output.specs.Lines.{last_line}
use Rattle.gcu_output.specs.declared.outcomes.Outcome.{Outcome}
use Rattle.gcu_output.specs.declared.outcomes.Outcome.TheVariants.{Done, Memory, InputFault, DiskFault, PrintFault, ServiceFault, Unorderable, Budget, BadName}
use Rattle.gcu_inputs.specs.Asking.{Asking, Source, follows}
use Rattle.gcu_inputs.specs.Preparing.{Found, Refuses, RefusesAlways, refusal}
use Rattle.gcu_words.specs.Tasks.{Task, reach, run_script}
use Rattle.gcu_requests.specs.PlanAsked.{target_answer}
use Rattle.gcu_requests.specs.Request.{Request}
use Rattle.gcu_requests.specs.WorkAsked.{change_asked, settled_asked, task_answer}
use Rattle.command_answers.specs.Answers.{Complete, IsStopped, IsUntouched, Prints, Says}
use Rattle.command_answers.specs.Commands.{AnswersTo, CompleteTo}
use Rattle.command_answers.specs.Commands.{LeftToChange, LeftToEarly}
use Rattle.writing_commands.specs.Doing.{LeavesSettled}
use Rattle.gcu_inputs.proofs.Finding.{first_refused, found_always}
use Rattle.command_answers.proofs.Answering.{refused_says}

-- ---- names

named_by : (b : Bool) (name : List ℕ) (x : Target)
    → map_ok rolled_back (if b then Ok name else Err (BadName name)) ≡ Ok x → x ≡ rolled_back name
named_by true name x e = let same : rolled_back name ≡ x = cc in sym same
named_by false name x e = absurd cc

-- a target that isn't refused is the one that was named
target_is : (word x : Target) → target_answer word ≡ Ok x → x ≡ word
target_is (patched path) x e = let same : patched path ≡ x = cc in sym same
target_is (replaced path) x e = let same : replaced path ≡ x = cc in sym same
target_is (rolled_back name) x e = named_by (is_good_name name) name x e
target_is resumed x e = let same : resumed ≡ x = cc in sym same

-- so is a task
pub named_is : (word x : Task) → task_answer word ≡ Ok x → x ≡ word
named_is (reach word) x e = by (target_answer word) refl e
  where
    by : (r : Result Target Outcome) → target_answer word ≡ r → map_ok reach r ≡ Ok x → x ≡ reach word
    by (Ok t) is e = let same : reach t ≡ x = cc in sym same ∙ ap reach (target_is word t is)
    by (Err o) is e = absurd cc
named_is (run_script path) x e = let same : run_script path ≡ x = cc in sym same

-- ---- a name that is refused

-- it is said
pub misnamed_says : (o : Option State) (task : Task) (budget : ℕ) (e : Outcome) (old new : Counts)
    → Gives {X = Unit {0}} (λ u. task) refusal (Err e) (task_answer task)
    → RefusesAlways e → Refuses old new e → IfSome o (λ s. Says (change_asked task budget s) s s e (last_line e))
misnamed_says None task budget e old new gives always h = tt
misnamed_says (Some s) task budget e old new gives always h =
    let found : Found {X = Unit {0}} {Y = Request} (λ u. Request.check) (Err e) (change_asked task budget s) =
    first_refused {X = Unit {0}} (λ u. task) (λ (u : Unit {0}). Request.check) e (follows (task_answer task)) _
    (found_always {X = Unit {0}} (λ u. task) (Err e) (task_answer task) _ (λ q same. same) gives always) in
    refused_says (change_asked task budget s) s e old new h found.stands found.gives

-- ---- a question that asks no less

-- what the one reads and gives, so does the other
pub record Widens (a b : Asking Request) : Type 0 where
  pub reads : (s : Source) → a.Reads s → b.Reads s
  pub gives : (r : Result Request Outcome) → a.Gives r → b.Gives r

pub widened : (word : Task) (budget : ℕ) (s : State) → task_answer word ≡ Ok word
    → Widens (settled_asked word budget s) (change_asked word budget s)
widened word budget s named = record {
  reads = λ q reads. inr (word, named, reads);
  gives = λ r gives. inr (word, named, gives);
}

module _ (a b : Asking Request) (w : Widens a b) (before now : State) where
  untouched_wider : IsUntouched a before now → IsUntouched b before now
  untouched_wider (inl same) = inl same
  untouched_wider (inr (reads, same)) = inr (w.reads _ reads, same)

  stopped_wider : (step : ℕ) → IsStopped a step before now → IsStopped b step before now
  stopped_wider step (inl (first, same)) = inl (first, untouched_wider same)
  stopped_wider step (inr (r, given, stopped)) = inr (r, w.gives _ given, stopped)

  says_wider : (e : Outcome) (output : List ℕ) → Says a before now e output → Says b before now e output
  says_wider Done output (r, given, leaves, out) = (r, w.gives _ given, leaves, out)
  says_wider Memory output (same, is) = (untouched_wider same, is)
  says_wider InputFault output (reads, same, is) = (w.reads _ reads, untouched_wider same, is)
  says_wider (DiskFault step) output (reads, stopped, is) = (w.reads _ reads, stopped_wider step stopped, is)
  says_wider (PrintFault step) output never = absurd never
  says_wider (ServiceFault step service) output (p, given, halted, is) = (p, w.gives _ given, halted, is)
  says_wider Unorderable output ((r, given, none), same, is) = ((r, w.gives _ given, none), untouched_wider same, is)
  says_wider (Budget n) output ((r, given, none), same, is) = ((r, w.gives _ given, none), untouched_wider same, is)
  says_wider other output h = (w.gives _ h.0, untouched_wider h.1, h.2)

  module _ (old new : Counts) where
    prints_wider : (e : Outcome) (output : List ℕ) → Prints a before now old new e output
        → Prints b before now old new e output
    prints_wider (PrintFault step) output (inl (inl acked, (other, rest, cause, says))) =
        inl (inl acked, (other, rest, cause, says_wider other (output ++ rest) says))
    prints_wider (PrintFault step) output (inl (inr (news, given, within, lines), (other, rest, cause, says))) =
        inl (inr (news, w.gives _ given, within, lines), (other, rest, cause, says_wider other (output ++ rest) says))
    prints_wider (PrintFault step) output (inr (inl (p, given, cut))) = inr (inl (p, w.gives _ given, cut))
    prints_wider (PrintFault step) output (inr (inr (news, given, cut, none))) =
        inr (inr (news, w.gives _ given, cut, none))
    prints_wider other output says = says_wider other output says

pub answers_wider : (word : Task) (budget : ℕ) (before after : Option State) (old new : Counts) (result : Outcome)
    → task_answer word ≡ Ok word
    → AnswersTo (settled_asked word budget) before after old new result
    → AnswersTo (change_asked word budget) before after old new result
answers_wider word budget None after old new result named h = h
answers_wider word budget (Some s) after old new result named (now, output, is, prints) = (
  now,
  output,
  is,
  prints_wider (settled_asked word budget s) (change_asked word budget s)
      (widened word budget s named) s now old new result output prints,
)

-- ---- what a crash leaves

early_left_wider : (word : Task) (budget : ℕ) (o : Option State) (left : Left) → task_answer word ≡ Ok word
    → LeftToEarly (settled_asked word budget) o left → LeftToEarly (change_asked word budget) o left
early_left_wider word budget None left named h = tt
early_left_wider word budget (Some s) left named (part, inl (now, answer, rest, says, same), may) =
    let wider = says_wider (settled_asked word budget s) (change_asked word budget s) (widened word budget s named) s
    now answer (part ++ rest) says in
    (part, inl (now, answer, rest, wider, same), may)
early_left_wider word budget (Some s) left named (part, inr (w, c, text, rest, given, fits, is), may) =
    (part, inr (w, c, text, rest, (widened word budget s named).gives _ given, fits, is), may)

left_wider : (word : Task) (budget : ℕ) (o : Option State) (left : Left) → task_answer word ≡ Ok word
    → LeftToChange (settled_asked word budget) o left → LeftToChange (change_asked word budget) o left
left_wider word budget None left named h = tt
left_wider word budget (Some s) left named (inl h) = inl (early_left_wider word budget (Some s) left named h)
left_wider word budget (Some s) left named (inr (w, c, text, given, fits, left_is, points_are)) =
    inr (w, c, text, (widened word budget s named).gives _ given, fits, left_is, points_are)

pub early_wider : {H : Type 0} (moment : H → ℕ) (left_since : H → ℕ → Left → Type 0) (word : Task) (budget : ℕ)
    (o : Option State) (old new : H) → task_answer word ≡ Ok word
    → LeavesOnly moment left_since old new (LeftToEarly (settled_asked word budget) o)
    → LeavesOnly moment left_since old new (LeftToEarly (change_asked word budget) o)
early_wider moment left_since word budget o old new named run =
    runs.weaker moment left_since old new (LeftToEarly (settled_asked word budget) o)
    (LeftToEarly (change_asked word budget) o)
    (λ left h. early_left_wider word budget o left named h) run

pub leaves_wider : {H : Type 0} (moment : H → ℕ) (left_since : H → ℕ → Left → Type 0) (word : Task) (budget : ℕ)
    (o : Option State) (old new : H) → task_answer word ≡ Ok word
    → LeavesOnly moment left_since old new (LeftToChange (settled_asked word budget) o)
    → LeavesOnly moment left_since old new (LeftToChange (change_asked word budget) o)
leaves_wider moment left_since word budget o old new named run =
    runs.weaker moment left_since old new (LeftToChange (settled_asked word budget) o)
    (LeftToChange (change_asked word budget) o)
    (λ left h. left_wider word budget o left named h) run

pub settles_wider : {H : Type 0} (moment : H → ℕ) (left_since : H → ℕ → Left → Type 0) (word : Task) (budget : ℕ)
    (o : Option State) (old new : H) → task_answer word ≡ Ok word
    → LeavesOnly moment left_since old new (LeftToEarly (settled_asked word budget) o)
    ⊎ LeavesSettled moment left_since old new o (LeftToChange (settled_asked word budget))
    → LeavesOnly moment left_since old new (LeftToEarly (change_asked word budget) o)
    ⊎ LeavesSettled moment left_since old new o (LeftToChange (change_asked word budget))
settles_wider moment left_since word budget o old new named (inl run) =
    inl (early_wider moment left_since word budget o old new named run)
settles_wider moment left_since word budget o old new named (inr run) =
    inr (λ t left early since.
    ⊎_elim (λ before. inl before) (λ done. inr (left_wider word budget (option_map (with_pending settled) o) left named
    done)) (run t left early since))

-- ---- where nothing failed

complete_one : (word : Task) (budget : ℕ) (s : State) (result : Outcome) → task_answer word ≡ Ok word
    → Complete (settled_asked word budget s) result → Complete (change_asked word budget s) result
complete_one word budget s result named (inl memory) = inl memory
complete_one word budget s result named (inr (inl given)) = inr (inl ((widened word budget s named).gives _ given))
complete_one word budget s result named (inr (inr (r, given, ends))) =
    inr (inr (r, (widened word budget s named).gives _ given, ends))

pub complete_wider : (word : Task) (budget : ℕ) (o : Option State) (old new : Counts) (result : Outcome)
    → task_answer word ≡ Ok word
    → CompleteTo (settled_asked word budget) o old new result → CompleteTo (change_asked word budget) o old new result
complete_wider word budget None old new result named h = tt
complete_wider word budget (Some s) old new result named h = λ rose. complete_one word budget s result named (h rose)
