-- Where nothing failed: the answer is the one that was asked for, or memory was wanting.
use Rattle.std.proofs.Common.{◌≡◌, inl, inr, ℕ, List, refl, subst, Option, Some, None, IfSome}
use Rattle.host_core.specs.Counts.{Counts, NoneRose}
use Rattle.host_core.specs.State.{State}
use Rattle.gcu_output.specs.declared.outcomes.Outcome.{Outcome}
use Rattle.gcu_output.specs.declared.outcomes.Outcome.TheVariants.{Done, Memory, InputFault, DiskFault, PrintFault, ServiceFault, Unorderable, Budget}
use Rattle.gcu_inputs.specs.Asking.{Asking}
use Rattle.gcu_words.specs.Form.{Form, form}
use Rattle.gcu_requests.specs.Asked.{asked, form_asked}
use Rattle.gcu_requests.specs.Request as request
use Rattle.gcu_requests.specs.Request.{Request}
use Rattle.command_answers.specs.Answers.{Complete, Finishes, HasCause, Prints, Says}
use Rattle.command_answers.specs.Commands.{AnswersTo, CompleteTo}
use Rattle.command_answers.specs.Plannings.{IsUnsolved}

-- what is done is finished
finishes : (r : Request) → Finishes r Done
finishes (request.preview c) = refl
finishes (request.list_checkpoints names) = refl
finishes request.check = refl
finishes (request.migrate_checkpoints news) = refl
finishes (request.save_checkpoint name config) = refl
finishes (request.delete_checkpoint name) = refl
finishes (request.plan p) = inl refl
finishes (request.change p) = inl refl
finishes (request.demo p ports) = inl refl
finishes (request.status intent steps) = refl
finishes request.abandon = refl
finishes (request.accept_plan count) = refl
finishes (request.plan_scopes plans) = refl

-- so is a plan that isn't found
unsolved_finishes : (r : Request) (e : Outcome) → IsUnsolved r e → Finishes r e
unsolved_finishes (request.plan p) e h = inr h
unsolved_finishes (request.change p) e h = inr h
unsolved_finishes (request.demo p ports) e h = inr h
unsolved_finishes (request.preview c) e never = absurd never
unsolved_finishes (request.list_checkpoints names) e never = absurd never
unsolved_finishes request.check e never = absurd never
unsolved_finishes (request.migrate_checkpoints news) e never = absurd never
unsolved_finishes (request.save_checkpoint name config) e never = absurd never
unsolved_finishes (request.delete_checkpoint name) e never = absurd never
unsolved_finishes (request.status intent steps) e never = absurd never
unsolved_finishes request.abandon e never = absurd never
unsolved_finishes (request.accept_plan count) e never = absurd never
unsolved_finishes (request.plan_scopes plans) e never = absurd never

module _ (asking : Asking Request) (s now : State) (old new : Counts) (none : NoneRose old new) where
  says_completes : (result : Outcome) (output : List ℕ) → HasCause old new result → Says asking s now result output
      → Complete asking result
  says_completes Done output cause says = inr (inr (says.0, says.1, finishes says.0))
  says_completes Memory output cause says = inl refl
  says_completes InputFault output cause says = absurd (none.input cause)
  says_completes (DiskFault step) output cause says = absurd (none.disk cause)
  says_completes (PrintFault step) output cause says = absurd (none.print cause)
  says_completes (ServiceFault step service) output cause says = absurd (none.service cause)
  says_completes Unorderable output cause says =
      inr (inr (says.0.0, says.0.1, unsolved_finishes says.0.0 Unorderable says.0.2))
  says_completes (Budget n) output cause says =
      inr (inr (says.0.0, says.0.1, unsolved_finishes says.0.0 (Budget n) says.0.2))
  says_completes other output cause says = inr (inl says.0)

  prints_completes : (result : Outcome) (output : List ℕ) → HasCause old new result
      → Prints asking s now old new result output → Complete asking result
  prints_completes (PrintFault step) output cause prints = absurd (none.print cause)
  prints_completes Done output cause prints = says_completes Done output cause prints
  prints_completes Memory output cause prints = says_completes Memory output cause prints
  prints_completes other output cause prints = says_completes other output cause prints

-- what is answered to a question is complete
pub completes : (asking : State → Asking Request) (before after : Option State) (old new : Counts) (result : Outcome)
    → HasCause old new result
    → AnswersTo asking before after old new result → CompleteTo asking before old new result
completes asking None after old new result cause h = tt
completes asking (Some s) after old new result cause h =
    λ none. prints_completes (asking s) s h.0 old new none result h.1 cause h.3

-- the words that the command is are answered so
pub complete_by : (words : List (List ℕ)) (f : Option Form) (o : Option State) (old new : Counts) (result : Outcome)
    → f ≡ form words
    → CompleteTo (λ s. form_asked f s) o old new result
    → IfSome o (λ s. NoneRose old new → Complete (asked words s) result)
complete_by words f None old new result is h = tt
complete_by words f (Some s) old new result is h = λ none. subst (λ g. Complete (form_asked g s) result) is (h none)
