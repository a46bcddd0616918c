-- From what was printed to what a command answers.
use Rattle.std.proofs.Common.{◌≡◌, ◌≤◌, inl, inr, ℕ, List, ◌++◌, refl, sym, ap, subst, arith, Option, Some, None, Ok, Err, IfSome}
use Rattle.host_core.specs.Counts.{Counts, NoneFell, NoneRose, Rose, PrintMayRise}
use Rattle.host_core.specs.State.{State}
use Rattle.conf_doc.specs.Configuration.{tree}
use Rattle.conf_doc.specs.Document.{Document}
use Rattle.conf_doc.specs.Trees.{document}
use Rattle.conf_doc.specs.declared.configuration.Config.{Config}
use Rattle.conf_doc.specs.declared.trees.Tree.{Tree}
use Rattle.gcu_output.specs.Lines.{last_line}
use Rattle.gcu_output.specs.Printing.{IsPrinted, IsSaid, text_in_lines}
use Rattle.gcu_output.specs.declared.outcomes.Outcome.{Outcome}
use Rattle.gcu_output.specs.declared.outcomes.Outcome.TheVariants.{Done, Memory, Usage, InputFault, DiskFault, PrintFault, ServiceFault, Unorderable, Budget}
use Rattle.gcu_inputs.specs.Asking.{Asking}
use Rattle.gcu_words.specs.Form.{Form, form, preview}
use Rattle.gcu_inputs.specs.Preparing.{FailsIn, Finds, Refuses, StandsIn, refusal}
use Rattle.gcu_requests.specs.Asked.{asked, form_asked, preview_asked, target_asked}
use Rattle.gcu_requests.specs.Request as request
use Rattle.gcu_requests.specs.Request.{Request}
use Rattle.gcu_requests.specs.Trees.{preview_document}
use Rattle.command_answers.specs.Answers.{Answers, Complete, HasCause, Leaves, Prints, Says}
use Rattle.command_answers.specs.Commands.{AnswersTo}
use Rattle.gcu_inputs.proofs.Finding.{fails_first}
use Rattle.gcu_requests.proofs.TreeFinding.{fails_before, tree_given}

-- a refusal's last line is all that it says
pub refused_says : (asking : Asking Request) (s : State) (e : Outcome) (old new : Counts)
    → Refuses old new e → StandsIn asking e → FailsIn (refusal e) asking → Says asking s s e (last_line e)
refused_says asking s Done old new never st f = absurd never
refused_says asking s Memory old new h st f = (inl refl, refl)
refused_says asking s Usage old new never st f = absurd never
refused_says asking s InputFault old new h st f = (st, inl refl, refl)
refused_says asking s (DiskFault step) old new h st f = (st, inl (h.0, inl refl), refl)
refused_says asking s (PrintFault step) old new never st f = absurd never
refused_says asking s (ServiceFault step service) old new never st f = absurd never
refused_says asking s Unorderable old new never st f = absurd never
refused_says asking s (Budget n) old new never st f = absurd never
refused_says asking s other old new h st f = (f, inl refl, refl)

-- whole, it is the output of that answer
pub says_prints : (asking : Asking Request) (s now : State) (old new : Counts) (r : Outcome) (output : List ℕ)
    → Says asking s now r output
    → Prints asking s now old new r output
says_prints asking s now old new (PrintFault step) output never = absurd never
says_prints asking s now old new Done output h = h
says_prints asking s now old new Memory output h = h
says_prints asking s now old new other output h = h

-- a cause stays one while output is printed
cause_stays : (old mid new : Counts) (r : Outcome) (asking : Asking Request) (s now : State) (text : List ℕ)
    → PrintMayRise mid new → HasCause old mid r → Says asking s now r text → HasCause old new r
cause_stays old mid new InputFault asking s now text rises h says =
    subst (λ n. Rose old.input n) (sym (ap (λ c. c.input) rises.2)) h
cause_stays old mid new (DiskFault step) asking s now text rises h says =
    subst (λ n. Rose old.disk n) (sym (ap (λ c. c.disk) rises.2)) h
cause_stays old mid new (ServiceFault step service) asking s now text rises h says =
    subst (λ n. Rose old.service n) (sym (ap (λ c. c.service) rises.2)) h
cause_stays old mid new (PrintFault step) asking s now text rises h never = absurd never
cause_stays old mid new Done asking s now text rises h says = tt
cause_stays old mid new other asking s now text rises h says = tt

-- what one answer leaves
pub printed_leaves : (asking : Asking Request) (s now : State) (after : Option State) (old mid new : Counts)
    (r : Outcome) (text : List ℕ) (result : Outcome)
    → IsPrinted r text (Some now) after mid new result → PrintMayRise mid new → HasCause old mid r
    → Says asking s now r text → now.output ≡ s.output
    → Leaves asking s after old new result
printed_leaves asking s now after old mid new r text result (inl whole) rises cause says same = (
  now,
  text,
  whole.1,
  subst (λ x. Prints asking s now old new x text) (sym whole.0)
      (says_prints asking s now old new r text says),
)
printed_leaves asking s now after old mid new r text result (inr part) rises cause says same = (
  now,
  part.1.0,
  part.1.3,
  subst (λ x. Prints asking s now old new x part.1.0) (sym part.0)
      (inl (
        inl (inl (refl, same)),
        (
          r,
          part.1.1,
          cause_stays old mid new r asking s now text rises cause says,
          subst (λ t. Says asking s now r t) part.1.2 says,
        ),
      )),
)

-- a question whose command changes nothing but the output
module _ (asking : State → Asking Request) where
  printed_to : (before after : Option State) (old mid new : Counts) (r : Outcome) (text : List ℕ) (result : Outcome)
      → IsPrinted r text before after mid new result → PrintMayRise mid new → HasCause old mid r
      → IfSome before (λ s. Says (asking s) s s r text)
      → AnswersTo asking before after old new result
  printed_to None after old mid new r text result (inl whole) rises cause says = whole.1
  printed_to None after old mid new r text result (inr part) rises cause says = part.1.3
  printed_to (Some s) after old mid new r text result printed rises cause says =
      printed_leaves (asking s) s s after old mid new r text result printed rises cause says refl

  -- want of memory is told of any question
  pub memory_says : (o : Option State) → IfSome o (λ s. Says (asking s) s s Memory (last_line Memory))
  memory_says None = tt
  memory_says (Some s) = (inl refl, refl)

  -- the answer, or want of memory in its place
  pub said_to : (before after : Option State) (old mid new : Counts) (r : Outcome) (text : List ℕ) (result : Outcome)
      → IsSaid r text before after mid new result → PrintMayRise mid new → HasCause old mid r
      → IfSome before (λ s. Says (asking s) s s r text)
      → AnswersTo asking before after old new result
  said_to before after old mid new r text result (inl said) rises cause says =
      printed_to before after old mid new r text result said rises cause says
  said_to before after old mid new r text result (inr said) rises cause says =
      printed_to before after old mid new Memory (last_line Memory) result said rises tt (memory_says before)

-- an answer to the command that the words are is one to the words
pub answers_by : (words : List (List ℕ)) (f : Option Form) (before after : Option State) (old new : Counts)
    (result : Outcome) → f ≡ form words
    → AnswersTo (λ s. form_asked f s) before after old new result → Answers words before after old new result
answers_by words f None after old new result is h = h
answers_by words f (Some s) after old new result is h = subst (λ g. Leaves (form_asked g s) s after old new result) is h

-- the answer, or want of memory in its place
pub said_answers : (words : List (List ℕ)) (before after : Option State) (old mid new : Counts) (r : Outcome)
    (text : List ℕ) (result : Outcome)
    → IsSaid r text before after mid new result → PrintMayRise mid new → HasCause old mid r
    → IfSome before (λ s. Says (asked words s) s s r text)
    → Answers words before after old new result
said_answers words before after old mid new r text result said rises cause says =
    answers_by words (form words) before after old new result refl
    (said_to (asked words) before after old mid new r text result said rises cause says)

-- words that are no command are told so
pub no_form_says : (words : List (List ℕ)) (o : Option State) → form words ≡ None
    → IfSome o (λ s. Says (asked words s) s s Usage (last_line Usage))
no_form_says words None is = tt
no_form_says words (Some s) is = (rw is refl, inl refl, refl)

-- the document that was found is that of the configuration that a preview is of
preview_given : (path : List ℕ) (s : State) (d : Document) → (preview_document path s).Gives (Ok d)
    → (c : Config) × (preview_asked path s).Gives (Ok (request.preview c)) × (tree c ≡ d)
preview_given path s d h =
    let given = tree_given (target_asked path s) d h in (given.0, inr (given.0, given.1, refl), given.2)

-- what a preview gives is what its words ask for
pub preview_says : (words : List (List ℕ)) (path : List ℕ) (o : Option State) (t : Tree)
    → form words ≡ Some (preview path)
    → Finds o document (Ok t) (preview_document path)
    → IfSome o (λ s. Says (asked words s) s s Done (text_in_lines (document t) ++ last_line Done))
preview_says words path None t is h = tt
preview_says words path (Some s) t is h =
    let given = preview_given path s (document t) h.gives in
    (request.preview given.0, rw is given.1, refl, ap (λ e. text_in_lines e ++ last_line Done) (sym given.2))

stands_before : (path : List ℕ) (s : State) (e : Outcome) → StandsIn (preview_document path s) e
    → StandsIn (preview_asked path s) e
stands_before path s InputFault h = inl h
stands_before path s (DiskFault step) h = inl h
stands_before path s other h = tt

-- what is refused of the configuration that a preview is of is refused of the preview
preview_fails : (path : List ℕ) (s : State) (o : Option Outcome) → FailsIn o (preview_document path s)
    → FailsIn o (preview_asked path s)
preview_fails path s o h = fails_first (target_asked path s) _ o (fails_before tree o (target_asked path s) h)

-- what a preview refuses is what its words are refused
pub preview_refuses : (words : List (List ℕ)) (path : List ℕ) (o : Option State) (e : Outcome) (old new : Counts)
    → form words ≡ Some (preview path)
    → Refuses old new e → Finds {X = Tree} o document (Err e) (preview_document path)
    → IfSome o (λ s. Says (asked words s) s s e (last_line e))
preview_refuses words path None e old new is h f = tt
preview_refuses words path (Some s) e old new is h f =
    refused_says (asked words s) s e old new h (rw is (stands_before path s e f.stands))
    (rw is (preview_fails path s (refusal e) f.gives))

-- a refusal has its cause
pub refused_cause : (old new : Counts) (e : Outcome) → Refuses old new e → HasCause old new e
refused_cause old new Done never = absurd never
refused_cause old new Usage never = absurd never
refused_cause old new (PrintFault step) never = absurd never
refused_cause old new (ServiceFault step service) never = absurd never
refused_cause old new Memory h = tt
refused_cause old new InputFault h = h
refused_cause old new (DiskFault step) h = h.1
refused_cause old new other h = tt

-- ---- where nothing failed

refused_completes : (asking : Asking Request) (old mid new : Counts) (e : Outcome) → PrintMayRise mid new
    → Refuses old mid e
    → FailsIn (refusal e) asking → NoneRose old new → Complete asking e
refused_completes asking old mid new Done rises never f none = absurd never
refused_completes asking old mid new Usage rises never f none = absurd never
refused_completes asking old mid new (PrintFault step) rises never f none = absurd never
refused_completes asking old mid new (ServiceFault step service) rises never f none = absurd never
refused_completes asking old mid new Unorderable rises never f none = absurd never
refused_completes asking old mid new (Budget n) rises never f none = absurd never
refused_completes asking old mid new Memory rises h f none = inl refl
refused_completes asking old mid new InputFault rises h f none =
    absurd (none.input (subst (λ n. Rose old.input n) (sym (ap (λ c. c.input) rises.2)) h))
refused_completes asking old mid new (DiskFault step) rises h f none =
    absurd (none.disk (subst (λ n. Rose old.disk n) (sym (ap (λ c. c.disk) rises.2)) h.1))
refused_completes asking old mid new other rises h f none = inr (inl f)

-- a print fault rose since before
rose_since : (old mid new : ℕ) → old ≤ mid → Rose mid new → Rose old new
rose_since old mid new le (inl more) = inl (omega (arith, le, more))
rose_since old mid new le (inr last) = inr last

printed_completes : (asking : Asking Request) (old mid new : Counts) (e : Outcome) (text : List ℕ)
    (before after : Option State) (result : Outcome)
    → IsPrinted e text before after mid new result → NoneFell old mid → NoneRose old new → Complete asking e
    → Complete asking result
printed_completes asking old mid new e text before after result (inl whole) fell none is =
    subst (Complete asking) (sym whole.0) is
printed_completes asking old mid new e text before after result (inr part) fell none is =
    absurd (none.print (rose_since old.print mid.print new.print fell.print part.2))

-- what is said of a refusal, of a host that tells its state
pub said_completes : (words : List (List ℕ)) (path : List ℕ) (o after told : Option State) (old mid new : Counts)
    (e result : Outcome) → form words ≡ Some (preview path)
    → IsSaid e (last_line e) told after mid new result → PrintMayRise mid new → NoneFell old mid → Refuses old mid e
    → Finds {X = Tree} o document (Err e) (preview_document path)
    → IfSome o (λ s. NoneRose old new → Complete (asked words s) result)
said_completes words path None after told old mid new e result is said rises fell h f = tt
said_completes words path (Some s) after told old mid new e result is said rises fell h f = λ none. by none said
  where
    refused : FailsIn (refusal e) (asked words s)
    refused = rw is (preview_fails path s (refusal e) f.gives)

    by : NoneRose old new → IsSaid e (last_line e) told after mid new result → Complete (asked words s) result
    by none (inl first) =
        printed_completes (asked words s) old mid new e (last_line e) told after result first fell none
        (refused_completes (asked words s) old mid new e rises h refused none)
    by none (inr second) =
        printed_completes (asked words s) old mid new Memory (last_line Memory) told after result second fell none
        (inl refl)

-- what is said of a preview that is done
pub done_completes : (words : List (List ℕ)) (path text : List ℕ) (o after told : Option State) (old mid new : Counts)
    (t : Tree) (result : Outcome) → form words ≡ Some (preview path)
    → IsSaid Done text told after mid new result → NoneFell old mid → Finds o document (Ok t) (preview_document path)
    → IfSome o (λ s. NoneRose old new → Complete (asked words s) result)
done_completes words path text None after told old mid new t result is said fell f = tt
done_completes words path text (Some s) after told old mid new t result is said fell f = λ none. by none said
  where
    finished : Complete (asked words s) Done
    finished =
        let given = preview_given path s (document t) f.gives in
        inr (inr (request.preview given.0, rw is given.1, refl))

    by : NoneRose old new → IsSaid Done text told after mid new result → Complete (asked words s) result
    by none (inl first) =
        printed_completes (asked words s) old mid new Done text told after result first fell none finished
    by none (inr second) =
        printed_completes (asked words s) old mid new Memory (last_line Memory) told after result second fell none
        (inl refl)
