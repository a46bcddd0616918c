-- From what a command that changes nothing has found to what it does.
use Rattle.std.proofs.Common.{◌≡◌, ◌≤◌, inl, inr, ℕ, Global, List, ◌++◌, Vec, Result, Ok, Err, Option, Some, None, IfSome, arith, subst, sym, ◌∙◌}
use Rattle.host_core.specs.Counts.{Counts, NoneFell, PrintMayRise}
use Rattle.host_core.specs.Crashes.{Elapses, Left, MayLeaveNow}
use Rattle.host_core.specs.State.{State}
use Rattle.host_core.specs.declared.host_calls.Host.{Ghosts}
use Rattle.gcu_output.specs.Lines.{last_line}
use Rattle.gcu_output.specs.Printing.{IsSaid, LeftInText}
use Rattle.gcu_output.specs.declared.outcomes.Outcome.{Outcome}
use Rattle.gcu_output.specs.declared.outcomes.Outcome.TheVariants.{Done, Memory, PrintFault, Usage}
use Rattle.gcu_inputs.specs.Asking.{Asking}
use Rattle.gcu_inputs.specs.Preparing.{Finds, Refuses}
use Rattle.gcu_inputs.specs.Reads.{OnlyReads}
use Rattle.gcu_requests.specs.Request.{Request}
use Rattle.command_answers.specs.Answers.{HasCause, IsDoneOutput, LeavesDone, Says}
use Rattle.command_answers.specs.Frames.{Does, FindsText, TellsFound}
use Rattle.command_answers.specs.PlanCommands.{RefusesOrEnds}
use Rattle.command_answers.proofs.Answering.{memory_says, refused_says, said_to}
use Rattle.command_answers.proofs.Causes.{done_cause, print_fell, reads_fell, unsolved_cause}
use Rattle.command_answers.proofs.Completing.{completes}
use Rattle.command_answers.proofs.Elapsing.{asking_leaves_behind}
use Rattle.command_answers.proofs.PlanSaying.{end_cause, refuses_ends}

-- ---- what is found

module _ {H : Type 0} (w : Ghosts H) (asking : State → Asking Request) (old new : H)
    (reads : OnlyReads w.told w.counts w.moment w.left_since w.goes_on old new) where
  -- a text that is right is found
  pub text_said : (text : Vec ℕ Global)
      → IfSome (w.told old) (λ s. Says (asking s) s s Done (text.items ++ last_line Done))
      → FindsText w asking old new (Ok text)
  text_said text says = record { says = says; reads = reads; cause = tt }

  -- a refusal, or the end of a search
  pub text_ended : (e : Outcome) → IfSome (w.told old) (λ s. Says (asking s) s s e (last_line e))
      → RefusesOrEnds (w.counts old) (w.counts new) e → FindsText w asking old new (Err e)
  text_ended e says cause = record { says = says; reads = reads; cause = cause }

  -- memory is wanting for the text
  pub text_wanting : FindsText w asking old new (Err Memory)
  text_wanting = text_ended Memory (memory_says asking (w.told old)) tt

  module _ {X : Type 0} (view : X → Request) where
    -- what is found is what is asked for, and its text is printed
    pub text_found : (x : X) (text : Vec ℕ Global) → Finds (w.told old) view (Ok x) asking
        → ((s : State) → LeavesDone (view x) s s) → IsDoneOutput (view x) (text.items ++ last_line Done)
        → FindsText w asking old new (Ok text)
    text_found x text h leaves done = text_said text (by (w.told old) h)
      where
        by : (o : Option State) → Finds o view (Ok x) asking
            → IfSome o (λ s. Says (asking s) s s Done (text.items ++ last_line Done))
        by None h = tt
        by (Some s) h = (view x, h.gives, leaves s, done)

    -- what is refused is refused of the question
    pub text_refused : (e : Outcome) → Finds {X = X} (w.told old) view (Err e) asking
        → Refuses (w.counts old) (w.counts new) e
        → FindsText w asking old new (Err e)
    text_refused e h refuses = text_ended e (by (w.told old) h) (refuses_ends (w.counts old) (w.counts new) e refuses)
      where
        by : (o : Option State) → Finds {X = X} o view (Err e) asking
            → IfSome o (λ s. Says (asking s) s s e (last_line e))
        by None h = tt
        by (Some s) h = refused_says (asking s) s e (w.counts old) (w.counts new) refuses h.stands h.gives

-- ---- what is done with it

-- only words that are no command are told so
not_usage : (r : Outcome) (text : List ℕ) (before after : Option State) (old new : Counts) (result : Outcome)
    → (r ≡ Usage → ⊥) → IsSaid r text before after old new result → result ≡ Usage → ⊥
not_usage r text before after old new result never (inl (inl whole)) is = never (sym whole.0 ∙ is)
not_usage r text before after old new result never (inl (inr part)) is =
    let gone : PrintFault 0 ≡ Usage = sym part.0 ∙ is in absurd cc
not_usage r text before after old new result never (inr (inl whole)) is =
    let gone : Memory ≡ Usage = sym whole.0 ∙ is in absurd cc
not_usage r text before after old new result never (inr (inr part)) is =
    let gone : PrintFault 0 ≡ Usage = sym part.0 ∙ is in absurd cc

none_fell : (a b c : Counts) → NoneFell a b → NoneFell b c → NoneFell a c
none_fell a b c first second = record {
  input = omega (arith, first.input, second.input);
  disk = omega (arith, first.disk, second.disk);
  print = omega (arith, first.print, second.print);
  service = omega (arith, first.service, second.service);
}

module _ {H : Type 0} (w : Ghosts H) (asking : State → Asking Request) (before mid new : H) (result : Outcome)
    (only : (left : Left) → w.left_since before (w.moment before) left → MayLeaveNow (w.told before) left)
    (continues : w.goes_on before mid → w.goes_on mid new → w.goes_on before new)
    (rises : PrintMayRise (w.counts mid) (w.counts new)) (goes : w.goes_on mid new) where
  answered : (r : Outcome) (text : List ℕ) → IfSome (w.told before) (λ s. Says (asking s) s s r text)
      → OnlyReads w.told w.counts w.moment w.left_since w.goes_on before mid
      → HasCause (w.counts before) (w.counts mid) r → HasCause (w.counts before) (w.counts new) result → (r ≡ Usage → ⊥)
      → IsSaid r text (w.told mid) (w.told new) (w.counts mid) (w.counts new) result
      → Elapses w.moment w.left_since mid new (LeftInText text (w.told mid)) → Does w asking before new result
  answered r text says reads first cause never said time =
      let here = subst (λ o. IsSaid r text o (w.told new) (w.counts mid) (w.counts new) result) reads.state said in
      let answers = said_to asking (w.told before) (w.told new) (w.counts before) (w.counts mid) (w.counts new) r text
      result here rises first says in
      record {
        answers = answers;
        cause = cause;
        counts =
            none_fell (w.counts before) (w.counts mid) (w.counts new) (reads_fell reads.faults)
            (print_fell (w.counts mid) (w.counts new) rises);
        crash =
            asking_leaves_behind w.moment w.left_since asking before mid new (w.told before) (w.told mid) r text
            reads.state says only reads.time time;
        goes = continues reads.goes goes;
        form = not_usage r text (w.told mid) (w.told new) (w.counts mid) (w.counts new) result never said;
        complete = completes asking (w.told before) (w.told new) (w.counts before) (w.counts new) result cause answers;
      }

  -- a text is printed
  text_answered : (text : Vec ℕ Global) → FindsText w asking before mid (Ok text)
      → IsSaid Done (text.items ++ last_line Done) (w.told mid) (w.told new) (w.counts mid) (w.counts new) result
      → Elapses w.moment w.left_since mid new (LeftInText (text.items ++ last_line Done) (w.told mid))
      → Does w asking before new result
  text_answered text found said time =
      answered Done (text.items ++ last_line Done) found.says found.reads tt
      (done_cause (w.counts before) (w.counts mid) (w.counts new) (reads_fell found.reads.faults) rises
      (text.items ++ last_line Done) (w.told mid) (w.told new) result said)
      (λ is. absurd cc) said time

  -- a refusal is told
  refusal_answered : (e : Outcome) → FindsText w asking before mid (Err e)
      → IsSaid e (last_line e) (w.told mid) (w.told new) (w.counts mid) (w.counts new) result
      → Elapses w.moment w.left_since mid new (LeftInText (last_line e) (w.told mid)) → Does w asking before new result
  refusal_answered e found said time =
      answered e (last_line e) found.says found.reads
      (end_cause (w.counts before) (w.counts mid) e found.cause)
      (unsolved_cause (w.counts before) (w.counts mid) (w.counts new) (reads_fell found.reads.faults) rises e
      (w.told mid) (w.told new) result found.cause said)
      (λ is. subst (RefusesOrEnds (w.counts before) (w.counts mid)) is found.cause) said time

-- what is found and told is what the command does
module _ {H : Type 0} (w : Ghosts H) (asking : State → Asking Request)
    (only : (h : H) (left : Left) → w.left_since h (w.moment h) left → MayLeaveNow (w.told h) left)
    (continues : (a b c : H) → w.goes_on a b → w.goes_on b c → w.goes_on a c) where
  pub query_answered : {found : Result (Vec ℕ Global) Outcome} {before mid new : H} {result : Outcome}
      → FindsText w asking before mid found → TellsFound w found mid new result → Does w asking before new result
  query_answered {found} {before} {mid} {new} {result} finds tells = by found finds tells
    where
      by : (found : Result (Vec ℕ Global) Outcome) → FindsText w asking before mid found
          → TellsFound w found mid new result → Does w asking before new result
      by (Ok text) finds tells =
          text_answered w asking before mid new result (only before) (continues before mid new) tells.counts tells.goes
          text finds tells.said tells.time
      by (Err e) finds tells =
          refusal_answered w asking before mid new result (only before) (continues before mid new) tells.counts
          tells.goes e finds tells.said tells.time
