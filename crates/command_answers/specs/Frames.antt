-- What a command that changes nothing does with its host, in one relation between the host before and after.
use Rattle.std.specs.Prelude.{◌≡◌, ◌++◌, ℕ, List, Vec, Result, Ok, Err, IfErr, IfSome}
use Rattle.std.specs.declared.alloc.Global.{Global}
use Rattle.host_core.specs.Counts.{NoneFell, PrintMayRise}
use Rattle.host_core.specs.Crashes.{Elapses, LeavesOnly}
use Rattle.host_core.specs.State.{State}
use Rattle.host_core.specs.declared.host_calls.Host.{Ghosts}
use Rattle.gcu_output.specs.Lines.{last_line}
use Rattle.gcu_output.specs.Printing.{IsSaid, LeftInText}
use Rattle.gcu_output.specs.declared.outcomes.Outcome.{Outcome}
use Rattle.gcu_output.specs.declared.outcomes.Outcome.TheVariants.{Done, Usage}
use Rattle.gcu_inputs.specs.Asking.{Asking}
use Rattle.gcu_inputs.specs.Reads.{OnlyReads}
use Rattle.gcu_requests.specs.Request.{Request}
use Rattle.command_answers.specs.Answers.{HasCause, Says}
use Rattle.command_answers.specs.Commands.{AnswersTo, CompleteTo, LeftTo}
use Rattle.command_answers.specs.PlanCommands.{RefusesOrEnds}

-- the output with a text before the last line of Done, or with what is refused
abbrev pub SaysText : Asking Request → State → Result (Vec ℕ Global) Outcome → Type 0
SaysText asking s (Ok text) = Says asking s s Done (text.items ++ last_line Done)
SaysText asking s (Err e) = Says asking s s e (last_line e)

-- what is found for a question: such a text, or what is refused; and nothing is changed
pub record FindsText {H : Type 0} (w : Ghosts H) (asking : State → Asking Request) (old new : H)
    (found : Result (Vec ℕ Global) Outcome) : Type 0 where
  pub says : IfSome (w.told old) (λ s. SaysText (asking s) s found)
  pub reads : OnlyReads w.told w.counts w.moment w.left_since w.goes_on old new
  pub cause : IfErr found (RefusesOrEnds (w.counts old) (w.counts new))

-- what is printed of it
abbrev pub text_of_found : Result (Vec ℕ Global) Outcome → List ℕ
text_of_found (Ok text) = text.items ++ last_line Done
text_of_found (Err e) = last_line e

-- what is answered where that is printed
abbrev pub answer_of_found : Result (Vec ℕ Global) Outcome → Outcome
answer_of_found (Ok text) = Done
answer_of_found (Err e) = e

-- that is printed, or a fault of printing or want of memory comes in its place
pub record TellsFound {H : Type 0} (w : Ghosts H) (found : Result (Vec ℕ Global) Outcome)
    (old new : H) (result : Outcome) : Type 0 where
  pub said : IsSaid (answer_of_found found) (text_of_found found)
      (w.told old) (w.told new) (w.counts old) (w.counts new) result
  pub counts : PrintMayRise (w.counts old) (w.counts new)
  pub time : Elapses w.moment w.left_since old new (LeftInText (text_of_found found) (w.told old))
  pub goes : w.goes_on old new

-- a whole command that asks this: its answer, the cause of it, and what a crash leaves meanwhile
pub record Does {H : Type 0} (w : Ghosts H) (asking : State → Asking Request) (old new : H)
    (result : Outcome) : Type 0 where
  pub answers : AnswersTo asking (w.told old) (w.told new) (w.counts old) (w.counts new) result
  pub cause : HasCause (w.counts old) (w.counts new) result
  pub counts : NoneFell (w.counts old) (w.counts new)
  pub crash : LeavesOnly w.moment w.left_since old new (LeftTo asking (w.told old))
  pub goes : w.goes_on old new
  pub form : result ≡ Usage → ⊥
  pub complete : CompleteTo asking (w.told old) (w.counts old) (w.counts new) result
