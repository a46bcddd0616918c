-- What is said of a script that is only told.
use Rattle.std.proofs.Common.{inr, ℕ, List, ◌++◌, refl, Option, Some, None, Ok, Err, IfSome}
use Rattle.host_core.specs.Counts.{Counts}
use Rattle.host_core.specs.State.{State}
use Rattle.move_core.specs.declared.moves.Move.{Move}
use Rattle.gcu_output.specs.Lines.{last_line}
use Rattle.gcu_output.specs.declared.outcomes.Outcome.{Outcome}
use Rattle.gcu_output.specs.declared.outcomes.Outcome.TheVariants.{Done}
use Rattle.gcu_inputs.specs.Preparing.{Finds, Found, Refuses}
use Rattle.gcu_inputs.specs.Asking.{Asking, follows}
use Rattle.gcu_words.specs.Tasks.{run_script}
use Rattle.gcu_requests.specs.ReadScripts.{operating_of}
use Rattle.gcu_requests.specs.Request as request
use Rattle.gcu_requests.specs.Request.{Request, Work, operated}
use Rattle.gcu_requests.specs.SessionsAsked.{operating_asked}
use Rattle.gcu_requests.specs.WorkAsked.{dry_run_asked, plan_asked, task_answer, work_asked}
use Rattle.gcu_requests.specs.declared.session_preparing.Operating as code
use Rattle.gcu_inputs.proofs.Finding.{first_refused, then_found}
use Rattle.command_answers.specs.Answers.{Says}
use Rattle.command_answers.specs.Works.{IsWorkOf}
use Rattle.command_answers.proofs.Answering.{refused_says}

abbrev run_of : code.Operating → Work
run_of p = operated (operating_of p)

abbrev telling : code.Operating → Request
telling p = request.plan (run_of p)

module _ (path : List ℕ) (budget : ℕ) where
  abbrev asking : State → Asking Request
  asking s = dry_run_asked (run_script path) budget s

  given_of : (s : State) (p : code.Operating) → (operating_asked path budget s).Gives (Ok (operating_of p))
      → (asking s).Gives (Ok (telling p))
  given_of s p given = inr (run_script path, refl, inr (run_of p, inr (operating_of p, given, refl), refl))

  -- what the operators are told is what is asked for
  pub text_says : (o : Option State) (p : code.Operating) (ms : List Move) (text : List ℕ)
      → Finds o operating_of (Ok p) (operating_asked path budget)
      → IsWorkOf (run_of p) ms text → IfSome o (λ s. Says (asking s) s s Done (text ++ last_line Done))
  text_says None p ms text h works = tt
  text_says (Some s) p ms text h works = (telling p, given_of s p h.gives, refl, (ms, text, works, refl))

  -- what is refused is refused of the question
  pub script_refused : (o : Option State) (e : Outcome) (old new : Counts) → Refuses old new e
      → Finds {X = code.Operating} o operating_of (Err e) (operating_asked path budget)
      → IfSome o (λ s. Says (asking s) s s e (last_line e))
  script_refused None e old new h f = tt
  script_refused (Some s) e old new h f =
      let work : Found run_of (Err e) (work_asked (run_script path) budget s) = first_refused operating_of run_of e
      (operating_asked path budget s) _ f in
      let told : Found telling (Err e) (plan_asked (run_script path) budget s) = first_refused run_of telling e
      (work_asked (run_script path) budget s) _ work in
      let named : Found {X = Unit {0}} (λ u. run_script path) (Ok tt)
      (follows (task_answer (run_script path))) = record { gives = refl; stands = tt } in
      let refused : Found telling (Err e) (asking s) = then_found {X = Unit {0}} (λ u. run_script path) telling tt
      (Err e) (follows (task_answer (run_script path))) _ named told in
      refused_says (asking s) s e old new h refused.stands refused.gives
