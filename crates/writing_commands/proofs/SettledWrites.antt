-- A command that settles what is pending before it writes: what a crash leaves that it couldn't have left before.
use Rattle.std.proofs.Common.{◌≡◌, ◌≤◌, ◌⊎◌, ⊎_elim, inl, inr, ℕ, ap, sym, ◌∙◌, subst, arith, Option, Some, None, Result, Ok, Err, IfErr, option_map}
use Rattle.host_core.specs.Crashes.{Elapses, Left, LeavesOnly, MayLeaveNow}
use Rattle.host_core.specs.State.{State, settled, with_pending}
use Rattle.host_core.proofs.Runs as runs
use Rattle.gcu_output.specs.Printing.{LeftInTold, may_have_written}
use Rattle.gcu_output.specs.declared.outcomes.Outcome.{Outcome}
use Rattle.gcu_inputs.specs.Asking.{Asking}
use Rattle.gcu_requests.specs.Request.{Request}
use Rattle.command_answers.specs.Commands.{IsReady, LeftTo, LeftUnwritten}
use Rattle.command_answers.proofs.Elapsing.{asking_prints, left_here}
use Rattle.writing_commands.specs.Doing.{IsKeptOrSettled, LeavesSettled, SettlesWriting}
use Rattle.writing_commands.proofs.Unwritten.{told_unwritten}
use Rattle.writing_commands.proofs.Writing.{asking_goes_on}

-- what is settled stays so
pub settled_again : (o told : Option State) → told ≡ option_map (with_pending settled) o
    → told ≡ option_map (with_pending settled) told
settled_again None told is = is ∙ sym (ap (λ (p : Option State). option_map (with_pending settled) p) is)
settled_again (Some s) told is = is ∙ sym (ap (λ (p : Option State). option_map (with_pending settled) p) is)

-- what follows from a refusal
pub err_gives : {X : Type 0} (P Q : Outcome → Type 0) → ((e : Outcome) → P e → Q e) → (r : Result X Outcome) → IfErr r P → IfErr r Q
err_gives P Q gives (Ok x) h = tt
err_gives P Q gives (Err e) h = gives e h

module _ {H : Type 0} (moment : H → ℕ) (left_since : H → ℕ → Left → Type 0) (asking : State → Asking Request) where
  -- from the host with nothing pending on
  pub leaves_on : (o told : Option State) (old mid new : H) → told ≡ option_map (with_pending settled) o
      → Elapses moment left_since old mid (MayLeaveNow told) → LeavesOnly moment left_since mid new (LeftTo asking told)
      → LeavesSettled moment left_since old new o (LeftTo asking)
  leaves_on o told old mid new is time run t left early since = by (run.before t left (omega (arith, early, time.later)) since)
    where
      here : LeftTo asking told left → LeftTo asking (option_map (with_pending settled) o) left
      here h = subst (λ (p : Option State). LeftTo asking p left) is h

      first : left_since old t left ⊎ MayLeaveNow told left → left_since old t left
          ⊎ LeftTo asking (option_map (with_pending settled) o) left
      first (inl before) = inl before
      first (inr may) = inr (here (left_here asking told left may))

      by : left_since mid t left ⊎ LeftTo asking told left → left_since old t left
          ⊎ LeftTo asking (option_map (with_pending settled) o) left
      by (inl before) = first (time.nothing_else t left early before)
      by (inr h) = inr (here h)

  -- where it reads alone
  pub reads_on : (told : Option State) (mid new : H)
      → ((left : Left) → left_since mid (moment mid) left → MayLeaveNow told left)
      → Elapses moment left_since mid new (MayLeaveNow told) → LeavesOnly moment left_since mid new (LeftTo asking told)
  reads_on told mid new now time = asking_goes_on moment left_since asking told told mid new (λ i. told) now time

  -- with what is ready to be told then
  pub settled_on : (o told n : Option State) (out : Outcome) (old mid new : H) → told ≡ option_map (with_pending settled) o
      → Elapses moment left_since old mid (MayLeaveNow told) → LeavesOnly moment left_since mid new (LeftTo asking told)
      → ((left : Left) → moment mid ≤ moment new → MayLeaveNow n left → left_since new (moment mid) left)
      → IsReady asking told n out → IsKeptOrSettled moment left_since old new o n asking out
  settled_on o told n out old mid new is time run here ready = inr (record {
    settles = leaves_on o told old mid new is time run;
    left = λ left may. subst (λ (p : Option State). LeftTo asking p left) is (run.each left (here left run.later may));
    ready = subst (λ (p : Option State). IsReady asking p n out) is ready;
  })

  -- and once it is told
  pub told_settles : (o n : Option State) (e : Outcome) (old mid new : H) → moment old ≤ moment mid
      → ((left : Left) → left_since mid (moment mid) left → MayLeaveNow n left)
      → ((left : Left) → moment mid ≤ moment mid → MayLeaveNow n left → left_since mid (moment mid) left)
      → IsKeptOrSettled moment left_since old mid o n asking e
      → Elapses moment left_since mid new (LeftInTold (may_have_written e) e n)
      → SettlesWriting moment left_since old new o (LeftTo asking)
  told_settles o n e old mid new later now here (inl (run, same)) time =
      inl (runs.goes_on moment left_since old mid new (LeftUnwritten o) (LeftInTold (may_have_written e) e n) run time
      (told_unwritten o n (inl same) (may_have_written e) e))
  told_settles o n e old mid new later now here (inr h) time =
      inr (λ t left early since.
      ⊎_elim (λ before. h.settles t left early before) (λ l. inr l) (run.before t left (omega (arith, early, later)) since))
    where
      run : LeavesOnly moment left_since mid new (LeftTo asking (option_map (with_pending settled) o))
      run =
          asking_prints moment left_since asking mid mid new (option_map (with_pending settled) o) n e h.ready
          (runs.begins moment left_since mid (LeftTo asking (option_map (with_pending settled) o)) (λ left since. h.left left (now left since)))
          here time
