-- Where a fault is answered a call had a reason to fail.
use Rattle.std.proofs.Common.{◌≡◌, ◌≢◌, ◌<◌, ◌^◌, ◌⊎◌, inl, inr, ℕ, ◌-◌, Bool, true, false, cond, refl, sym, ap, subst, arith}
use Rattle.std.specs.Prelude.{◌==◌}
use Rattle.std.proofs.lemmas.Bool.Decides.{nat_tests}
use Rattle.host_core.specs.Counts.{Counts, Rose, last_count}
use Rattle.host_core.specs.MemoryHost.{GoesOn, HasFault, IsPast, MemoryHost, faulty_by}
use Rattle.host_core.specs.declared.faults.Faults.{Faults}
use Rattle.gcu_output.specs.Lines.{number}
use Rattle.gcu_output.specs.declared.outcomes.Outcome.{Outcome}
use Rattle.gcu_output.specs.declared.outcomes.Outcome.TheVariants.{DiskFault, InputFault, PrintFault, ServiceFault}
use Rattle.command_answers.specs.Answers.{HasCause}
use Rattle.command_runs.specs.Noted.{rise}
use Rattle.command_runs.specs.Runs.{HasReason, IsFault, IsFull}
use Rattle.command_runs.specs.declared.stops.Ran.{Ran}

rises : (before after : ℕ) → IsPast before after → after < 2 ^ 64 → rise before after ≢ 0
rises before after past fits = by (after == last_count) refl past
  where
    by : (b : Bool) → (after == last_count) ≡ b → IsPast before after → cond b 1 (after - before) ≢ 0
    by true e past none = omega (arith, none)
    by false e (inl less) none = omega (arith, none, less)
    by false e (inr last) none = grind (arith, nat_tests)

module _ (faults : Faults) (host ended : MemoryHost) (ran : Ran) (goes : GoesOn (faulty_by faults host) ended)
    (calls : ran.calls ≡ ended.calls) (starved : ran.starved ≡ rise host.starved ended.starved)
    (calls_fit : ended.calls < 2 ^ 64) (starved_fits : ended.starved < 2 ^ 64) where
  fault_reason : HasFault (faulty_by faults host) ended → HasReason faults ran ended.counts
  fault_reason (inl (call, from, inl less, is)) = inl (call, subst (λ (n : ℕ). call < n) (sym calls) less, is)
  fault_reason (inl (call, from, inr last, is)) = inr (inr (inl (omega (arith, calls, last, calls_fit))))
  fault_reason (inr past) =
      inr (inl (subst (λ (n : ℕ). n ≢ 0) (sym starved) (rises host.starved ended.starved past starved_fits)))

  rose_reason : (count : Counts → ℕ) → (count ended.counts ≡ last_count → IsFull ended.counts)
      → Rose (count host.counts) (count ended.counts)
      → HasReason faults ran ended.counts
  rose_reason count full rose = by goes.counts rose
    where
      by : (ended.counts ≡ host.counts) ⊎ HasFault (faulty_by faults host) ended
          → Rose (count host.counts) (count ended.counts)
          → HasReason faults ran ended.counts
      by (inl same) (inl less) = let one : count ended.counts ≡ count host.counts = ap count same in
          absurd (omega (arith, one, less))
      by (inl same) (inr last) = inr (inr (inr (full last)))
      by (inr fault) rose = fault_reason fault

  pub reason_of : (result : Outcome) → HasCause host.counts ended.counts result → IsFault (number result)
      → HasReason faults ran ended.counts
  reason_of InputFault cause is = rose_reason (λ c. c.input) (λ last. inl last) cause
  reason_of (DiskFault step) cause is = rose_reason (λ c. c.disk) (λ last. inr (inl last)) cause
  reason_of (PrintFault step) cause is = rose_reason (λ c. c.print) (λ last. inr (inr (inl last))) cause
  reason_of (ServiceFault step service) cause is = rose_reason (λ c. c.service) (λ last. inr (inr (inr last))) cause
  reason_of other cause is = absurd (omega (arith, is.0, is.1))
