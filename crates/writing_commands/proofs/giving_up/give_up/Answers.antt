-- A change given up, or what is refused, at each call.
use Rattle.std.proofs.Common.{◌≡◌, inl, inr, Ok, refl, ◌∙◌, sym, subst}
use Rattle.std.proofs.lemmas.Result.{err_from_is_err_and}
use Rattle.host_core.specs.Crashes.{Elapses, LeavesOnly, MayLeaveNow}
use Rattle.change_apply.specs.Intents.{IsClosed, IsClosedOrNot}
use Rattle.gcu_output.specs.Printing.{outcome_of}
use Rattle.gcu_output.specs.declared.outcomes.Outcome.TheVariants.{DiskFault}
use Rattle.gcu_inputs.specs.IntentAsked.{interrupted}
use Rattle.gcu_inputs.specs.Preparing.{Finds}
use Rattle.gcu_requests.specs.InterruptionAsked.{abandon_asked}
use Rattle.gcu_requests.specs.Request as request
use Rattle.gcu_output.proofs.Elapsing.{elapses_both}
use Rattle.command_answers.specs.Commands.{LeftUnwritten}
use Rattle.writing_commands.proofs.Abandoning.{abandon_found, abandoning, given, may_remove, none_found, settling_fault_found, settling_reads}
use Rattle.writing_commands.proofs.SettledWrites.{reads_on, settled_again, settled_on}
use Rattle.writing_commands.proofs.Unwritten.{only_fault, unless_fault, unwritten_reads}
use Rattle.writing_commands.proofs.Writing.{asking_goes_on, asking_settles, ready_before, ready_settled, ready_written, writes_within}
use Rattle.writing_commands.proofs.giving_up.give_up.Goals as goal

-- ---- where nothing is settled

pub returns-in-Err-clause-left : goal.returns-in-Err-clause-left
returns-in-Err-clause-left g c =
    ready_before abandon_asked (g.H.Host.told c.args.host.now) (g.H.Host.told c.settle.new.self) (DiskFault 0)
    (g.H.Host.counts c.args.host.now) (g.H.Host.counts c.settle.new.self) request.abandon c.in-Err.ensures.err
    (refl, c.in-Err.ensures.cause)
    (settling_fault_found (g.H.Host.told c.args.host.now) 0)

pub returns-in-Err-clause-crash : goal.returns-in-Err-clause-crash
returns-in-Err-clause-crash g c =
    asking_goes_on g.H.Host.moment g.H.Host.left_since abandon_asked (g.H.Host.told c.args.host.now)
    (g.H.Host.told c.settle.new.self) c.args.host.now c.settle.new.self c.in-Err.ensures.err
    (λ left since. g.met.H.Host.only_now c.args.host.now left since) c.settle.ensures.time

-- ---- where no change was stopped

pub returns-in_err-test_interrupted-in-Ok-clause-left : goal.returns-in_err-test_interrupted-in-Ok-clause-left
returns-in_err-test_interrupted-in-Ok-clause-left g c =
    let p = err_from_is_err_and c.from_residual.result c.from_residual.ensures.1 in
    rw (p.1, p.2)
    (ready_settled abandon_asked (g.H.Host.told c.args.host.now) (g.H.Host.told c.test_interrupted.new.host) c.in_err-test_interrupted-in-Ok.field-0.0
    (g.H.Host.counts c.settle.new.self) (g.H.Host.counts c.test_interrupted.new.host) request.abandon
    (c.test_interrupted.ensures.reads.state ∙ c.in-Ok.ensures.ok) c.in_err-test_interrupted-in-Ok.ensures.cause
    (settling_reads (g.H.Host.told c.args.host.now))
    (none_found (g.H.Host.told c.args.host.now) (g.H.Host.told c.settle.new.self) c.in_err-test_interrupted-in-Ok.field-0.0 c.in-Ok.ensures.ok c.in_err-test_interrupted-in-Ok.ensures.answer))

pub returns-in_err-test_interrupted-in-Ok-clause-crash : goal.returns-in_err-test_interrupted-in-Ok-clause-crash
returns-in_err-test_interrupted-in-Ok-clause-crash g c =
    asking_settles g.H.Host.moment g.H.Host.left_since abandon_asked (g.H.Host.told c.args.host.now)
    (g.H.Host.told c.settle.new.self) c.args.host.now c.test_interrupted.new.host c.in-Ok.ensures.ok
    (λ left since. g.met.H.Host.only_now c.args.host.now left since)
    (elapses_both g.H.Host.moment g.H.Host.left_since c.args.host.now c.settle.new.self c.test_interrupted.new.host (MayLeaveNow (g.H.Host.told c.settle.new.self)) c.settle.ensures.time c.test_interrupted.ensures.reads.time)

pub returns-in_err-test_interrupted-in-Ok-clause-early : goal.returns-in_err-test_interrupted-in-Ok-clause-early
returns-in_err-test_interrupted-in-Ok-clause-early g c =
    let p = err_from_is_err_and c.from_residual.result c.from_residual.ensures.1 in
    rw (p.1, p.2)
    (unless_fault (LeavesOnly g.H.Host.moment g.H.Host.left_since c.args.host.now c.test_interrupted.new.host (LeftUnwritten (g.H.Host.told c.args.host.now))) (unwritten_reads g.H.Host.moment g.H.Host.left_since (g.H.Host.told c.args.host.now) (g.H.Host.told c.settle.new.self) c.args.host.now c.test_interrupted.new.host (inr c.in-Ok.ensures.ok)
    (λ left since. g.met.H.Host.only_now c.args.host.now left since) (elapses_both g.H.Host.moment g.H.Host.left_since c.args.host.now c.settle.new.self c.test_interrupted.new.host (MayLeaveNow (g.H.Host.told c.settle.new.self)) c.settle.ensures.time c.test_interrupted.ensures.reads.time)) c.in_err-test_interrupted-in-Ok.field-0.0)

-- ---- where one was

pub remove_intent-requires-clause-ready : goal.remove_intent-requires-clause-ready
remove_intent-requires-clause-ready g c =
    may_remove (g.H.Host.told c.args.host.now) (g.H.Host.told c.test_interrupted.new.host)
    (c.test_interrupted.ensures.reads.state ∙ c.in-Ok.ensures.ok)
    (subst (λ o. Finds {X = Unit {0}} o (λ u. u) (Ok tt) interrupted) (sym c.test_interrupted.ensures.reads.state) c.in_ok-test_interrupted-in-Ok.ensures.answer)

pub returns-in_ok-test_interrupted-in-Ok-clause-left : goal.returns-in_ok-test_interrupted-in-Ok-clause-left
returns-in_ok-test_interrupted-in-Ok-clause-left g c =
    let is = c.test_interrupted.ensures.reads.state ∙ c.in-Ok.ensures.ok in
    let gate = subst (λ o. Finds {X = Unit {0}} o (λ u. u) (Ok tt) interrupted)
    (sym c.test_interrupted.ensures.reads.state) c.in_ok-test_interrupted-in-Ok.ensures.answer in
    ready_written abandon_asked (g.H.Host.told c.args.host.now) (g.H.Host.told c.test_interrupted.new.host)
    (g.H.Host.told c.remove_intent.new.host)
    request.abandon IsClosed IsClosedOrNot abandoning c.remove_intent.result
    (g.H.Host.counts c.test_interrupted.new.host) (g.H.Host.counts c.remove_intent.new.host) is
    c.remove_intent.ensures.ok c.remove_intent.ensures.err c.remove_intent.ensures.cause
    (abandon_found (g.H.Host.told c.args.host.now) (g.H.Host.told c.test_interrupted.new.host) c.remove_intent.result is gate c.remove_intent.ensures.fault)
    (settling_reads (g.H.Host.told c.args.host.now))
    (given (g.H.Host.told c.args.host.now) (g.H.Host.told c.test_interrupted.new.host) (g.H.Host.told c.remove_intent.new.host ≡ g.H.Host.told c.test_interrupted.new.host) is gate)

pub returns-in_ok-test_interrupted-in-Ok-clause-crash : goal.returns-in_ok-test_interrupted-in-Ok-clause-crash
returns-in_ok-test_interrupted-in-Ok-clause-crash g c =
    let is = c.test_interrupted.ensures.reads.state ∙ c.in-Ok.ensures.ok in
    let gate = subst (λ o. Finds {X = Unit {0}} o (λ u. u) (Ok tt) interrupted)
    (sym c.test_interrupted.ensures.reads.state) c.in_ok-test_interrupted-in-Ok.ensures.answer in
    let so_far = elapses_both g.H.Host.moment g.H.Host.left_since c.args.host.now c.settle.new.self
    c.test_interrupted.new.host (MayLeaveNow (g.H.Host.told c.settle.new.self)) c.settle.ensures.time
    c.test_interrupted.ensures.reads.time in
    writes_within g.H.Host.moment g.H.Host.left_since abandon_asked (g.H.Host.told c.args.host.now)
    (g.H.Host.told c.test_interrupted.new.host)
    request.abandon IsClosed IsClosedOrNot abandoning is
    c.args.host.now c.test_interrupted.new.host c.remove_intent.new.host
    (λ left since. g.met.H.Host.only_now c.args.host.now left since)
    (subst (λ o. Elapses g.H.Host.moment g.H.Host.left_since c.args.host.now c.test_interrupted.new.host (MayLeaveNow o)) (sym c.test_interrupted.ensures.reads.state) so_far)
    c.remove_intent.ensures.any_moment
    (given (g.H.Host.told c.args.host.now) (g.H.Host.told c.test_interrupted.new.host)
    (Elapses g.H.Host.moment g.H.Host.left_since c.test_interrupted.new.host c.remove_intent.new.host (MayLeaveNow (g.H.Host.told c.test_interrupted.new.host))) is gate)
    c.remove_intent.ensures.later

pub returns-in_ok-test_interrupted-in-Ok-clause-early : goal.returns-in_ok-test_interrupted-in-Ok-clause-early
returns-in_ok-test_interrupted-in-Ok-clause-early g c =
    only_fault (LeavesOnly g.H.Host.moment g.H.Host.left_since c.args.host.now c.remove_intent.new.host (LeftUnwritten (g.H.Host.told c.args.host.now))) c.remove_intent.result c.remove_intent.ensures.fault

-- ---- what is pending is settled first

pub returns-in-Err-clause-settles : goal.returns-in-Err-clause-settles
returns-in-Err-clause-settles g c = inl (
  unwritten_reads g.H.Host.moment g.H.Host.left_since (g.H.Host.told c.args.host.now) (g.H.Host.told c.settle.new.self)
      c.args.host.now c.settle.new.self (inl c.in-Err.ensures.err)
      (λ left since. g.met.H.Host.only_now c.args.host.now left since) c.settle.ensures.time,
  c.in-Err.ensures.err,
)

pub returns-in_err-test_interrupted-in-Ok-clause-settles : goal.returns-in_err-test_interrupted-in-Ok-clause-settles
returns-in_err-test_interrupted-in-Ok-clause-settles g c =
    let twice = settled_again (g.H.Host.told c.args.host.now) (g.H.Host.told c.settle.new.self) c.in-Ok.ensures.ok in
    let p = err_from_is_err_and c.from_residual.result c.from_residual.ensures.1 in
    rw (p.1, p.2)
    (settled_on g.H.Host.moment g.H.Host.left_since abandon_asked (g.H.Host.told c.args.host.now)
    (g.H.Host.told c.settle.new.self) (g.H.Host.told c.test_interrupted.new.host) c.in_err-test_interrupted-in-Ok.field-0.0
    c.args.host.now c.settle.new.self c.test_interrupted.new.host c.in-Ok.ensures.ok c.settle.ensures.time
    (reads_on g.H.Host.moment g.H.Host.left_since abandon_asked (g.H.Host.told c.settle.new.self) c.settle.new.self c.test_interrupted.new.host
    (λ left since. g.met.H.Host.only_now c.settle.new.self left since) c.test_interrupted.ensures.reads.time)
    (λ left later may. g.met.H.Host.counts_now c.test_interrupted.new.host (g.H.Host.moment c.settle.new.self) left later may)
    (ready_settled abandon_asked (g.H.Host.told c.settle.new.self) (g.H.Host.told c.test_interrupted.new.host) c.in_err-test_interrupted-in-Ok.field-0.0
    (g.H.Host.counts c.settle.new.self) (g.H.Host.counts c.test_interrupted.new.host) request.abandon
    (c.test_interrupted.ensures.reads.state ∙ twice) c.in_err-test_interrupted-in-Ok.ensures.cause
    (settling_reads (g.H.Host.told c.settle.new.self))
    (none_found (g.H.Host.told c.settle.new.self) (g.H.Host.told c.settle.new.self) c.in_err-test_interrupted-in-Ok.field-0.0 twice c.in_err-test_interrupted-in-Ok.ensures.answer)))

pub returns-in_ok-test_interrupted-in-Ok-clause-settles : goal.returns-in_ok-test_interrupted-in-Ok-clause-settles
returns-in_ok-test_interrupted-in-Ok-clause-settles g c =
    let told = c.test_interrupted.ensures.reads.state ∙ c.in-Ok.ensures.ok in
    let is = settled_again (g.H.Host.told c.args.host.now) (g.H.Host.told c.test_interrupted.new.host) told in
    let gate = subst (λ o. Finds {X = Unit {0}} o (λ u. u) (Ok tt) interrupted)
    (sym c.test_interrupted.ensures.reads.state) c.in_ok-test_interrupted-in-Ok.ensures.answer in
    settled_on g.H.Host.moment g.H.Host.left_since abandon_asked (g.H.Host.told c.args.host.now)
    (g.H.Host.told c.test_interrupted.new.host) (g.H.Host.told c.remove_intent.new.host) (outcome_of c.remove_intent.result)
    c.args.host.now c.settle.new.self c.remove_intent.new.host told
    (subst (λ o. Elapses g.H.Host.moment g.H.Host.left_since c.args.host.now c.settle.new.self (MayLeaveNow o)) (sym c.test_interrupted.ensures.reads.state) c.settle.ensures.time)
    (writes_within g.H.Host.moment g.H.Host.left_since abandon_asked (g.H.Host.told c.test_interrupted.new.host)
    (g.H.Host.told c.test_interrupted.new.host)
    request.abandon IsClosed IsClosedOrNot abandoning is
    c.settle.new.self c.test_interrupted.new.host c.remove_intent.new.host
    (λ left since. subst (λ o. MayLeaveNow o left) (sym c.test_interrupted.ensures.reads.state) (g.met.H.Host.only_now c.settle.new.self left since))
    (subst (λ o. Elapses g.H.Host.moment g.H.Host.left_since c.settle.new.self c.test_interrupted.new.host (MayLeaveNow o)) (sym c.test_interrupted.ensures.reads.state) c.test_interrupted.ensures.reads.time)
    c.remove_intent.ensures.any_moment
    (given (g.H.Host.told c.test_interrupted.new.host) (g.H.Host.told c.test_interrupted.new.host)
    (Elapses g.H.Host.moment g.H.Host.left_since c.test_interrupted.new.host c.remove_intent.new.host (MayLeaveNow (g.H.Host.told c.test_interrupted.new.host))) is gate)
    c.remove_intent.ensures.later)
    (λ left later may. g.met.H.Host.counts_now c.remove_intent.new.host (g.H.Host.moment c.settle.new.self) left later may)
    (ready_written abandon_asked (g.H.Host.told c.test_interrupted.new.host) (g.H.Host.told c.test_interrupted.new.host)
    (g.H.Host.told c.remove_intent.new.host)
    request.abandon IsClosed IsClosedOrNot abandoning c.remove_intent.result
    (g.H.Host.counts c.test_interrupted.new.host) (g.H.Host.counts c.remove_intent.new.host) is
    c.remove_intent.ensures.ok c.remove_intent.ensures.err c.remove_intent.ensures.cause
    (abandon_found (g.H.Host.told c.test_interrupted.new.host) (g.H.Host.told c.test_interrupted.new.host) c.remove_intent.result is gate c.remove_intent.ensures.fault)
    (settling_reads (g.H.Host.told c.test_interrupted.new.host))
    (given (g.H.Host.told c.test_interrupted.new.host) (g.H.Host.told c.test_interrupted.new.host) (g.H.Host.told c.remove_intent.new.host ≡ g.H.Host.told c.test_interrupted.new.host) is gate))
