-- A checkpoint removed, or what is refused, at each call.
use Rattle.std.proofs.Common.{◌≡◌, inl, inr, ◌∙◌, true, false, None, Ok, Err, rules, refl, subst, sym}
use Rattle.std.specs.FinMap.{get}
use Rattle.std.proofs.lemmas.Result.{err_from_is_err_and}
use Rattle.host_core.specs.Crashes.{Elapses, LeavesOnly, MayLeaveNow}
use Rattle.conf_store.specs.Reads.{OnlyReads}
use Rattle.checkpoints.specs.Changes.{IsDeleted, IsDeletedOrNot}
use Rattle.checkpoints.specs.Names.{is_good_name}
use Rattle.checkpoints.specs.Points.{points}
use Rattle.gcu_output.specs.Printing.{outcome_of}
use Rattle.gcu_output.specs.declared.outcomes.Outcome.TheVariants.{BadName, DiskFault}
use Rattle.gcu_inputs.specs.IntentAsked.{uninterrupted}
use Rattle.gcu_inputs.specs.Preparing.{Finds}
use Rattle.gcu_requests.specs.Asked.{delete_asked}
use Rattle.gcu_requests.specs.Request.{delete_checkpoint}
use Rattle.gcu_output.proofs.Elapsing.{elapses_both}
use Rattle.gcu_inputs.proofs.Finding.{memory_found}
use Rattle.writing_commands.proofs.Deletions.{bad_name_found, deleting, interrupted_found, may_delete, settled_found, settling_fault_found, settling_reads}
use Rattle.command_answers.specs.Commands.{LeftUnwritten}
use Rattle.command_answers.proofs.Elapsing.{asking_begins}
use Rattle.writing_commands.proofs.SettledWrites.{reads_on, settled_again, settled_on}
use Rattle.writing_commands.proofs.Unwritten.{unless_fault, unless_weaker, unwritten_begins, unwritten_reads}
use Rattle.writing_commands.proofs.Writing.{FindsUnit, asking_goes_on, asking_settles, of_some, ready_before, ready_settled, ready_written, writes_within}
use Rattle.writing_commands.proofs.deleting.remove_checkpoint.Goals as goal

-- ---- before anything is called

pub returns-in_err-name-clause-left : goal.returns-in_err-name-clause-left
returns-in_err-name-clause-left g c =
    let p = err_from_is_err_and c.from_residual.result c.from_residual.ensures.1 in
    rw (p.1, p.2)
    (ready_before (delete_asked c.args.name.now) (g.H.Host.told c.args.host.now) (g.H.Host.told c.args.host.now) _
    (g.H.Host.counts c.args.host.now) (g.H.Host.counts c.args.host.now) (delete_checkpoint c.args.name.now) refl tt
    (memory_found (λ u. delete_checkpoint c.args.name.now) (g.H.Host.told c.args.host.now) (delete_asked c.args.name.now)))

pub returns-in_err-name-clause-crash : goal.returns-in_err-name-clause-crash
returns-in_err-name-clause-crash g c =
    asking_begins g.H.Host.moment g.H.Host.left_since (delete_asked c.args.name.now) (g.H.Host.told c.args.host.now)
    c.args.host.now (λ left since. g.met.H.Host.only_now c.args.host.now left since)

pub returns-in_err-name-clause-early : goal.returns-in_err-name-clause-early
returns-in_err-name-clause-early g c =
    let p = err_from_is_err_and c.from_residual.result c.from_residual.ensures.1 in
    rw (p.1, p.2)
    (unwritten_begins g.H.Host.moment g.H.Host.left_since (g.H.Host.told c.args.host.now) c.args.host.now (λ left since. g.met.H.Host.only_now c.args.host.now left since))

pub returns-then-not-is_good_name-clause-left : goal.returns-then-not-is_good_name-clause-left
returns-then-not-is_good_name-clause-left g c =
    let bad : is_good_name c.args.name.now ≡ false = search rules in
    ready_before (delete_asked c.args.name.now) (g.H.Host.told c.args.host.now) (g.H.Host.told c.args.host.now)
    (BadName c.in_ok-name.name)
    (g.H.Host.counts c.args.host.now) (g.H.Host.counts c.args.host.now) (delete_checkpoint c.args.name.now) refl tt
    (subst (λ n. FindsUnit (g.H.Host.told c.args.host.now) (delete_checkpoint c.args.name.now) (Err (BadName n)) (delete_asked c.args.name.now)) (sym c.in_ok-name.ensures)
    (bad_name_found (g.H.Host.told c.args.host.now) c.args.name.now bad))

pub returns-then-not-is_good_name-clause-crash : goal.returns-then-not-is_good_name-clause-crash
returns-then-not-is_good_name-clause-crash g c =
    asking_begins g.H.Host.moment g.H.Host.left_since (delete_asked c.args.name.now) (g.H.Host.told c.args.host.now)
    c.args.host.now (λ left since. g.met.H.Host.only_now c.args.host.now left since)

pub returns-then-not-is_good_name-clause-early : goal.returns-then-not-is_good_name-clause-early
returns-then-not-is_good_name-clause-early g c =
    unwritten_begins g.H.Host.moment g.H.Host.left_since (g.H.Host.told c.args.host.now) c.args.host.now
    (λ left since. g.met.H.Host.only_now c.args.host.now left since)

-- ---- where a change was stopped

pub returns-in_err-test_uninterrupted-in-Ok-clause-left : goal.returns-in_err-test_uninterrupted-in-Ok-clause-left
returns-in_err-test_uninterrupted-in-Ok-clause-left g c =
    let good : is_good_name c.args.name.now ≡ true = search rules in
    let p = err_from_is_err_and c.from_residual-in_err-test_uninterrupted-in-Ok.result
    c.from_residual-in_err-test_uninterrupted-in-Ok.ensures.1 in
    rw (p.1, p.2)
    (ready_settled (delete_asked c.args.name.now) (g.H.Host.told c.args.host.now) (g.H.Host.told c.test_uninterrupted.new.host) c.in_err-test_uninterrupted-in-Ok.field-0.0
    (g.H.Host.counts c.settle.new.self) (g.H.Host.counts c.test_uninterrupted.new.host)
    (delete_checkpoint c.args.name.now) (c.test_uninterrupted.ensures.reads.state ∙ c.in-Ok.ensures.ok)
    c.in_err-test_uninterrupted-in-Ok.ensures.cause
    (settling_reads (g.H.Host.told c.args.host.now) c.args.name.now good)
    (interrupted_found (g.H.Host.told c.args.host.now) (g.H.Host.told c.settle.new.self) c.args.name.now c.in_err-test_uninterrupted-in-Ok.field-0.0 good c.in-Ok.ensures.ok c.in_err-test_uninterrupted-in-Ok.ensures.answer))

pub returns-in_err-test_uninterrupted-in-Ok-clause-crash : goal.returns-in_err-test_uninterrupted-in-Ok-clause-crash
returns-in_err-test_uninterrupted-in-Ok-clause-crash g c =
    asking_settles g.H.Host.moment g.H.Host.left_since (delete_asked c.args.name.now) (g.H.Host.told c.args.host.now)
    (g.H.Host.told c.settle.new.self) c.args.host.now c.test_uninterrupted.new.host c.in-Ok.ensures.ok
    (λ left since. g.met.H.Host.only_now c.args.host.now left since)
    (elapses_both g.H.Host.moment g.H.Host.left_since c.args.host.now c.settle.new.self c.test_uninterrupted.new.host (MayLeaveNow (g.H.Host.told c.settle.new.self)) c.settle.ensures.time c.test_uninterrupted.ensures.reads.time)

pub returns-in_err-test_uninterrupted-in-Ok-clause-early : goal.returns-in_err-test_uninterrupted-in-Ok-clause-early
returns-in_err-test_uninterrupted-in-Ok-clause-early g c =
    let p = err_from_is_err_and c.from_residual-in_err-test_uninterrupted-in-Ok.result
    c.from_residual-in_err-test_uninterrupted-in-Ok.ensures.1 in
    rw (p.1, p.2)
    (unless_fault (LeavesOnly g.H.Host.moment g.H.Host.left_since c.args.host.now c.test_uninterrupted.new.host (LeftUnwritten (g.H.Host.told c.args.host.now))) (unwritten_reads g.H.Host.moment g.H.Host.left_since (g.H.Host.told c.args.host.now) (g.H.Host.told c.settle.new.self) c.args.host.now c.test_uninterrupted.new.host (inr c.in-Ok.ensures.ok)
    (λ left since. g.met.H.Host.only_now c.args.host.now left since) (elapses_both g.H.Host.moment g.H.Host.left_since c.args.host.now c.settle.new.self c.test_uninterrupted.new.host (MayLeaveNow (g.H.Host.told c.settle.new.self)) c.settle.ensures.time c.test_uninterrupted.ensures.reads.time)) c.in_err-test_uninterrupted-in-Ok.field-0.0)

-- ---- once it is settled

pub returns-in_ok-test_uninterrupted-in-Ok-clause-left : goal.returns-in_ok-test_uninterrupted-in-Ok-clause-left
returns-in_ok-test_uninterrupted-in-Ok-clause-left g c =
    let good : is_good_name c.args.name.now ≡ true = search rules in
    let is = c.test_uninterrupted.ensures.reads.state ∙ c.in-Ok.ensures.ok in
    let gate = subst (λ o. Finds {X = Unit {0}} o (λ u. u) (Ok tt) uninterrupted)
    (sym c.test_uninterrupted.ensures.reads.state) c.in_ok-test_uninterrupted-in-Ok.ensures.answer in
    ready_written (delete_asked c.args.name.now) (g.H.Host.told c.args.host.now)
    (g.H.Host.told c.test_uninterrupted.new.host) (g.H.Host.told c.delete_settled.new.host)
    (delete_checkpoint c.args.name.now) (IsDeleted c.args.name.now) (IsDeletedOrNot c.args.name.now)
    (deleting c.args.name.now) c.delete_settled.result
    (g.H.Host.counts c.test_uninterrupted.new.host) (g.H.Host.counts c.delete_settled.new.host) is
    c.delete_settled.ensures.ok c.delete_settled.ensures.err c.delete_settled.ensures.cause
    (settled_found (g.H.Host.told c.args.host.now) (g.H.Host.told c.test_uninterrupted.new.host) c.args.name.now c.delete_settled.result good is gate c.delete_settled.ensures.answer)
    (settling_reads (g.H.Host.told c.args.host.now) c.args.name.now good)
    (may_delete (g.H.Host.told c.args.host.now) (g.H.Host.told c.test_uninterrupted.new.host) c.args.name.now (g.H.Host.told c.delete_settled.new.host ≡ g.H.Host.told c.test_uninterrupted.new.host) good is gate
    (of_some (g.H.Host.told c.test_uninterrupted.new.host)
    (λ s. get (points s.files) c.args.name.now ≡ None → OnlyReads g.H.Host.told g.H.Host.counts g.H.Host.moment g.H.Host.left_since g.H.Host.goes_on c.test_uninterrupted.new.host c.delete_settled.new.host)
    (λ s. get (points s.files) c.args.name.now ≡ None → g.H.Host.told c.delete_settled.new.host ≡ g.H.Host.told c.test_uninterrupted.new.host)
    (λ s h absent. (h absent).state) c.delete_settled.ensures.only_reads))

pub returns-in_ok-test_uninterrupted-in-Ok-clause-crash : goal.returns-in_ok-test_uninterrupted-in-Ok-clause-crash
returns-in_ok-test_uninterrupted-in-Ok-clause-crash g c =
    let good : is_good_name c.args.name.now ≡ true = search rules in
    let is = c.test_uninterrupted.ensures.reads.state ∙ c.in-Ok.ensures.ok in
    let gate = subst (λ o. Finds {X = Unit {0}} o (λ u. u) (Ok tt) uninterrupted)
    (sym c.test_uninterrupted.ensures.reads.state) c.in_ok-test_uninterrupted-in-Ok.ensures.answer in
    let so_far = elapses_both g.H.Host.moment g.H.Host.left_since c.args.host.now c.settle.new.self
    c.test_uninterrupted.new.host (MayLeaveNow (g.H.Host.told c.settle.new.self)) c.settle.ensures.time
    c.test_uninterrupted.ensures.reads.time in
    writes_within g.H.Host.moment g.H.Host.left_since (delete_asked c.args.name.now) (g.H.Host.told c.args.host.now)
    (g.H.Host.told c.test_uninterrupted.new.host)
    (delete_checkpoint c.args.name.now) (IsDeleted c.args.name.now) (IsDeletedOrNot c.args.name.now)
    (deleting c.args.name.now) is
    c.args.host.now c.test_uninterrupted.new.host c.delete_settled.new.host
    (λ left since. g.met.H.Host.only_now c.args.host.now left since)
    (subst (λ o. Elapses g.H.Host.moment g.H.Host.left_since c.args.host.now c.test_uninterrupted.new.host (MayLeaveNow o)) (sym c.test_uninterrupted.ensures.reads.state) so_far)
    c.delete_settled.ensures.any_moment
    (may_delete (g.H.Host.told c.args.host.now) (g.H.Host.told c.test_uninterrupted.new.host) c.args.name.now
    (Elapses g.H.Host.moment g.H.Host.left_since c.test_uninterrupted.new.host c.delete_settled.new.host (MayLeaveNow (g.H.Host.told c.test_uninterrupted.new.host))) good is gate
    (of_some (g.H.Host.told c.test_uninterrupted.new.host)
    (λ s. get (points s.files) c.args.name.now ≡ None → OnlyReads g.H.Host.told g.H.Host.counts g.H.Host.moment g.H.Host.left_since g.H.Host.goes_on c.test_uninterrupted.new.host c.delete_settled.new.host)
    (λ s. get (points s.files) c.args.name.now ≡ None → Elapses g.H.Host.moment g.H.Host.left_since c.test_uninterrupted.new.host c.delete_settled.new.host (MayLeaveNow (g.H.Host.told c.test_uninterrupted.new.host)))
    (λ s h absent. (h absent).time) c.delete_settled.ensures.only_reads))
    c.delete_settled.ensures.later

pub returns-in_ok-test_uninterrupted-in-Ok-clause-early : goal.returns-in_ok-test_uninterrupted-in-Ok-clause-early
returns-in_ok-test_uninterrupted-in-Ok-clause-early g c =
    let settled_told = g.H.Host.told c.settle.new.self in
    let so_far = elapses_both g.H.Host.moment g.H.Host.left_since c.args.host.now c.settle.new.self
    c.test_uninterrupted.new.host (MayLeaveNow (g.H.Host.told c.settle.new.self)) c.settle.ensures.time
    c.test_uninterrupted.ensures.reads.time in
    unless_weaker (OnlyReads g.H.Host.told g.H.Host.counts g.H.Host.moment g.H.Host.left_since g.H.Host.goes_on c.test_uninterrupted.new.host c.delete_settled.new.host) (LeavesOnly g.H.Host.moment g.H.Host.left_since c.args.host.now c.delete_settled.new.host (LeftUnwritten (g.H.Host.told c.args.host.now)))
    (λ reads.
    unwritten_reads g.H.Host.moment g.H.Host.left_since (g.H.Host.told c.args.host.now) settled_told c.args.host.now
    c.delete_settled.new.host (inr c.in-Ok.ensures.ok) (λ left since. g.met.H.Host.only_now c.args.host.now left since)
    (elapses_both g.H.Host.moment g.H.Host.left_since c.args.host.now c.test_uninterrupted.new.host c.delete_settled.new.host (MayLeaveNow settled_told) so_far
    (subst (λ o. Elapses g.H.Host.moment g.H.Host.left_since c.test_uninterrupted.new.host c.delete_settled.new.host (MayLeaveNow o)) c.test_uninterrupted.ensures.reads.state reads.time)))
    c.delete_settled.result c.delete_settled.ensures.early

-- ---- where that fails

pub returns-in-Err-clause-left : goal.returns-in-Err-clause-left
returns-in-Err-clause-left g c =
    let good : is_good_name c.args.name.now ≡ true = search rules in
    ready_before (delete_asked c.args.name.now) (g.H.Host.told c.args.host.now) (g.H.Host.told c.settle.new.self)
    (DiskFault 0)
    (g.H.Host.counts c.args.host.now) (g.H.Host.counts c.settle.new.self) (delete_checkpoint c.args.name.now)
    c.in-Err.ensures.err (refl, c.in-Err.ensures.cause)
    (settling_fault_found (g.H.Host.told c.args.host.now) c.args.name.now 0 good)

pub returns-in-Err-clause-crash : goal.returns-in-Err-clause-crash
returns-in-Err-clause-crash g c =
    asking_goes_on g.H.Host.moment g.H.Host.left_since (delete_asked c.args.name.now) (g.H.Host.told c.args.host.now)
    (g.H.Host.told c.settle.new.self) c.args.host.now c.settle.new.self c.in-Err.ensures.err
    (λ left since. g.met.H.Host.only_now c.args.host.now left since) c.settle.ensures.time

-- ---- what is pending is settled first

pub returns-in_err-name-clause-settles : goal.returns-in_err-name-clause-settles
returns-in_err-name-clause-settles g c = inl (
  unwritten_begins g.H.Host.moment g.H.Host.left_since (g.H.Host.told c.args.host.now) c.args.host.now
      (λ left since. g.met.H.Host.only_now c.args.host.now left since),
  refl,
)

pub returns-then-not-is_good_name-clause-settles : goal.returns-then-not-is_good_name-clause-settles
returns-then-not-is_good_name-clause-settles g c = inl (
  unwritten_begins g.H.Host.moment g.H.Host.left_since (g.H.Host.told c.args.host.now) c.args.host.now
      (λ left since. g.met.H.Host.only_now c.args.host.now left since),
  refl,
)

pub returns-in-Err-clause-settles : goal.returns-in-Err-clause-settles
returns-in-Err-clause-settles g c = inl (
  unwritten_reads g.H.Host.moment g.H.Host.left_since (g.H.Host.told c.args.host.now) (g.H.Host.told c.settle.new.self)
      c.args.host.now c.settle.new.self (inl c.in-Err.ensures.err)
      (λ left since. g.met.H.Host.only_now c.args.host.now left since) c.settle.ensures.time,
  c.in-Err.ensures.err,
)

pub returns-in_err-test_uninterrupted-in-Ok-clause-settles : goal.returns-in_err-test_uninterrupted-in-Ok-clause-settles
returns-in_err-test_uninterrupted-in-Ok-clause-settles g c =
    let good : is_good_name c.args.name.now ≡ true = search rules in
    let twice = settled_again (g.H.Host.told c.args.host.now) (g.H.Host.told c.settle.new.self) c.in-Ok.ensures.ok in
    let p = err_from_is_err_and c.from_residual-in_err-test_uninterrupted-in-Ok.result
    c.from_residual-in_err-test_uninterrupted-in-Ok.ensures.1 in
    rw (p.1, p.2)
    (settled_on g.H.Host.moment g.H.Host.left_since (delete_asked c.args.name.now) (g.H.Host.told c.args.host.now)
    (g.H.Host.told c.settle.new.self) (g.H.Host.told c.test_uninterrupted.new.host) c.in_err-test_uninterrupted-in-Ok.field-0.0
    c.args.host.now c.settle.new.self c.test_uninterrupted.new.host c.in-Ok.ensures.ok c.settle.ensures.time
    (reads_on g.H.Host.moment g.H.Host.left_since (delete_asked c.args.name.now) (g.H.Host.told c.settle.new.self) c.settle.new.self c.test_uninterrupted.new.host
    (λ left since. g.met.H.Host.only_now c.settle.new.self left since) c.test_uninterrupted.ensures.reads.time)
    (λ left later may. g.met.H.Host.counts_now c.test_uninterrupted.new.host (g.H.Host.moment c.settle.new.self) left later may)
    (ready_settled (delete_asked c.args.name.now) (g.H.Host.told c.settle.new.self) (g.H.Host.told c.test_uninterrupted.new.host) c.in_err-test_uninterrupted-in-Ok.field-0.0
    (g.H.Host.counts c.settle.new.self) (g.H.Host.counts c.test_uninterrupted.new.host)
    (delete_checkpoint c.args.name.now) (c.test_uninterrupted.ensures.reads.state ∙ twice)
    c.in_err-test_uninterrupted-in-Ok.ensures.cause
    (settling_reads (g.H.Host.told c.settle.new.self) c.args.name.now good)
    (interrupted_found (g.H.Host.told c.settle.new.self) (g.H.Host.told c.settle.new.self) c.args.name.now c.in_err-test_uninterrupted-in-Ok.field-0.0 good twice c.in_err-test_uninterrupted-in-Ok.ensures.answer)))

pub returns-in_ok-test_uninterrupted-in-Ok-clause-settles : goal.returns-in_ok-test_uninterrupted-in-Ok-clause-settles
returns-in_ok-test_uninterrupted-in-Ok-clause-settles g c =
    let good : is_good_name c.args.name.now ≡ true = search rules in
    let told = c.test_uninterrupted.ensures.reads.state ∙ c.in-Ok.ensures.ok in
    let is = settled_again (g.H.Host.told c.args.host.now) (g.H.Host.told c.test_uninterrupted.new.host) told in
    let gate = subst (λ o. Finds {X = Unit {0}} o (λ u. u) (Ok tt) uninterrupted)
    (sym c.test_uninterrupted.ensures.reads.state) c.in_ok-test_uninterrupted-in-Ok.ensures.answer in
    settled_on g.H.Host.moment g.H.Host.left_since (delete_asked c.args.name.now) (g.H.Host.told c.args.host.now)
    (g.H.Host.told c.test_uninterrupted.new.host) (g.H.Host.told c.delete_settled.new.host) (outcome_of c.delete_settled.result)
    c.args.host.now c.settle.new.self c.delete_settled.new.host told
    (subst (λ o. Elapses g.H.Host.moment g.H.Host.left_since c.args.host.now c.settle.new.self (MayLeaveNow o)) (sym c.test_uninterrupted.ensures.reads.state) c.settle.ensures.time)
    (writes_within g.H.Host.moment g.H.Host.left_since (delete_asked c.args.name.now) (g.H.Host.told c.test_uninterrupted.new.host)
    (g.H.Host.told c.test_uninterrupted.new.host)
    (delete_checkpoint c.args.name.now) (IsDeleted c.args.name.now) (IsDeletedOrNot c.args.name.now)
    (deleting c.args.name.now) is
    c.settle.new.self c.test_uninterrupted.new.host c.delete_settled.new.host
    (λ left since. subst (λ o. MayLeaveNow o left) (sym c.test_uninterrupted.ensures.reads.state) (g.met.H.Host.only_now c.settle.new.self left since))
    (subst (λ o. Elapses g.H.Host.moment g.H.Host.left_since c.settle.new.self c.test_uninterrupted.new.host (MayLeaveNow o)) (sym c.test_uninterrupted.ensures.reads.state) c.test_uninterrupted.ensures.reads.time)
    c.delete_settled.ensures.any_moment
    (may_delete (g.H.Host.told c.test_uninterrupted.new.host) (g.H.Host.told c.test_uninterrupted.new.host) c.args.name.now
    (Elapses g.H.Host.moment g.H.Host.left_since c.test_uninterrupted.new.host c.delete_settled.new.host (MayLeaveNow (g.H.Host.told c.test_uninterrupted.new.host))) good is gate
    (of_some (g.H.Host.told c.test_uninterrupted.new.host)
    (λ s. get (points s.files) c.args.name.now ≡ None → OnlyReads g.H.Host.told g.H.Host.counts g.H.Host.moment g.H.Host.left_since g.H.Host.goes_on c.test_uninterrupted.new.host c.delete_settled.new.host)
    (λ s. get (points s.files) c.args.name.now ≡ None → Elapses g.H.Host.moment g.H.Host.left_since c.test_uninterrupted.new.host c.delete_settled.new.host (MayLeaveNow (g.H.Host.told c.test_uninterrupted.new.host)))
    (λ s h absent. (h absent).time) c.delete_settled.ensures.only_reads))
    c.delete_settled.ensures.later)
    (λ left later may. g.met.H.Host.counts_now c.delete_settled.new.host (g.H.Host.moment c.settle.new.self) left later may)
    (ready_written (delete_asked c.args.name.now) (g.H.Host.told c.test_uninterrupted.new.host)
    (g.H.Host.told c.test_uninterrupted.new.host) (g.H.Host.told c.delete_settled.new.host)
    (delete_checkpoint c.args.name.now) (IsDeleted c.args.name.now) (IsDeletedOrNot c.args.name.now)
    (deleting c.args.name.now) c.delete_settled.result
    (g.H.Host.counts c.test_uninterrupted.new.host) (g.H.Host.counts c.delete_settled.new.host) is
    c.delete_settled.ensures.ok c.delete_settled.ensures.err c.delete_settled.ensures.cause
    (settled_found (g.H.Host.told c.test_uninterrupted.new.host) (g.H.Host.told c.test_uninterrupted.new.host) c.args.name.now c.delete_settled.result good is gate c.delete_settled.ensures.answer)
    (settling_reads (g.H.Host.told c.test_uninterrupted.new.host) c.args.name.now good)
    (may_delete (g.H.Host.told c.test_uninterrupted.new.host) (g.H.Host.told c.test_uninterrupted.new.host) c.args.name.now (g.H.Host.told c.delete_settled.new.host ≡ g.H.Host.told c.test_uninterrupted.new.host) good is gate
    (of_some (g.H.Host.told c.test_uninterrupted.new.host)
    (λ s. get (points s.files) c.args.name.now ≡ None → OnlyReads g.H.Host.told g.H.Host.counts g.H.Host.moment g.H.Host.left_since g.H.Host.goes_on c.test_uninterrupted.new.host c.delete_settled.new.host)
    (λ s. get (points s.files) c.args.name.now ≡ None → g.H.Host.told c.delete_settled.new.host ≡ g.H.Host.told c.test_uninterrupted.new.host)
    (λ s h absent. (h absent).state) c.delete_settled.ensures.only_reads)))
