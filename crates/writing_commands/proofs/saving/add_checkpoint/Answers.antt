-- A checkpoint saved, or what is refused, at each call.
use Rattle.std.proofs.Common.{◌≡◌, inl, inr, true, false, Ok, Err, rules, refl, subst, sym, ◌∙◌}
use Rattle.std.proofs.lemmas.Result.{err_from_is_err_and}
use Rattle.host_core.specs.Crashes.{Elapses, LeavesOnly, MayLeaveNow}
use Rattle.conf_store.specs.Reads.{OnlyReads}
use Rattle.checkpoints.specs.Answers.{IsInTheWay}
use Rattle.checkpoints.specs.Changes.{IsSaved, IsSavedOrNot}
use Rattle.checkpoints.specs.Names.{is_good_name}
use Rattle.conf_doc.specs.declared.configuration.Config.{Config}
use Rattle.gcu_output.specs.Printing.{outcome_of}
use Rattle.gcu_output.specs.declared.outcomes.Outcome.TheVariants.{BadName, DiskFault}
use Rattle.gcu_inputs.specs.Preparing.{Finds}
use Rattle.gcu_inputs.specs.StoredAsked.{stored_asked}
use Rattle.gcu_requests.specs.Asked.{save_asked}
use Rattle.gcu_requests.specs.Checking.{check_asked}
use Rattle.gcu_requests.specs.Request.{check, save_checkpoint}
use Rattle.gcu_output.proofs.Elapsing.{elapses_both}
use Rattle.gcu_inputs.proofs.Finding.{memory_found}
use Rattle.writing_commands.proofs.Savings.{bad_name_found, may_save, not_valid_found, saving, saving_found, settling_fault_found, settling_reads}
use Rattle.command_answers.specs.Commands.{LeftUnwritten}
use Rattle.command_answers.proofs.Elapsing.{asking_begins}
use Rattle.writing_commands.proofs.SettledWrites.{reads_on, settled_again, settled_on}
use Rattle.writing_commands.proofs.Unwritten.{unless_fault, unless_weaker, unwritten_begins, unwritten_reads}
use Rattle.writing_commands.proofs.Writing.{FindsUnit, asking_goes_on, asking_settles, of_some, ready_before, ready_settled, ready_written, writes_within}
use Rattle.writing_commands.proofs.saving.add_checkpoint.Goals as goal

-- ---- before anything is called

pub returns-in_err-name-clause-left : goal.returns-in_err-name-clause-left
returns-in_err-name-clause-left g c =
    let p = err_from_is_err_and c.from_residual.result c.from_residual.ensures.1 in
    rw (p.1, p.2)
    (ready_before (save_asked c.args.name.now) (g.H.Host.told c.args.host.now) (g.H.Host.told c.args.host.now) _
    (g.H.Host.counts c.args.host.now) (g.H.Host.counts c.args.host.now) check refl tt
    (memory_found (λ u. check) (g.H.Host.told c.args.host.now) (save_asked c.args.name.now)))

pub returns-in_err-name-clause-crash : goal.returns-in_err-name-clause-crash
returns-in_err-name-clause-crash g c =
    asking_begins g.H.Host.moment g.H.Host.left_since (save_asked c.args.name.now) (g.H.Host.told c.args.host.now)
    c.args.host.now (λ left since. g.met.H.Host.only_now c.args.host.now left since)

pub returns-in_err-name-clause-early : goal.returns-in_err-name-clause-early
returns-in_err-name-clause-early g c =
    let p = err_from_is_err_and c.from_residual.result c.from_residual.ensures.1 in
    rw (p.1, p.2)
    (unwritten_begins g.H.Host.moment g.H.Host.left_since (g.H.Host.told c.args.host.now) c.args.host.now (λ left since. g.met.H.Host.only_now c.args.host.now left since))

pub returns-then-not-is_good_name-clause-left : goal.returns-then-not-is_good_name-clause-left
returns-then-not-is_good_name-clause-left g c =
    let bad : is_good_name c.args.name.now ≡ false = search rules in
    ready_before (save_asked c.args.name.now) (g.H.Host.told c.args.host.now) (g.H.Host.told c.args.host.now)
    (BadName c.in_ok-name.name)
    (g.H.Host.counts c.args.host.now) (g.H.Host.counts c.args.host.now) check refl tt
    (subst (λ n. FindsUnit (g.H.Host.told c.args.host.now) check (Err (BadName n)) (save_asked c.args.name.now)) (sym c.in_ok-name.ensures)
    (bad_name_found (g.H.Host.told c.args.host.now) c.args.name.now check bad))

pub returns-then-not-is_good_name-clause-crash : goal.returns-then-not-is_good_name-clause-crash
returns-then-not-is_good_name-clause-crash g c =
    asking_begins g.H.Host.moment g.H.Host.left_since (save_asked c.args.name.now) (g.H.Host.told c.args.host.now)
    c.args.host.now (λ left since. g.met.H.Host.only_now c.args.host.now left since)

pub returns-then-not-is_good_name-clause-early : goal.returns-then-not-is_good_name-clause-early
returns-then-not-is_good_name-clause-early g c =
    unwritten_begins g.H.Host.moment g.H.Host.left_since (g.H.Host.told c.args.host.now) c.args.host.now
    (λ left since. g.met.H.Host.only_now c.args.host.now left since)

-- ---- where nothing is settled

pub returns-in-Err-clause-left : goal.returns-in-Err-clause-left
returns-in-Err-clause-left g c =
    let good : is_good_name c.args.name.now ≡ true = search rules in
    ready_before (save_asked c.args.name.now) (g.H.Host.told c.args.host.now) (g.H.Host.told c.settle.new.self)
    (DiskFault 0)
    (g.H.Host.counts c.args.host.now) (g.H.Host.counts c.settle.new.self) check c.in-Err.ensures.err
    (refl, c.in-Err.ensures.cause)
    (settling_fault_found (g.H.Host.told c.args.host.now) c.args.name.now check 0 good)

pub returns-in-Err-clause-crash : goal.returns-in-Err-clause-crash
returns-in-Err-clause-crash g c =
    asking_goes_on g.H.Host.moment g.H.Host.left_since (save_asked c.args.name.now) (g.H.Host.told c.args.host.now)
    (g.H.Host.told c.settle.new.self) c.args.host.now c.settle.new.self c.in-Err.ensures.err
    (λ left since. g.met.H.Host.only_now c.args.host.now left since) c.settle.ensures.time

-- ---- where there is no valid configuration

pub returns-in_err-config-in-Ok-clause-left : goal.returns-in_err-config-in-Ok-clause-left
returns-in_err-config-in-Ok-clause-left g c =
    let good : is_good_name c.args.name.now ≡ true = search rules in
    let p = err_from_is_err_and c.from_residual-in_err-config-in-Ok.result
    c.from_residual-in_err-config-in-Ok.ensures.1 in
    rw (p.1, p.2)
    (ready_settled (save_asked c.args.name.now) (g.H.Host.told c.args.host.now) (g.H.Host.told c.judge_stored.new.host) c.in_err-config-in-Ok.field-0.0
    (g.H.Host.counts c.settle.new.self) (g.H.Host.counts c.judge_stored.new.host) check
    (c.judge_stored.ensures.reads.state ∙ c.in-Ok.ensures.ok) c.in_err-config-in-Ok.ensures.cause
    (settling_reads (g.H.Host.told c.args.host.now) c.args.name.now good)
    (not_valid_found (g.H.Host.told c.args.host.now) (g.H.Host.told c.settle.new.self) c.args.name.now check c.in_err-config-in-Ok.field-0.0 good c.in-Ok.ensures.ok c.in_err-config-in-Ok.ensures.answer))

pub returns-in_err-config-in-Ok-clause-crash : goal.returns-in_err-config-in-Ok-clause-crash
returns-in_err-config-in-Ok-clause-crash g c =
    asking_settles g.H.Host.moment g.H.Host.left_since (save_asked c.args.name.now) (g.H.Host.told c.args.host.now)
    (g.H.Host.told c.settle.new.self) c.args.host.now c.judge_stored.new.host c.in-Ok.ensures.ok
    (λ left since. g.met.H.Host.only_now c.args.host.now left since)
    (elapses_both g.H.Host.moment g.H.Host.left_since c.args.host.now c.settle.new.self c.judge_stored.new.host (MayLeaveNow (g.H.Host.told c.settle.new.self)) c.settle.ensures.time c.judge_stored.ensures.reads.time)

pub returns-in_err-config-in-Ok-clause-early : goal.returns-in_err-config-in-Ok-clause-early
returns-in_err-config-in-Ok-clause-early g c =
    let p = err_from_is_err_and c.from_residual-in_err-config-in-Ok.result
    c.from_residual-in_err-config-in-Ok.ensures.1 in
    rw (p.1, p.2)
    (unless_fault (LeavesOnly g.H.Host.moment g.H.Host.left_since c.args.host.now c.judge_stored.new.host (LeftUnwritten (g.H.Host.told c.args.host.now))) (unwritten_reads g.H.Host.moment g.H.Host.left_since (g.H.Host.told c.args.host.now) (g.H.Host.told c.settle.new.self) c.args.host.now c.judge_stored.new.host (inr c.in-Ok.ensures.ok)
    (λ left since. g.met.H.Host.only_now c.args.host.now left since) (elapses_both g.H.Host.moment g.H.Host.left_since c.args.host.now c.settle.new.self c.judge_stored.new.host (MayLeaveNow (g.H.Host.told c.settle.new.self)) c.settle.ensures.time c.judge_stored.ensures.reads.time)) c.in_err-config-in-Ok.field-0.0)

-- ---- once it is settled

pub returns-in_ok-config-in-Ok-clause-left : goal.returns-in_ok-config-in-Ok-clause-left
returns-in_ok-config-in-Ok-clause-left g c =
    let good : is_good_name c.args.name.now ≡ true = search rules in
    let config = c.in_ok-config-in-Ok.config in
    let is = c.judge_stored.ensures.reads.state ∙ c.in-Ok.ensures.ok in
    let valid = subst (λ o. Finds {X = Config} o (λ x. check) (Ok config) check_asked)
    (sym c.judge_stored.ensures.reads.state) c.in_ok-config-in-Ok.ensures.answer in
    let stood = subst (λ o. Finds {X = Config} o (λ x. config) (Ok config) stored_asked)
    (sym c.judge_stored.ensures.reads.state) c.in_ok-config-in-Ok.ensures.stored in
    ready_written (save_asked c.args.name.now) (g.H.Host.told c.args.host.now) (g.H.Host.told c.judge_stored.new.host)
    (g.H.Host.told c.save_config.new.host)
    (save_checkpoint c.args.name.now config) (IsSaved c.args.name.now config) (IsSavedOrNot c.args.name.now config)
    (saving c.args.name.now config) c.save_config.result
    (g.H.Host.counts c.judge_stored.new.host) (g.H.Host.counts c.save_config.new.host) is
    c.save_config.ensures.ok c.save_config.ensures.err c.save_config.ensures.cause
    (saving_found (g.H.Host.told c.args.host.now) (g.H.Host.told c.judge_stored.new.host) c.args.name.now config c.save_config.result good is valid stood c.save_config.ensures.answer)
    (settling_reads (g.H.Host.told c.args.host.now) c.args.name.now good)
    (may_save (g.H.Host.told c.args.host.now) (g.H.Host.told c.judge_stored.new.host) c.args.name.now config (g.H.Host.told c.save_config.new.host ≡ g.H.Host.told c.judge_stored.new.host) good is valid stood
    (of_some (g.H.Host.told c.judge_stored.new.host)
    (λ s. IsInTheWay c.args.name.now s.files → OnlyReads g.H.Host.told g.H.Host.counts g.H.Host.moment g.H.Host.left_since g.H.Host.goes_on c.judge_stored.new.host c.save_config.new.host)
    (λ s. IsInTheWay c.args.name.now s.files → g.H.Host.told c.save_config.new.host ≡ g.H.Host.told c.judge_stored.new.host)
    (λ s h there. (h there).state) c.save_config.ensures.only_reads))

pub returns-in_ok-config-in-Ok-clause-crash : goal.returns-in_ok-config-in-Ok-clause-crash
returns-in_ok-config-in-Ok-clause-crash g c =
    let good : is_good_name c.args.name.now ≡ true = search rules in
    let config = c.in_ok-config-in-Ok.config in
    let is = c.judge_stored.ensures.reads.state ∙ c.in-Ok.ensures.ok in
    let valid = subst (λ o. Finds {X = Config} o (λ x. check) (Ok config) check_asked)
    (sym c.judge_stored.ensures.reads.state) c.in_ok-config-in-Ok.ensures.answer in
    let stood = subst (λ o. Finds {X = Config} o (λ x. config) (Ok config) stored_asked)
    (sym c.judge_stored.ensures.reads.state) c.in_ok-config-in-Ok.ensures.stored in
    let so_far = elapses_both g.H.Host.moment g.H.Host.left_since c.args.host.now c.settle.new.self
    c.judge_stored.new.host (MayLeaveNow (g.H.Host.told c.settle.new.self)) c.settle.ensures.time
    c.judge_stored.ensures.reads.time in
    writes_within g.H.Host.moment g.H.Host.left_since (save_asked c.args.name.now) (g.H.Host.told c.args.host.now)
    (g.H.Host.told c.judge_stored.new.host)
    (save_checkpoint c.args.name.now config) (IsSaved c.args.name.now config) (IsSavedOrNot c.args.name.now config)
    (saving c.args.name.now config) is
    c.args.host.now c.judge_stored.new.host c.save_config.new.host
    (λ left since. g.met.H.Host.only_now c.args.host.now left since)
    (subst (λ o. Elapses g.H.Host.moment g.H.Host.left_since c.args.host.now c.judge_stored.new.host (MayLeaveNow o)) (sym c.judge_stored.ensures.reads.state) so_far)
    c.save_config.ensures.any_moment
    (may_save (g.H.Host.told c.args.host.now) (g.H.Host.told c.judge_stored.new.host) c.args.name.now config
    (Elapses g.H.Host.moment g.H.Host.left_since c.judge_stored.new.host c.save_config.new.host (MayLeaveNow (g.H.Host.told c.judge_stored.new.host))) good is valid stood
    (of_some (g.H.Host.told c.judge_stored.new.host)
    (λ s. IsInTheWay c.args.name.now s.files → OnlyReads g.H.Host.told g.H.Host.counts g.H.Host.moment g.H.Host.left_since g.H.Host.goes_on c.judge_stored.new.host c.save_config.new.host)
    (λ s. IsInTheWay c.args.name.now s.files → Elapses g.H.Host.moment g.H.Host.left_since c.judge_stored.new.host c.save_config.new.host (MayLeaveNow (g.H.Host.told c.judge_stored.new.host)))
    (λ s h there. (h there).time) c.save_config.ensures.only_reads))
    c.save_config.ensures.later

pub returns-in_ok-config-in-Ok-clause-early : goal.returns-in_ok-config-in-Ok-clause-early
returns-in_ok-config-in-Ok-clause-early g c =
    let settled_told = g.H.Host.told c.settle.new.self in
    let so_far = elapses_both g.H.Host.moment g.H.Host.left_since c.args.host.now c.settle.new.self
    c.judge_stored.new.host (MayLeaveNow (g.H.Host.told c.settle.new.self)) c.settle.ensures.time
    c.judge_stored.ensures.reads.time in
    unless_weaker (OnlyReads g.H.Host.told g.H.Host.counts g.H.Host.moment g.H.Host.left_since g.H.Host.goes_on c.judge_stored.new.host c.save_config.new.host) (LeavesOnly g.H.Host.moment g.H.Host.left_since c.args.host.now c.save_config.new.host (LeftUnwritten (g.H.Host.told c.args.host.now)))
    (λ reads.
    unwritten_reads g.H.Host.moment g.H.Host.left_since (g.H.Host.told c.args.host.now) settled_told c.args.host.now
    c.save_config.new.host (inr c.in-Ok.ensures.ok) (λ left since. g.met.H.Host.only_now c.args.host.now left since)
    (elapses_both g.H.Host.moment g.H.Host.left_since c.args.host.now c.judge_stored.new.host c.save_config.new.host (MayLeaveNow settled_told) so_far
    (subst (λ o. Elapses g.H.Host.moment g.H.Host.left_since c.judge_stored.new.host c.save_config.new.host (MayLeaveNow o)) c.judge_stored.ensures.reads.state reads.time)))
    c.save_config.result c.save_config.ensures.early

-- ---- what is pending is settled first

pub returns-in_err-name-clause-settles : goal.returns-in_err-name-clause-settles
returns-in_err-name-clause-settles g c = inl (
  unwritten_begins g.H.Host.moment g.H.Host.left_since (g.H.Host.told c.args.host.now) c.args.host.now
      (λ left since. g.met.H.Host.only_now c.args.host.now left since),
  refl,
)

pub returns-then-not-is_good_name-clause-settles : goal.returns-then-not-is_good_name-clause-settles
returns-then-not-is_good_name-clause-settles g c = inl (
  unwritten_begins g.H.Host.moment g.H.Host.left_since (g.H.Host.told c.args.host.now) c.args.host.now
      (λ left since. g.met.H.Host.only_now c.args.host.now left since),
  refl,
)

pub returns-in-Err-clause-settles : goal.returns-in-Err-clause-settles
returns-in-Err-clause-settles g c = inl (
  unwritten_reads g.H.Host.moment g.H.Host.left_since (g.H.Host.told c.args.host.now) (g.H.Host.told c.settle.new.self)
      c.args.host.now c.settle.new.self (inl c.in-Err.ensures.err)
      (λ left since. g.met.H.Host.only_now c.args.host.now left since) c.settle.ensures.time,
  c.in-Err.ensures.err,
)

pub returns-in_err-config-in-Ok-clause-settles : goal.returns-in_err-config-in-Ok-clause-settles
returns-in_err-config-in-Ok-clause-settles g c =
    let good : is_good_name c.args.name.now ≡ true = search rules in
    let twice = settled_again (g.H.Host.told c.args.host.now) (g.H.Host.told c.settle.new.self) c.in-Ok.ensures.ok in
    let p = err_from_is_err_and c.from_residual-in_err-config-in-Ok.result
    c.from_residual-in_err-config-in-Ok.ensures.1 in
    rw (p.1, p.2)
    (settled_on g.H.Host.moment g.H.Host.left_since (save_asked c.args.name.now) (g.H.Host.told c.args.host.now)
    (g.H.Host.told c.settle.new.self) (g.H.Host.told c.judge_stored.new.host) c.in_err-config-in-Ok.field-0.0
    c.args.host.now c.settle.new.self c.judge_stored.new.host c.in-Ok.ensures.ok c.settle.ensures.time
    (reads_on g.H.Host.moment g.H.Host.left_since (save_asked c.args.name.now) (g.H.Host.told c.settle.new.self) c.settle.new.self c.judge_stored.new.host
    (λ left since. g.met.H.Host.only_now c.settle.new.self left since) c.judge_stored.ensures.reads.time)
    (λ left later may. g.met.H.Host.counts_now c.judge_stored.new.host (g.H.Host.moment c.settle.new.self) left later may)
    (ready_settled (save_asked c.args.name.now) (g.H.Host.told c.settle.new.self) (g.H.Host.told c.judge_stored.new.host) c.in_err-config-in-Ok.field-0.0
    (g.H.Host.counts c.settle.new.self) (g.H.Host.counts c.judge_stored.new.host) check
    (c.judge_stored.ensures.reads.state ∙ twice) c.in_err-config-in-Ok.ensures.cause
    (settling_reads (g.H.Host.told c.settle.new.self) c.args.name.now good)
    (not_valid_found (g.H.Host.told c.settle.new.self) (g.H.Host.told c.settle.new.self) c.args.name.now check c.in_err-config-in-Ok.field-0.0 good twice c.in_err-config-in-Ok.ensures.answer)))

pub returns-in_ok-config-in-Ok-clause-settles : goal.returns-in_ok-config-in-Ok-clause-settles
returns-in_ok-config-in-Ok-clause-settles g c =
    let good : is_good_name c.args.name.now ≡ true = search rules in
    let config = c.in_ok-config-in-Ok.config in
    let told = c.judge_stored.ensures.reads.state ∙ c.in-Ok.ensures.ok in
    let is = settled_again (g.H.Host.told c.args.host.now) (g.H.Host.told c.judge_stored.new.host) told in
    let valid = subst (λ o. Finds {X = Config} o (λ x. check) (Ok config) check_asked)
    (sym c.judge_stored.ensures.reads.state) c.in_ok-config-in-Ok.ensures.answer in
    let stood = subst (λ o. Finds {X = Config} o (λ x. config) (Ok config) stored_asked)
    (sym c.judge_stored.ensures.reads.state) c.in_ok-config-in-Ok.ensures.stored in
    settled_on g.H.Host.moment g.H.Host.left_since (save_asked c.args.name.now) (g.H.Host.told c.args.host.now)
    (g.H.Host.told c.judge_stored.new.host) (g.H.Host.told c.save_config.new.host) (outcome_of c.save_config.result)
    c.args.host.now c.settle.new.self c.save_config.new.host told
    (subst (λ o. Elapses g.H.Host.moment g.H.Host.left_since c.args.host.now c.settle.new.self (MayLeaveNow o)) (sym c.judge_stored.ensures.reads.state) c.settle.ensures.time)
    (writes_within g.H.Host.moment g.H.Host.left_since (save_asked c.args.name.now) (g.H.Host.told c.judge_stored.new.host)
    (g.H.Host.told c.judge_stored.new.host)
    (save_checkpoint c.args.name.now config) (IsSaved c.args.name.now config) (IsSavedOrNot c.args.name.now config)
    (saving c.args.name.now config) is
    c.settle.new.self c.judge_stored.new.host c.save_config.new.host
    (λ left since. subst (λ o. MayLeaveNow o left) (sym c.judge_stored.ensures.reads.state) (g.met.H.Host.only_now c.settle.new.self left since))
    (subst (λ o. Elapses g.H.Host.moment g.H.Host.left_since c.settle.new.self c.judge_stored.new.host (MayLeaveNow o)) (sym c.judge_stored.ensures.reads.state) c.judge_stored.ensures.reads.time)
    c.save_config.ensures.any_moment
    (may_save (g.H.Host.told c.judge_stored.new.host) (g.H.Host.told c.judge_stored.new.host) c.args.name.now config
    (Elapses g.H.Host.moment g.H.Host.left_since c.judge_stored.new.host c.save_config.new.host (MayLeaveNow (g.H.Host.told c.judge_stored.new.host))) good is valid stood
    (of_some (g.H.Host.told c.judge_stored.new.host)
    (λ s. IsInTheWay c.args.name.now s.files → OnlyReads g.H.Host.told g.H.Host.counts g.H.Host.moment g.H.Host.left_since g.H.Host.goes_on c.judge_stored.new.host c.save_config.new.host)
    (λ s. IsInTheWay c.args.name.now s.files → Elapses g.H.Host.moment g.H.Host.left_since c.judge_stored.new.host c.save_config.new.host (MayLeaveNow (g.H.Host.told c.judge_stored.new.host)))
    (λ s h there. (h there).time) c.save_config.ensures.only_reads))
    c.save_config.ensures.later)
    (λ left later may. g.met.H.Host.counts_now c.save_config.new.host (g.H.Host.moment c.settle.new.self) left later may)
    (ready_written (save_asked c.args.name.now) (g.H.Host.told c.judge_stored.new.host) (g.H.Host.told c.judge_stored.new.host)
    (g.H.Host.told c.save_config.new.host)
    (save_checkpoint c.args.name.now config) (IsSaved c.args.name.now config) (IsSavedOrNot c.args.name.now config)
    (saving c.args.name.now config) c.save_config.result
    (g.H.Host.counts c.judge_stored.new.host) (g.H.Host.counts c.save_config.new.host) is
    c.save_config.ensures.ok c.save_config.ensures.err c.save_config.ensures.cause
    (saving_found (g.H.Host.told c.judge_stored.new.host) (g.H.Host.told c.judge_stored.new.host) c.args.name.now config c.save_config.result good is valid stood c.save_config.ensures.answer)
    (settling_reads (g.H.Host.told c.judge_stored.new.host) c.args.name.now good)
    (may_save (g.H.Host.told c.judge_stored.new.host) (g.H.Host.told c.judge_stored.new.host) c.args.name.now config (g.H.Host.told c.save_config.new.host ≡ g.H.Host.told c.judge_stored.new.host) good is valid stood
    (of_some (g.H.Host.told c.judge_stored.new.host)
    (λ s. IsInTheWay c.args.name.now s.files → OnlyReads g.H.Host.told g.H.Host.counts g.H.Host.moment g.H.Host.left_since g.H.Host.goes_on c.judge_stored.new.host c.save_config.new.host)
    (λ s. IsInTheWay c.args.name.now s.files → g.H.Host.told c.save_config.new.host ≡ g.H.Host.told c.judge_stored.new.host)
    (λ s h there. (h there).state) c.save_config.ensures.only_reads)))
