use Rattle.std.proofs.Common.{inl, inr, subst, sym, None}
use Rattle.host_core.specs.State.{with_file}
use Rattle.conf_store.specs.Changes.{Changes}
use Rattle.conf_store.specs.Clearing.{IsDone, IsDoneOrNot}
use Rattle.conf_store.proofs.Counting.{on_err, rises_on, rose_later}
use Rattle.conf_store.proofs.Listings.{is_clean, lists, not_yet, settles}
use Rattle.conf_store.proofs.Moments.{begins, goes_on, settled_changes}
use Rattle.conf_store.proofs.settling.remove_file.Goals as goal

-- ---- where a call fails
pub returns-in_err-remove-clause-err : goal.returns-in_err-remove-clause-err
returns-in_err-remove-clause-err g c =
    on_err c.from_residual.result (lists (with_file c.args.name.now None) (g.H.Host.told c.args.host.now) (g.H.Host.told c.remove.new.self) c.in_err-remove.ensures.err)

pub returns-in_err-remove-clause-any_moment : goal.returns-in_err-remove-clause-any_moment
returns-in_err-remove-clause-any_moment g c =
    let at_start = begins g.H.Host.moment g.H.Host.left_since (IsDoneOrNot (with_file c.args.name.now None)) (not_yet (with_file c.args.name.now None)) (g.H.Host.told c.args.host.now) (is_clean c.args.name.now (g.H.Host.told c.args.host.now) c.requires.ready) c.args.host.now (λ left since. g.met.H.Host.only_now c.args.host.now left since) in
    let listed = goes_on g.H.Host.moment g.H.Host.left_since (IsDoneOrNot (with_file c.args.name.now None)) (g.H.Host.told c.args.host.now) (g.H.Host.told c.remove.new.self) (lists (with_file c.args.name.now None) (g.H.Host.told c.args.host.now) (g.H.Host.told c.remove.new.self) c.in_err-remove.ensures.err) c.args.host.now c.args.host.now c.remove.new.self at_start c.remove.ensures.time in
    listed

pub returns-in_err-settle-clause-err : goal.returns-in_err-settle-clause-err
returns-in_err-settle-clause-err g c =
    on_err c.from_residual-in_err-settle.result (subst (Changes (IsDoneOrNot (with_file c.args.name.now None)) (g.H.Host.told c.args.host.now)) (sym c.in_err-settle.ensures.err) (lists (with_file c.args.name.now None) (g.H.Host.told c.args.host.now) (g.H.Host.told c.remove.new.self) (inl c.in_ok-remove.ensures.ok)))

pub returns-in_err-settle-clause-any_moment : goal.returns-in_err-settle-clause-any_moment
returns-in_err-settle-clause-any_moment g c =
    let at_start = begins g.H.Host.moment g.H.Host.left_since (IsDoneOrNot (with_file c.args.name.now None)) (not_yet (with_file c.args.name.now None)) (g.H.Host.told c.args.host.now) (is_clean c.args.name.now (g.H.Host.told c.args.host.now) c.requires.ready) c.args.host.now (λ left since. g.met.H.Host.only_now c.args.host.now left since) in
    let listed = goes_on g.H.Host.moment g.H.Host.left_since (IsDoneOrNot (with_file c.args.name.now None)) (g.H.Host.told c.args.host.now) (g.H.Host.told c.remove.new.self) (lists (with_file c.args.name.now None) (g.H.Host.told c.args.host.now) (g.H.Host.told c.remove.new.self) (inl c.in_ok-remove.ensures.ok)) c.args.host.now c.args.host.now c.remove.new.self at_start c.remove.ensures.time in
    goes_on g.H.Host.moment g.H.Host.left_since (IsDoneOrNot (with_file c.args.name.now None)) (g.H.Host.told c.args.host.now) (g.H.Host.told c.settle.new.self) (subst (Changes (IsDoneOrNot (with_file c.args.name.now None)) (g.H.Host.told c.args.host.now)) (sym c.in_err-settle.ensures.err) (lists (with_file c.args.name.now None) (g.H.Host.told c.args.host.now) (g.H.Host.told c.remove.new.self) (inl c.in_ok-remove.ensures.ok))) c.args.host.now c.remove.new.self c.settle.new.self listed c.settle.ensures.time

pub returns-in_err-settle-clause-counts : goal.returns-in_err-settle-clause-counts
returns-in_err-settle-clause-counts g c =
    rises_on (g.H.Host.counts c.args.host.now) (g.H.Host.counts c.remove.new.self) (g.H.Host.counts c.settle.new.self) c.remove.ensures.counts c.settle.ensures.counts

pub returns-in_err-settle-clause-cause : goal.returns-in_err-settle-clause-cause
returns-in_err-settle-clause-cause g c =
    on_err c.from_residual-in_err-settle.result (rose_later (g.H.Host.counts c.args.host.now) (g.H.Host.counts c.remove.new.self) (g.H.Host.counts c.settle.new.self) c.remove.ensures.counts c.in_err-settle.ensures.cause)

pub returns-in_err-settle-clause-goes : goal.returns-in_err-settle-clause-goes
returns-in_err-settle-clause-goes g c =
    g.met.H.Host.continues c.args.host.now c.remove.new.self c.settle.new.self c.remove.ensures.goes c.settle.ensures.goes

-- ---- once it is done
pub returns-clause-ok : goal.returns-clause-ok
returns-clause-ok g c =
    settles (with_file c.args.name.now None) (g.H.Host.told c.args.host.now) (g.H.Host.told c.remove.new.self) (g.H.Host.told c.settle.new.self) c.in_ok-remove.ensures.ok c.in_ok-settle.ensures.ok

pub returns-clause-any_moment : goal.returns-clause-any_moment
returns-clause-any_moment g c =
    let at_start = begins g.H.Host.moment g.H.Host.left_since (IsDoneOrNot (with_file c.args.name.now None)) (not_yet (with_file c.args.name.now None)) (g.H.Host.told c.args.host.now) (is_clean c.args.name.now (g.H.Host.told c.args.host.now) c.requires.ready) c.args.host.now (λ left since. g.met.H.Host.only_now c.args.host.now left since) in
    let listed = goes_on g.H.Host.moment g.H.Host.left_since (IsDoneOrNot (with_file c.args.name.now None)) (g.H.Host.told c.args.host.now) (g.H.Host.told c.remove.new.self) (lists (with_file c.args.name.now None) (g.H.Host.told c.args.host.now) (g.H.Host.told c.remove.new.self) (inl c.in_ok-remove.ensures.ok)) c.args.host.now c.args.host.now c.remove.new.self at_start c.remove.ensures.time in
    goes_on g.H.Host.moment g.H.Host.left_since (IsDoneOrNot (with_file c.args.name.now None)) (g.H.Host.told c.args.host.now) (g.H.Host.told c.settle.new.self) (settled_changes (IsDone (with_file c.args.name.now None)) (IsDoneOrNot (with_file c.args.name.now None)) (λ f h e. inr e) (g.H.Host.told c.args.host.now) (g.H.Host.told c.settle.new.self) (settles (with_file c.args.name.now None) (g.H.Host.told c.args.host.now) (g.H.Host.told c.remove.new.self) (g.H.Host.told c.settle.new.self) c.in_ok-remove.ensures.ok c.in_ok-settle.ensures.ok)) c.args.host.now c.remove.new.self c.settle.new.self listed c.settle.ensures.time

pub returns-clause-counts : goal.returns-clause-counts
returns-clause-counts g c =
    rises_on (g.H.Host.counts c.args.host.now) (g.H.Host.counts c.remove.new.self) (g.H.Host.counts c.settle.new.self) c.remove.ensures.counts c.settle.ensures.counts

pub returns-clause-goes : goal.returns-clause-goes
returns-clause-goes g c =
    g.met.H.Host.continues c.args.host.now c.remove.new.self c.settle.new.self c.remove.ensures.goes c.settle.ensures.goes
