use Rattle.std.proofs.Common.{inl, inr, subst, sym}
use Rattle.host_core.specs.State.{rename}
use Rattle.conf_store.specs.Changes.{Changes}
use Rattle.conf_store.specs.Clearing.{IsDone, IsDoneOrNot}
use Rattle.conf_store.proofs.Counting.{on_err, rises_on, rose_later}
use Rattle.conf_store.proofs.Listings.{is_clean, lists, not_yet, settles}
use Rattle.conf_store.proofs.Moments.{begins, goes_on, settled_changes}
use Rattle.conf_store.proofs.settling.rename_file.Goals as goal

-- ---- where a call fails
pub returns-in_err-rename-clause-err : goal.returns-in_err-rename-clause-err
returns-in_err-rename-clause-err g c =
    on_err c.from_residual.result (lists (rename c.args.from.now c.args.to.now) (g.H.Host.told c.args.host.now) (g.H.Host.told c.rename.new.self) c.in_err-rename.ensures.err)

pub returns-in_err-rename-clause-any_moment : goal.returns-in_err-rename-clause-any_moment
returns-in_err-rename-clause-any_moment g c =
    let at_start = begins g.H.Host.moment g.H.Host.left_since (IsDoneOrNot (rename c.args.from.now c.args.to.now)) (not_yet (rename c.args.from.now c.args.to.now)) (g.H.Host.told c.args.host.now) (is_clean c.args.from.now (g.H.Host.told c.args.host.now) c.requires.ready) c.args.host.now (λ left since. g.met.H.Host.only_now c.args.host.now left since) in
    let listed = goes_on g.H.Host.moment g.H.Host.left_since (IsDoneOrNot (rename c.args.from.now c.args.to.now)) (g.H.Host.told c.args.host.now) (g.H.Host.told c.rename.new.self) (lists (rename c.args.from.now c.args.to.now) (g.H.Host.told c.args.host.now) (g.H.Host.told c.rename.new.self) c.in_err-rename.ensures.err) c.args.host.now c.args.host.now c.rename.new.self at_start c.rename.ensures.time in
    listed

pub returns-in_err-settle-clause-err : goal.returns-in_err-settle-clause-err
returns-in_err-settle-clause-err g c =
    on_err c.from_residual-in_err-settle.result (subst (Changes (IsDoneOrNot (rename c.args.from.now c.args.to.now)) (g.H.Host.told c.args.host.now)) (sym c.in_err-settle.ensures.err) (lists (rename c.args.from.now c.args.to.now) (g.H.Host.told c.args.host.now) (g.H.Host.told c.rename.new.self) (inl c.in_ok-rename.ensures.ok)))

pub returns-in_err-settle-clause-any_moment : goal.returns-in_err-settle-clause-any_moment
returns-in_err-settle-clause-any_moment g c =
    let at_start = begins g.H.Host.moment g.H.Host.left_since (IsDoneOrNot (rename c.args.from.now c.args.to.now)) (not_yet (rename c.args.from.now c.args.to.now)) (g.H.Host.told c.args.host.now) (is_clean c.args.from.now (g.H.Host.told c.args.host.now) c.requires.ready) c.args.host.now (λ left since. g.met.H.Host.only_now c.args.host.now left since) in
    let listed = goes_on g.H.Host.moment g.H.Host.left_since (IsDoneOrNot (rename c.args.from.now c.args.to.now)) (g.H.Host.told c.args.host.now) (g.H.Host.told c.rename.new.self) (lists (rename c.args.from.now c.args.to.now) (g.H.Host.told c.args.host.now) (g.H.Host.told c.rename.new.self) (inl c.in_ok-rename.ensures.ok)) c.args.host.now c.args.host.now c.rename.new.self at_start c.rename.ensures.time in
    goes_on g.H.Host.moment g.H.Host.left_since (IsDoneOrNot (rename c.args.from.now c.args.to.now)) (g.H.Host.told c.args.host.now) (g.H.Host.told c.settle.new.self) (subst (Changes (IsDoneOrNot (rename c.args.from.now c.args.to.now)) (g.H.Host.told c.args.host.now)) (sym c.in_err-settle.ensures.err) (lists (rename c.args.from.now c.args.to.now) (g.H.Host.told c.args.host.now) (g.H.Host.told c.rename.new.self) (inl c.in_ok-rename.ensures.ok))) c.args.host.now c.rename.new.self c.settle.new.self listed c.settle.ensures.time

pub returns-in_err-settle-clause-counts : goal.returns-in_err-settle-clause-counts
returns-in_err-settle-clause-counts g c =
    rises_on (g.H.Host.counts c.args.host.now) (g.H.Host.counts c.rename.new.self) (g.H.Host.counts c.settle.new.self) c.rename.ensures.counts c.settle.ensures.counts

pub returns-in_err-settle-clause-cause : goal.returns-in_err-settle-clause-cause
returns-in_err-settle-clause-cause g c =
    on_err c.from_residual-in_err-settle.result (rose_later (g.H.Host.counts c.args.host.now) (g.H.Host.counts c.rename.new.self) (g.H.Host.counts c.settle.new.self) c.rename.ensures.counts c.in_err-settle.ensures.cause)

pub returns-in_err-settle-clause-goes : goal.returns-in_err-settle-clause-goes
returns-in_err-settle-clause-goes g c =
    g.met.H.Host.continues c.args.host.now c.rename.new.self c.settle.new.self c.rename.ensures.goes c.settle.ensures.goes

-- ---- once it is done
pub returns-clause-ok : goal.returns-clause-ok
returns-clause-ok g c =
    settles (rename c.args.from.now c.args.to.now) (g.H.Host.told c.args.host.now) (g.H.Host.told c.rename.new.self) (g.H.Host.told c.settle.new.self) c.in_ok-rename.ensures.ok c.in_ok-settle.ensures.ok

pub returns-clause-any_moment : goal.returns-clause-any_moment
returns-clause-any_moment g c =
    let at_start = begins g.H.Host.moment g.H.Host.left_since (IsDoneOrNot (rename c.args.from.now c.args.to.now)) (not_yet (rename c.args.from.now c.args.to.now)) (g.H.Host.told c.args.host.now) (is_clean c.args.from.now (g.H.Host.told c.args.host.now) c.requires.ready) c.args.host.now (λ left since. g.met.H.Host.only_now c.args.host.now left since) in
    let listed = goes_on g.H.Host.moment g.H.Host.left_since (IsDoneOrNot (rename c.args.from.now c.args.to.now)) (g.H.Host.told c.args.host.now) (g.H.Host.told c.rename.new.self) (lists (rename c.args.from.now c.args.to.now) (g.H.Host.told c.args.host.now) (g.H.Host.told c.rename.new.self) (inl c.in_ok-rename.ensures.ok)) c.args.host.now c.args.host.now c.rename.new.self at_start c.rename.ensures.time in
    goes_on g.H.Host.moment g.H.Host.left_since (IsDoneOrNot (rename c.args.from.now c.args.to.now)) (g.H.Host.told c.args.host.now) (g.H.Host.told c.settle.new.self) (settled_changes (IsDone (rename c.args.from.now c.args.to.now)) (IsDoneOrNot (rename c.args.from.now c.args.to.now)) (λ f h e. inr e) (g.H.Host.told c.args.host.now) (g.H.Host.told c.settle.new.self) (settles (rename c.args.from.now c.args.to.now) (g.H.Host.told c.args.host.now) (g.H.Host.told c.rename.new.self) (g.H.Host.told c.settle.new.self) c.in_ok-rename.ensures.ok c.in_ok-settle.ensures.ok)) c.args.host.now c.rename.new.self c.settle.new.self listed c.settle.ensures.time

pub returns-clause-counts : goal.returns-clause-counts
returns-clause-counts g c =
    rises_on (g.H.Host.counts c.args.host.now) (g.H.Host.counts c.rename.new.self) (g.H.Host.counts c.settle.new.self) c.rename.ensures.counts c.settle.ensures.counts

pub returns-clause-goes : goal.returns-clause-goes
returns-clause-goes g c =
    g.met.H.Host.continues c.args.host.now c.rename.new.self c.settle.new.self c.rename.ensures.goes c.settle.ensures.goes
