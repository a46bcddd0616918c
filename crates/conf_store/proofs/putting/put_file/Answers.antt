-- The run of a put: each exit's host, what a crash left on the way there, and its counts.
use Rattle.std.proofs.Common.{Some, inl, subst, sym}
use Rattle.conf_store.specs.Changes.{Changes}
use Rattle.conf_store.specs.Puts.{IsPutOrNot}
use Rattle.conf_store.proofs.Counting.{on_err, rises_on, rose_later}
use Rattle.conf_store.proofs.Moments.{begins, goes_on}
use Rattle.conf_store.proofs.Stages.{is_settled, is_synced, may_rename, may_sync, may_write, not_renamed, not_synced, not_yet, settles, synced, wrote}
use Rattle.conf_store.proofs.putting.put_file.Goals as goal

-- ---- what each call needs
pub write-requires-clause-ready : goal.write-requires-clause-ready
write-requires-clause-ready g c =
    may_write c.args.name.now c.args.bytes.now (g.H.Host.told c.args.host.now) c.requires.ready

pub sync-requires-clause-ready : goal.sync-requires-clause-ready
sync-requires-clause-ready g c =
    may_sync c.args.name.now c.args.bytes.now (g.H.Host.told c.args.host.now) (g.H.Host.told c.write.new.self) c.in_ok-write.ensures.ok

pub rename-requires-clause-ready : goal.rename-requires-clause-ready
rename-requires-clause-ready g c =
    may_rename c.args.name.now c.args.bytes.now (g.H.Host.told c.args.host.now) (g.H.Host.told c.sync.new.self) (is_synced c.args.name.now c.args.bytes.now (g.H.Host.told c.args.host.now) (g.H.Host.told c.write.new.self) (g.H.Host.told c.sync.new.self) c.in_ok-write.ensures.ok c.in_ok-sync.ensures.ok)

-- ---- where a call fails
pub returns-in_err-write-clause-err : goal.returns-in_err-write-clause-err
returns-in_err-write-clause-err g c =
    on_err c.from_residual.result (wrote c.args.name.now c.args.bytes.now (g.H.Host.told c.args.host.now) (g.H.Host.told c.write.new.self) c.in_err-write.ensures.err.0 c.in_err-write.ensures.err.1)

pub returns-in_err-sync-clause-err : goal.returns-in_err-sync-clause-err
returns-in_err-sync-clause-err g c =
    on_err c.from_residual-in_err-sync.result (not_synced c.args.name.now c.args.bytes.now (g.H.Host.told c.args.host.now) (g.H.Host.told c.write.new.self) (g.H.Host.told c.sync.new.self) c.in_ok-write.ensures.ok c.in_err-sync.ensures.err)

pub returns-in_err-rename-clause-err : goal.returns-in_err-rename-clause-err
returns-in_err-rename-clause-err g c =
    on_err c.from_residual-in_err-rename.result (not_renamed c.args.name.now c.args.bytes.now (g.H.Host.told c.args.host.now) (g.H.Host.told c.sync.new.self) (g.H.Host.told c.rename.new.self) (is_synced c.args.name.now c.args.bytes.now (g.H.Host.told c.args.host.now) (g.H.Host.told c.write.new.self) (g.H.Host.told c.sync.new.self) c.in_ok-write.ensures.ok c.in_ok-sync.ensures.ok) c.in_err-rename.ensures.err)

pub returns-in_err-write-clause-any_moment : goal.returns-in_err-write-clause-any_moment
returns-in_err-write-clause-any_moment g c =
    let at_start = begins g.H.Host.moment g.H.Host.left_since (IsPutOrNot c.args.name.now c.args.bytes.now) (not_yet c.args.name.now c.args.bytes.now) (g.H.Host.told c.args.host.now) c.requires.ready c.args.host.now (λ left since. g.met.H.Host.only_now c.args.host.now left since) in
    let written = goes_on g.H.Host.moment g.H.Host.left_since (IsPutOrNot c.args.name.now c.args.bytes.now) (g.H.Host.told c.args.host.now) (g.H.Host.told c.write.new.self) (wrote c.args.name.now c.args.bytes.now (g.H.Host.told c.args.host.now) (g.H.Host.told c.write.new.self) c.in_err-write.ensures.err.0 c.in_err-write.ensures.err.1) c.args.host.now c.args.host.now c.write.new.self at_start c.write.ensures.time in
    written

pub returns-in_err-sync-clause-any_moment : goal.returns-in_err-sync-clause-any_moment
returns-in_err-sync-clause-any_moment g c =
    let at_start = begins g.H.Host.moment g.H.Host.left_since (IsPutOrNot c.args.name.now c.args.bytes.now) (not_yet c.args.name.now c.args.bytes.now) (g.H.Host.told c.args.host.now) c.requires.ready c.args.host.now (λ left since. g.met.H.Host.only_now c.args.host.now left since) in
    let written = goes_on g.H.Host.moment g.H.Host.left_since (IsPutOrNot c.args.name.now c.args.bytes.now) (g.H.Host.told c.args.host.now) (g.H.Host.told c.write.new.self) (wrote c.args.name.now c.args.bytes.now (g.H.Host.told c.args.host.now) (g.H.Host.told c.write.new.self) (Some c.args.bytes.now) c.in_ok-write.ensures.ok) c.args.host.now c.args.host.now c.write.new.self at_start c.write.ensures.time in
    let kept = goes_on g.H.Host.moment g.H.Host.left_since (IsPutOrNot c.args.name.now c.args.bytes.now) (g.H.Host.told c.args.host.now) (g.H.Host.told c.sync.new.self) (not_synced c.args.name.now c.args.bytes.now (g.H.Host.told c.args.host.now) (g.H.Host.told c.write.new.self) (g.H.Host.told c.sync.new.self) c.in_ok-write.ensures.ok c.in_err-sync.ensures.err) c.args.host.now c.write.new.self c.sync.new.self written c.sync.ensures.time in
    kept

pub returns-in_err-rename-clause-any_moment : goal.returns-in_err-rename-clause-any_moment
returns-in_err-rename-clause-any_moment g c =
    let at_start = begins g.H.Host.moment g.H.Host.left_since (IsPutOrNot c.args.name.now c.args.bytes.now) (not_yet c.args.name.now c.args.bytes.now) (g.H.Host.told c.args.host.now) c.requires.ready c.args.host.now (λ left since. g.met.H.Host.only_now c.args.host.now left since) in
    let written = goes_on g.H.Host.moment g.H.Host.left_since (IsPutOrNot c.args.name.now c.args.bytes.now) (g.H.Host.told c.args.host.now) (g.H.Host.told c.write.new.self) (wrote c.args.name.now c.args.bytes.now (g.H.Host.told c.args.host.now) (g.H.Host.told c.write.new.self) (Some c.args.bytes.now) c.in_ok-write.ensures.ok) c.args.host.now c.args.host.now c.write.new.self at_start c.write.ensures.time in
    let kept = goes_on g.H.Host.moment g.H.Host.left_since (IsPutOrNot c.args.name.now c.args.bytes.now) (g.H.Host.told c.args.host.now) (g.H.Host.told c.sync.new.self) (synced c.args.name.now c.args.bytes.now (g.H.Host.told c.args.host.now) (g.H.Host.told c.sync.new.self) (is_synced c.args.name.now c.args.bytes.now (g.H.Host.told c.args.host.now) (g.H.Host.told c.write.new.self) (g.H.Host.told c.sync.new.self) c.in_ok-write.ensures.ok c.in_ok-sync.ensures.ok)) c.args.host.now c.write.new.self c.sync.new.self written c.sync.ensures.time in
    let moved = goes_on g.H.Host.moment g.H.Host.left_since (IsPutOrNot c.args.name.now c.args.bytes.now) (g.H.Host.told c.args.host.now) (g.H.Host.told c.rename.new.self) (not_renamed c.args.name.now c.args.bytes.now (g.H.Host.told c.args.host.now) (g.H.Host.told c.sync.new.self) (g.H.Host.told c.rename.new.self) (is_synced c.args.name.now c.args.bytes.now (g.H.Host.told c.args.host.now) (g.H.Host.told c.write.new.self) (g.H.Host.told c.sync.new.self) c.in_ok-write.ensures.ok c.in_ok-sync.ensures.ok) c.in_err-rename.ensures.err) c.args.host.now c.sync.new.self c.rename.new.self kept c.rename.ensures.time in
    moved

pub returns-in_err-sync-clause-counts : goal.returns-in_err-sync-clause-counts
returns-in_err-sync-clause-counts g c =
    rises_on (g.H.Host.counts c.args.host.now) (g.H.Host.counts c.write.new.self) (g.H.Host.counts c.sync.new.self) (c.write.ensures.counts) c.sync.ensures.counts

pub returns-in_err-sync-clause-cause : goal.returns-in_err-sync-clause-cause
returns-in_err-sync-clause-cause g c =
    on_err c.from_residual-in_err-sync.result (rose_later (g.H.Host.counts c.args.host.now) (g.H.Host.counts c.write.new.self) (g.H.Host.counts c.sync.new.self) (c.write.ensures.counts) c.in_err-sync.ensures.cause)

pub returns-in_err-sync-clause-goes : goal.returns-in_err-sync-clause-goes
returns-in_err-sync-clause-goes g c =
    g.met.H.Host.continues c.args.host.now c.write.new.self c.sync.new.self (c.write.ensures.goes) c.sync.ensures.goes

pub returns-in_err-rename-clause-counts : goal.returns-in_err-rename-clause-counts
returns-in_err-rename-clause-counts g c =
    rises_on (g.H.Host.counts c.args.host.now) (g.H.Host.counts c.sync.new.self) (g.H.Host.counts c.rename.new.self) (rises_on (g.H.Host.counts c.args.host.now) (g.H.Host.counts c.write.new.self) (g.H.Host.counts c.sync.new.self) (c.write.ensures.counts) c.sync.ensures.counts) c.rename.ensures.counts

pub returns-in_err-rename-clause-cause : goal.returns-in_err-rename-clause-cause
returns-in_err-rename-clause-cause g c =
    on_err c.from_residual-in_err-rename.result (rose_later (g.H.Host.counts c.args.host.now) (g.H.Host.counts c.sync.new.self) (g.H.Host.counts c.rename.new.self) (rises_on (g.H.Host.counts c.args.host.now) (g.H.Host.counts c.write.new.self) (g.H.Host.counts c.sync.new.self) (c.write.ensures.counts) c.sync.ensures.counts) c.in_err-rename.ensures.cause)

pub returns-in_err-rename-clause-goes : goal.returns-in_err-rename-clause-goes
returns-in_err-rename-clause-goes g c =
    g.met.H.Host.continues c.args.host.now c.sync.new.self c.rename.new.self (g.met.H.Host.continues c.args.host.now c.write.new.self c.sync.new.self (c.write.ensures.goes) c.sync.ensures.goes) c.rename.ensures.goes

pub returns-in_err-settle-clause-err : goal.returns-in_err-settle-clause-err
returns-in_err-settle-clause-err g c =
    on_err c.from_residual-in_err-settle.result (subst (Changes (IsPutOrNot c.args.name.now c.args.bytes.now) (g.H.Host.told c.args.host.now)) (sym c.in_err-settle.ensures.err) (not_renamed c.args.name.now c.args.bytes.now (g.H.Host.told c.args.host.now) (g.H.Host.told c.sync.new.self) (g.H.Host.told c.rename.new.self) (is_synced c.args.name.now c.args.bytes.now (g.H.Host.told c.args.host.now) (g.H.Host.told c.write.new.self) (g.H.Host.told c.sync.new.self) c.in_ok-write.ensures.ok c.in_ok-sync.ensures.ok) (inl c.in_ok-rename.ensures.ok)))

pub returns-in_err-settle-clause-any_moment : goal.returns-in_err-settle-clause-any_moment
returns-in_err-settle-clause-any_moment g c =
    let at_start = begins g.H.Host.moment g.H.Host.left_since (IsPutOrNot c.args.name.now c.args.bytes.now) (not_yet c.args.name.now c.args.bytes.now) (g.H.Host.told c.args.host.now) c.requires.ready c.args.host.now (λ left since. g.met.H.Host.only_now c.args.host.now left since) in
    let written = goes_on g.H.Host.moment g.H.Host.left_since (IsPutOrNot c.args.name.now c.args.bytes.now) (g.H.Host.told c.args.host.now) (g.H.Host.told c.write.new.self) (wrote c.args.name.now c.args.bytes.now (g.H.Host.told c.args.host.now) (g.H.Host.told c.write.new.self) (Some c.args.bytes.now) c.in_ok-write.ensures.ok) c.args.host.now c.args.host.now c.write.new.self at_start c.write.ensures.time in
    let kept = goes_on g.H.Host.moment g.H.Host.left_since (IsPutOrNot c.args.name.now c.args.bytes.now) (g.H.Host.told c.args.host.now) (g.H.Host.told c.sync.new.self) (synced c.args.name.now c.args.bytes.now (g.H.Host.told c.args.host.now) (g.H.Host.told c.sync.new.self) (is_synced c.args.name.now c.args.bytes.now (g.H.Host.told c.args.host.now) (g.H.Host.told c.write.new.self) (g.H.Host.told c.sync.new.self) c.in_ok-write.ensures.ok c.in_ok-sync.ensures.ok)) c.args.host.now c.write.new.self c.sync.new.self written c.sync.ensures.time in
    let named = goes_on g.H.Host.moment g.H.Host.left_since (IsPutOrNot c.args.name.now c.args.bytes.now) (g.H.Host.told c.args.host.now) (g.H.Host.told c.rename.new.self) (not_renamed c.args.name.now c.args.bytes.now (g.H.Host.told c.args.host.now) (g.H.Host.told c.sync.new.self) (g.H.Host.told c.rename.new.self) (is_synced c.args.name.now c.args.bytes.now (g.H.Host.told c.args.host.now) (g.H.Host.told c.write.new.self) (g.H.Host.told c.sync.new.self) c.in_ok-write.ensures.ok c.in_ok-sync.ensures.ok) (inl c.in_ok-rename.ensures.ok)) c.args.host.now c.sync.new.self c.rename.new.self kept c.rename.ensures.time in
    let settled = goes_on g.H.Host.moment g.H.Host.left_since (IsPutOrNot c.args.name.now c.args.bytes.now) (g.H.Host.told c.args.host.now) (g.H.Host.told c.settle.new.self) (subst (Changes (IsPutOrNot c.args.name.now c.args.bytes.now) (g.H.Host.told c.args.host.now)) (sym c.in_err-settle.ensures.err) (not_renamed c.args.name.now c.args.bytes.now (g.H.Host.told c.args.host.now) (g.H.Host.told c.sync.new.self) (g.H.Host.told c.rename.new.self) (is_synced c.args.name.now c.args.bytes.now (g.H.Host.told c.args.host.now) (g.H.Host.told c.write.new.self) (g.H.Host.told c.sync.new.self) c.in_ok-write.ensures.ok c.in_ok-sync.ensures.ok) (inl c.in_ok-rename.ensures.ok))) c.args.host.now c.rename.new.self c.settle.new.self named c.settle.ensures.time in
    settled

pub returns-in_err-settle-clause-counts : goal.returns-in_err-settle-clause-counts
returns-in_err-settle-clause-counts g c =
    rises_on (g.H.Host.counts c.args.host.now) (g.H.Host.counts c.rename.new.self) (g.H.Host.counts c.settle.new.self) (rises_on (g.H.Host.counts c.args.host.now) (g.H.Host.counts c.sync.new.self) (g.H.Host.counts c.rename.new.self) (rises_on (g.H.Host.counts c.args.host.now) (g.H.Host.counts c.write.new.self) (g.H.Host.counts c.sync.new.self) (c.write.ensures.counts) c.sync.ensures.counts) c.rename.ensures.counts) c.settle.ensures.counts

pub returns-in_err-settle-clause-cause : goal.returns-in_err-settle-clause-cause
returns-in_err-settle-clause-cause g c =
    on_err c.from_residual-in_err-settle.result (rose_later (g.H.Host.counts c.args.host.now) (g.H.Host.counts c.rename.new.self) (g.H.Host.counts c.settle.new.self) (rises_on (g.H.Host.counts c.args.host.now) (g.H.Host.counts c.sync.new.self) (g.H.Host.counts c.rename.new.self) (rises_on (g.H.Host.counts c.args.host.now) (g.H.Host.counts c.write.new.self) (g.H.Host.counts c.sync.new.self) (c.write.ensures.counts) c.sync.ensures.counts) c.rename.ensures.counts) c.in_err-settle.ensures.cause)

pub returns-in_err-settle-clause-goes : goal.returns-in_err-settle-clause-goes
returns-in_err-settle-clause-goes g c =
    g.met.H.Host.continues c.args.host.now c.rename.new.self c.settle.new.self (g.met.H.Host.continues c.args.host.now c.sync.new.self c.rename.new.self (g.met.H.Host.continues c.args.host.now c.write.new.self c.sync.new.self (c.write.ensures.goes) c.sync.ensures.goes) c.rename.ensures.goes) c.settle.ensures.goes

-- ---- the file is put
pub returns-clause-ok : goal.returns-clause-ok
returns-clause-ok g c =
    is_settled c.args.name.now c.args.bytes.now (g.H.Host.told c.args.host.now) (g.H.Host.told c.sync.new.self) (g.H.Host.told c.rename.new.self) (g.H.Host.told c.settle.new.self) (is_synced c.args.name.now c.args.bytes.now (g.H.Host.told c.args.host.now) (g.H.Host.told c.write.new.self) (g.H.Host.told c.sync.new.self) c.in_ok-write.ensures.ok c.in_ok-sync.ensures.ok) c.in_ok-rename.ensures.ok c.in_ok-settle.ensures.ok

pub returns-clause-any_moment : goal.returns-clause-any_moment
returns-clause-any_moment g c =
    let at_start = begins g.H.Host.moment g.H.Host.left_since (IsPutOrNot c.args.name.now c.args.bytes.now) (not_yet c.args.name.now c.args.bytes.now) (g.H.Host.told c.args.host.now) c.requires.ready c.args.host.now (λ left since. g.met.H.Host.only_now c.args.host.now left since) in
    let written = goes_on g.H.Host.moment g.H.Host.left_since (IsPutOrNot c.args.name.now c.args.bytes.now) (g.H.Host.told c.args.host.now) (g.H.Host.told c.write.new.self) (wrote c.args.name.now c.args.bytes.now (g.H.Host.told c.args.host.now) (g.H.Host.told c.write.new.self) (Some c.args.bytes.now) c.in_ok-write.ensures.ok) c.args.host.now c.args.host.now c.write.new.self at_start c.write.ensures.time in
    let kept = goes_on g.H.Host.moment g.H.Host.left_since (IsPutOrNot c.args.name.now c.args.bytes.now) (g.H.Host.told c.args.host.now) (g.H.Host.told c.sync.new.self) (synced c.args.name.now c.args.bytes.now (g.H.Host.told c.args.host.now) (g.H.Host.told c.sync.new.self) (is_synced c.args.name.now c.args.bytes.now (g.H.Host.told c.args.host.now) (g.H.Host.told c.write.new.self) (g.H.Host.told c.sync.new.self) c.in_ok-write.ensures.ok c.in_ok-sync.ensures.ok)) c.args.host.now c.write.new.self c.sync.new.self written c.sync.ensures.time in
    let named = goes_on g.H.Host.moment g.H.Host.left_since (IsPutOrNot c.args.name.now c.args.bytes.now) (g.H.Host.told c.args.host.now) (g.H.Host.told c.rename.new.self) (not_renamed c.args.name.now c.args.bytes.now (g.H.Host.told c.args.host.now) (g.H.Host.told c.sync.new.self) (g.H.Host.told c.rename.new.self) (is_synced c.args.name.now c.args.bytes.now (g.H.Host.told c.args.host.now) (g.H.Host.told c.write.new.self) (g.H.Host.told c.sync.new.self) c.in_ok-write.ensures.ok c.in_ok-sync.ensures.ok) (inl c.in_ok-rename.ensures.ok)) c.args.host.now c.sync.new.self c.rename.new.self kept c.rename.ensures.time in
    let settled = goes_on g.H.Host.moment g.H.Host.left_since (IsPutOrNot c.args.name.now c.args.bytes.now) (g.H.Host.told c.args.host.now) (g.H.Host.told c.settle.new.self) (settles c.args.name.now c.args.bytes.now (g.H.Host.told c.args.host.now) (g.H.Host.told c.settle.new.self) (is_settled c.args.name.now c.args.bytes.now (g.H.Host.told c.args.host.now) (g.H.Host.told c.sync.new.self) (g.H.Host.told c.rename.new.self) (g.H.Host.told c.settle.new.self) (is_synced c.args.name.now c.args.bytes.now (g.H.Host.told c.args.host.now) (g.H.Host.told c.write.new.self) (g.H.Host.told c.sync.new.self) c.in_ok-write.ensures.ok c.in_ok-sync.ensures.ok) c.in_ok-rename.ensures.ok c.in_ok-settle.ensures.ok)) c.args.host.now c.rename.new.self c.settle.new.self named c.settle.ensures.time in
    settled

pub returns-clause-counts : goal.returns-clause-counts
returns-clause-counts g c =
    rises_on (g.H.Host.counts c.args.host.now) (g.H.Host.counts c.rename.new.self) (g.H.Host.counts c.settle.new.self) (rises_on (g.H.Host.counts c.args.host.now) (g.H.Host.counts c.sync.new.self) (g.H.Host.counts c.rename.new.self) (rises_on (g.H.Host.counts c.args.host.now) (g.H.Host.counts c.write.new.self) (g.H.Host.counts c.sync.new.self) (c.write.ensures.counts) c.sync.ensures.counts) c.rename.ensures.counts) c.settle.ensures.counts

pub returns-clause-goes : goal.returns-clause-goes
returns-clause-goes g c =
    g.met.H.Host.continues c.args.host.now c.rename.new.self c.settle.new.self (g.met.H.Host.continues c.args.host.now c.sync.new.self c.rename.new.self (g.met.H.Host.continues c.args.host.now c.write.new.self c.sync.new.self (c.write.ensures.goes) c.sync.ensures.goes) c.rename.ensures.goes) c.settle.ensures.goes
