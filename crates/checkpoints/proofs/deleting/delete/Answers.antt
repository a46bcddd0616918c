use Rattle.std.proofs.Common.{inl, sym, ◌∙◌, subst, option_map, None, ◌≡◌}
use Rattle.std.proofs.lemmas.Result.{err_from_is_err_and}
use Rattle.host_core.specs.State.{ListsOrNot, after_listing, with_file}
use Rattle.conf_store.specs.Changes.{Changes}
use Rattle.conf_store.specs.Reads.{OnlyReads}
use Rattle.checkpoints.specs.Changes.{IsDeleted, IsDeletedOrNot, LeavesOf, UnlessDisk}
use Rattle.checkpoints.proofs.FileChanges.{deleted_or_not, deletes, lists, not_deleted}
use Rattle.checkpoints.proofs.Moments.{goes_on, leaves_unchanged, of_each_err, reads_on, settled_changes, unless_disk}
use Rattle.checkpoints.proofs.deleting.delete.Goals as goal

-- ---- where a call fails

pub returns-in_err-file-clause-early : goal.returns-in_err-file-clause-early
returns-in_err-file-clause-early g c =
    let reads = OnlyReads g.H.Host.told g.H.Host.counts g.H.Host.moment g.H.Host.left_since g.H.Host.goes_on c.args.host.now c.read_point.new.host in
    of_each_err (UnlessDisk reads) c.from_residual.result (unless_disk reads c.read_point.ensures.reads)

pub returns-in_err-file-clause-err : goal.returns-in_err-file-clause-err
returns-in_err-file-clause-err g c =
    of_each_err (LeavesOf (IsDeletedOrNot c.args.name.now) (g.H.Host.told c.args.host.now) (g.H.Host.told c.read_point.new.host)) c.from_residual.result
    (λ e. leaves_unchanged (IsDeletedOrNot c.args.name.now) (not_deleted c.args.name.now) (g.H.Host.told c.args.host.now) (g.H.Host.told c.read_point.new.host) c.requires.ready c.read_point.ensures.reads.state e)

pub returns-in_err-remove-clause-err : goal.returns-in_err-remove-clause-err
returns-in_err-remove-clause-err g c =
    let p = err_from_is_err_and c.from_residual-in_err-remove.result c.from_residual-in_err-remove.ensures.1 in
    let is = c.as_str.ensures.text ∙ c.in_ok-file.ensures.file in
    rw (p.1, p.2)
    (lists c.args.name.now c.in_ok-file.ensures.named (g.H.Host.told c.args.host.now) (g.H.Host.told c.read_point.new.host) (g.H.Host.told c.remove.new.self) c.read_point.ensures.reads.state
    (subst (λ q. ListsOrNot (with_file q None) (g.H.Host.told c.read_point.new.host) (g.H.Host.told c.remove.new.self)) is c.in_err-remove.ensures.err))

pub returns-in_err-remove-clause-any_moment : goal.returns-in_err-remove-clause-any_moment
returns-in_err-remove-clause-any_moment g c =
    let is = c.as_str.ensures.text ∙ c.in_ok-file.ensures.file in
    let read = reads_on g.H.Host.moment g.H.Host.left_since (IsDeletedOrNot c.args.name.now) (not_deleted c.args.name.now) (g.H.Host.told c.args.host.now) c.requires.ready c.args.host.now c.read_point.new.host (λ left since. g.met.H.Host.only_now c.args.host.now left since) c.read_point.ensures.reads.time in
    goes_on g.H.Host.moment g.H.Host.left_since (IsDeletedOrNot c.args.name.now) (not_deleted c.args.name.now) (g.H.Host.told c.args.host.now) (g.H.Host.told c.remove.new.self)
    (lists c.args.name.now c.in_ok-file.ensures.named (g.H.Host.told c.args.host.now) (g.H.Host.told c.read_point.new.host) (g.H.Host.told c.remove.new.self) c.read_point.ensures.reads.state
    (subst (λ q. ListsOrNot (with_file q None) (g.H.Host.told c.read_point.new.host) (g.H.Host.told c.remove.new.self)) is c.in_err-remove.ensures.err))
    c.args.host.now c.read_point.new.host c.remove.new.self read c.remove.ensures.time

pub returns-in_err-settle-clause-err : goal.returns-in_err-settle-clause-err
returns-in_err-settle-clause-err g c =
    let p = err_from_is_err_and c.from_residual-in_err-settle.result c.from_residual-in_err-settle.ensures.1 in
    let is = c.as_str.ensures.text ∙ c.in_ok-file.ensures.file in
    rw (p.1, p.2)
    (subst (Changes (IsDeletedOrNot c.args.name.now) (g.H.Host.told c.args.host.now)) (sym c.in_err-settle.ensures.err)
    (lists c.args.name.now c.in_ok-file.ensures.named (g.H.Host.told c.args.host.now) (g.H.Host.told c.read_point.new.host) (g.H.Host.told c.remove.new.self) c.read_point.ensures.reads.state
    (inl (subst (λ q. g.H.Host.told c.remove.new.self ≡ option_map (after_listing (with_file q None)) (g.H.Host.told c.read_point.new.host)) is c.in_ok-remove.ensures.ok))))

pub returns-in_err-settle-clause-any_moment : goal.returns-in_err-settle-clause-any_moment
returns-in_err-settle-clause-any_moment g c =
    let is = c.as_str.ensures.text ∙ c.in_ok-file.ensures.file in
    let read = reads_on g.H.Host.moment g.H.Host.left_since (IsDeletedOrNot c.args.name.now) (not_deleted c.args.name.now) (g.H.Host.told c.args.host.now) c.requires.ready c.args.host.now c.read_point.new.host (λ left since. g.met.H.Host.only_now c.args.host.now left since) c.read_point.ensures.reads.time in
    let changes = lists c.args.name.now c.in_ok-file.ensures.named (g.H.Host.told c.args.host.now) (g.H.Host.told c.read_point.new.host) (g.H.Host.told c.remove.new.self) c.read_point.ensures.reads.state
    (inl (subst (λ q. g.H.Host.told c.remove.new.self ≡ option_map (after_listing (with_file q None)) (g.H.Host.told c.read_point.new.host)) is c.in_ok-remove.ensures.ok)) in
    let removed = goes_on g.H.Host.moment g.H.Host.left_since (IsDeletedOrNot c.args.name.now) (not_deleted c.args.name.now) (g.H.Host.told c.args.host.now) (g.H.Host.told c.remove.new.self) changes
    c.args.host.now c.read_point.new.host c.remove.new.self read c.remove.ensures.time in
    goes_on g.H.Host.moment g.H.Host.left_since (IsDeletedOrNot c.args.name.now) (not_deleted c.args.name.now) (g.H.Host.told c.args.host.now) (g.H.Host.told c.settle.new.self)
    (subst (Changes (IsDeletedOrNot c.args.name.now) (g.H.Host.told c.args.host.now)) (sym c.in_err-settle.ensures.err) changes)
    c.args.host.now c.remove.new.self c.settle.new.self removed c.settle.ensures.time

-- ---- once it is deleted

pub returns-clause-ok : goal.returns-clause-ok
returns-clause-ok g c =
    let is = c.as_str.ensures.text ∙ c.in_ok-file.ensures.file in
    deletes c.args.name.now c.in_ok-file.ensures.named (g.H.Host.told c.args.host.now) (g.H.Host.told c.read_point.new.host) (g.H.Host.told c.remove.new.self) (g.H.Host.told c.settle.new.self) c.read_point.ensures.reads.state
    (subst (λ q. g.H.Host.told c.remove.new.self ≡ option_map (after_listing (with_file q None)) (g.H.Host.told c.read_point.new.host)) is c.in_ok-remove.ensures.ok) c.in_ok-settle.ensures.ok

pub returns-clause-any_moment : goal.returns-clause-any_moment
returns-clause-any_moment g c =
    let is = c.as_str.ensures.text ∙ c.in_ok-file.ensures.file in
    let read = reads_on g.H.Host.moment g.H.Host.left_since (IsDeletedOrNot c.args.name.now) (not_deleted c.args.name.now) (g.H.Host.told c.args.host.now) c.requires.ready c.args.host.now c.read_point.new.host (λ left since. g.met.H.Host.only_now c.args.host.now left since) c.read_point.ensures.reads.time in
    let done = subst (λ q. g.H.Host.told c.remove.new.self ≡ option_map (after_listing (with_file q None)) (g.H.Host.told c.read_point.new.host)) is c.in_ok-remove.ensures.ok in
    let removed = goes_on g.H.Host.moment g.H.Host.left_since (IsDeletedOrNot c.args.name.now) (not_deleted c.args.name.now) (g.H.Host.told c.args.host.now) (g.H.Host.told c.remove.new.self)
    (lists c.args.name.now c.in_ok-file.ensures.named (g.H.Host.told c.args.host.now) (g.H.Host.told c.read_point.new.host) (g.H.Host.told c.remove.new.self) c.read_point.ensures.reads.state (inl done))
    c.args.host.now c.read_point.new.host c.remove.new.self read c.remove.ensures.time in
    goes_on g.H.Host.moment g.H.Host.left_since (IsDeletedOrNot c.args.name.now) (not_deleted c.args.name.now) (g.H.Host.told c.args.host.now) (g.H.Host.told c.settle.new.self)
    (settled_changes (IsDeleted c.args.name.now) (IsDeletedOrNot c.args.name.now) (deleted_or_not c.args.name.now c.in_ok-file.ensures.named) (g.H.Host.told c.args.host.now) (g.H.Host.told c.settle.new.self)
    (deletes c.args.name.now c.in_ok-file.ensures.named (g.H.Host.told c.args.host.now) (g.H.Host.told c.read_point.new.host) (g.H.Host.told c.remove.new.self) (g.H.Host.told c.settle.new.self) c.read_point.ensures.reads.state done c.in_ok-settle.ensures.ok))
    c.args.host.now c.remove.new.self c.settle.new.self removed c.settle.ensures.time
