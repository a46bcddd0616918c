use Rattle.std.proofs.Common.{◌≡◌, ◌∙◌, option_map, subst}
use Rattle.std.proofs.lemmas.Result.{err_from_is_err_and}
use Rattle.conf_store.specs.Changes.{Changes}
use Rattle.conf_store.specs.Reads.{OnlyReads}
use Rattle.conf_store.specs.Puts.{IsPutOrNot, after_put}
use Rattle.checkpoints.specs.Changes.{IsSavedOrNot, LeavesOf, UnlessDisk}
use Rattle.checkpoints.specs.Names.{point_file}
use Rattle.checkpoints.proofs.FileChanges.{not_saved, saved_told, saves}
use Rattle.checkpoints.proofs.Moments.{AtAnyMoment, changes_on, changes_weaker, leaves_unchanged, of_each_err, reads_on, unless_disk}
use Rattle.checkpoints.proofs.saving.save.Goals as goal

-- ---- where a call fails

pub returns-in_err-file-clause-early : goal.returns-in_err-file-clause-early
returns-in_err-file-clause-early g c =
    let reads = OnlyReads g.H.Host.told g.H.Host.counts g.H.Host.moment g.H.Host.left_since g.H.Host.goes_on c.args.host.now c.prepare_point.new.host in
    of_each_err (UnlessDisk reads) c.from_residual.result (unless_disk reads c.prepare_point.ensures.reads)

pub returns-in_err-file-clause-err : goal.returns-in_err-file-clause-err
returns-in_err-file-clause-err g c =
    of_each_err (LeavesOf (IsSavedOrNot c.args.name.now c.args.config.now) (g.H.Host.told c.args.host.now) (g.H.Host.told c.prepare_point.new.host)) c.from_residual.result
    (λ e. leaves_unchanged (IsSavedOrNot c.args.name.now c.args.config.now) (not_saved c.args.name.now c.args.config.now) (g.H.Host.told c.args.host.now) (g.H.Host.told c.prepare_point.new.host) c.requires.ready c.prepare_point.ensures.reads.state e)

pub returns-in_err-put_file-clause-err : goal.returns-in_err-put_file-clause-err
returns-in_err-put_file-clause-err g c =
    let name = c.args.name.now in
    let config = c.args.config.now in
    let good = c.in_ok-file.ensures.named in
    let bytes = c.in_ok-file.text.items in
    let before = g.H.Host.told c.args.host.now in
    let read = g.H.Host.told c.prepare_point.new.host in
    let named = c.as_str.ensures.text ∙ c.in_ok-file.ensures.file in
    let p = err_from_is_err_and c.from_residual-in_err-put_file.result c.from_residual-in_err-put_file.ensures.1 in
    let err = subst (λ b. Changes (IsPutOrNot (point_file name) b) read (g.H.Host.told c.put_file.new.host)) c.deref.ensures.value
    (subst (λ q. Changes (IsPutOrNot q c.deref.result.now) read (g.H.Host.told c.put_file.new.host)) named c.in_err-put_file.ensures.err) in
    rw (p.1, p.2)
    (changes_weaker (IsPutOrNot (point_file name) bytes) (IsSavedOrNot name config) before read (g.H.Host.told c.put_file.new.host)
    (saved_told name good config bytes before c.in_ok-file.ensures.text) c.prepare_point.ensures.reads.state err)

pub returns-in_err-put_file-clause-any_moment : goal.returns-in_err-put_file-clause-any_moment
returns-in_err-put_file-clause-any_moment g c =
    let name = c.args.name.now in
    let config = c.args.config.now in
    let good = c.in_ok-file.ensures.named in
    let bytes = c.in_ok-file.text.items in
    let before = g.H.Host.told c.args.host.now in
    let read = g.H.Host.told c.prepare_point.new.host in
    let named = c.as_str.ensures.text ∙ c.in_ok-file.ensures.file in
    let so_far = reads_on g.H.Host.moment g.H.Host.left_since (IsSavedOrNot name config) (not_saved name config) before c.requires.ready c.args.host.now c.prepare_point.new.host (λ left since. g.met.H.Host.only_now c.args.host.now left since) c.prepare_point.ensures.reads.time in
    let put = subst (λ b. AtAnyMoment g.H.Host.moment g.H.Host.left_since (IsPutOrNot (point_file name) b) read c.prepare_point.new.host c.put_file.new.host) c.deref.ensures.value
    (subst (λ q. AtAnyMoment g.H.Host.moment g.H.Host.left_since (IsPutOrNot q c.deref.result.now) read c.prepare_point.new.host c.put_file.new.host) named c.put_file.ensures.any_moment) in
    changes_on g.H.Host.moment g.H.Host.left_since (IsSavedOrNot name config) (not_saved name config) (IsPutOrNot (point_file name) bytes)
    before read (saved_told name good config bytes before c.in_ok-file.ensures.text) c.prepare_point.ensures.reads.state
    c.args.host.now c.prepare_point.new.host c.put_file.new.host so_far put

-- ---- once it is saved

pub returns-clause-ok : goal.returns-clause-ok
returns-clause-ok g c =
    let name = c.args.name.now in
    let config = c.args.config.now in
    let good = c.in_ok-file.ensures.named in
    let bytes = c.in_ok-file.text.items in
    let before = g.H.Host.told c.args.host.now in
    let read = g.H.Host.told c.prepare_point.new.host in
    let named = c.as_str.ensures.text ∙ c.in_ok-file.ensures.file in
    let ok = subst (λ b. g.H.Host.told c.put_file.new.host ≡ option_map (after_put (point_file name) b) read) c.deref.ensures.value
    (subst (λ q. g.H.Host.told c.put_file.new.host ≡ option_map (after_put q c.deref.result.now) read) named c.in_ok-put_file.ensures.ok) in
    saves name good config bytes before read (g.H.Host.told c.put_file.new.host) c.prepare_point.ensures.reads.state c.in_ok-file.ensures.text ok

pub returns-clause-any_moment : goal.returns-clause-any_moment
returns-clause-any_moment g c =
    let name = c.args.name.now in
    let config = c.args.config.now in
    let good = c.in_ok-file.ensures.named in
    let bytes = c.in_ok-file.text.items in
    let before = g.H.Host.told c.args.host.now in
    let read = g.H.Host.told c.prepare_point.new.host in
    let named = c.as_str.ensures.text ∙ c.in_ok-file.ensures.file in
    let so_far = reads_on g.H.Host.moment g.H.Host.left_since (IsSavedOrNot name config) (not_saved name config) before c.requires.ready c.args.host.now c.prepare_point.new.host (λ left since. g.met.H.Host.only_now c.args.host.now left since) c.prepare_point.ensures.reads.time in
    let put = subst (λ b. AtAnyMoment g.H.Host.moment g.H.Host.left_since (IsPutOrNot (point_file name) b) read c.prepare_point.new.host c.put_file.new.host) c.deref.ensures.value
    (subst (λ q. AtAnyMoment g.H.Host.moment g.H.Host.left_since (IsPutOrNot q c.deref.result.now) read c.prepare_point.new.host c.put_file.new.host) named c.put_file.ensures.any_moment) in
    changes_on g.H.Host.moment g.H.Host.left_since (IsSavedOrNot name config) (not_saved name config) (IsPutOrNot (point_file name) bytes)
    before read (saved_told name good config bytes before c.in_ok-file.ensures.text) c.prepare_point.ensures.reads.state
    c.args.host.now c.prepare_point.new.host c.put_file.new.host so_far put
