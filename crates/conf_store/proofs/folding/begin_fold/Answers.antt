use Rattle.conf_store.specs.Files.{folded_file}
use Rattle.conf_store.specs.Folds.{KeepsStored}
use Rattle.conf_store.specs.Puts.{IsPutOrNot}
use Rattle.conf_store.proofs.Counting.{on_err, stays}
use Rattle.conf_store.proofs.FoldStages.{put_begins, put_keeps, there_begins}
use Rattle.conf_store.proofs.Moments.{begins, changes_weaker, weakens}
use Rattle.conf_store.proofs.FoldResults.{keeps_itself}
use Rattle.conf_store.proofs.folding.begin_fold.Goals as goal

-- the folded file can't be put
pub returns-in_err-put_file-clause-err : goal.returns-in_err-put_file-clause-err
returns-in_err-put_file-clause-err g c =
    on_err c.from_residual.result (changes_weaker (IsPutOrNot folded_file c.args.bytes.now) KeepsStored (g.H.Host.told c.args.host.now) (g.H.Host.told c.put_file.new.host) (put_keeps c.args.stored.now c.args.bytes.now c.requires.bytes (g.H.Host.told c.args.host.now) c.requires.stands) c.in_err-put_file.ensures.err)

pub returns-in_err-put_file-clause-any_moment : goal.returns-in_err-put_file-clause-any_moment
returns-in_err-put_file-clause-any_moment g c =
    weakens g.H.Host.moment g.H.Host.left_since (IsPutOrNot folded_file c.args.bytes.now) KeepsStored (g.H.Host.told c.args.host.now) (put_keeps c.args.stored.now c.args.bytes.now c.requires.bytes (g.H.Host.told c.args.host.now) c.requires.stands) c.args.host.now c.put_file.new.host c.put_file.ensures.any_moment

-- it is put
pub returns-clause-any_moment : goal.returns-clause-any_moment
returns-clause-any_moment g c =
    weakens g.H.Host.moment g.H.Host.left_since (IsPutOrNot folded_file c.args.bytes.now) KeepsStored (g.H.Host.told c.args.host.now) (put_keeps c.args.stored.now c.args.bytes.now c.requires.bytes (g.H.Host.told c.args.host.now) c.requires.stands) c.args.host.now c.put_file.new.host c.put_file.ensures.any_moment

pub returns-clause-ok : goal.returns-clause-ok
returns-clause-ok g c =
    put_begins c.args.stored.now c.args.bytes.now c.requires.bytes (g.H.Host.told c.args.host.now) (g.H.Host.told c.put_file.new.host) c.requires.stands c.if-there.false c.in_ok-put_file.ensures.ok

-- it is there
pub returns-then-there-clause-ok : goal.returns-then-there-clause-ok
returns-then-there-clause-ok g c = there_begins c.args.stored.now c.args.bytes.now c.requires.bytes (g.H.Host.told c.args.host.now) c.requires.ready c.requires.stands c.if-there.true

pub returns-then-there-clause-any_moment : goal.returns-then-there-clause-any_moment
returns-then-there-clause-any_moment g c =
    begins g.H.Host.moment g.H.Host.left_since KeepsStored keeps_itself (g.H.Host.told c.args.host.now) c.requires.ready c.args.host.now (λ left since. g.met.H.Host.only_now c.args.host.now left since)

pub returns-then-there-clause-counts : goal.returns-then-there-clause-counts
returns-then-there-clause-counts g c = stays (g.H.Host.counts c.args.host.now)

pub returns-then-there-clause-goes : goal.returns-then-there-clause-goes
returns-then-there-clause-goes g c = g.met.H.Host.begins c.args.host.now
