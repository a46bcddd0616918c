use Rattle.conf_store.specs.Puts.{IsPutOrNot}
use Rattle.conf_store.specs.Steps.{IsStepPutOrNot}
use Rattle.conf_store.proofs.Counting.{on_err}
use Rattle.conf_store.proofs.Moments.{changes_weaker, weakens}
use Rattle.conf_store.proofs.Stepping.{puts, puts_or_not}
use Rattle.conf_store.proofs.putting_steps.put_step.Goals as goal

-- the step file can't be put
pub returns-in_err-put_file-clause-err : goal.returns-in_err-put_file-clause-err
returns-in_err-put_file-clause-err g c =
    on_err c.from_residual.result (changes_weaker (IsPutOrNot c.args.name.now c.args.bytes.now) (IsStepPutOrNot c.args.name.now c.args.bytes.now) (g.H.Host.told c.args.host.now) (g.H.Host.told c.put_file.new.host) (puts_or_not c.args.name.now c.args.bytes.now (g.H.Host.told c.args.host.now) c.requires.next) c.in_err-put_file.ensures.err)

pub returns-in_err-put_file-clause-any_moment : goal.returns-in_err-put_file-clause-any_moment
returns-in_err-put_file-clause-any_moment g c =
    weakens g.H.Host.moment g.H.Host.left_since (IsPutOrNot c.args.name.now c.args.bytes.now) (IsStepPutOrNot c.args.name.now c.args.bytes.now) (g.H.Host.told c.args.host.now) (puts_or_not c.args.name.now c.args.bytes.now (g.H.Host.told c.args.host.now) c.requires.next) c.args.host.now c.put_file.new.host c.put_file.ensures.any_moment

-- it is put
pub returns-clause-ok : goal.returns-clause-ok
returns-clause-ok g c =
    puts c.args.name.now c.args.bytes.now (g.H.Host.told c.args.host.now) (g.H.Host.told c.put_file.new.host) c.requires.next c.in_ok-put_file.ensures.ok

pub returns-clause-any_moment : goal.returns-clause-any_moment
returns-clause-any_moment g c =
    weakens g.H.Host.moment g.H.Host.left_since (IsPutOrNot c.args.name.now c.args.bytes.now) (IsStepPutOrNot c.args.name.now c.args.bytes.now) (g.H.Host.told c.args.host.now) (puts_or_not c.args.name.now c.args.bytes.now (g.H.Host.told c.args.host.now) c.requires.next) c.args.host.now c.put_file.new.host c.put_file.ensures.any_moment
