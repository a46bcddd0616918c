use Rattle.std.proofs.Common.{refl, sym, subst, List, ℕ}
use Rattle.gcu_output.specs.Lines.{last_line}
use Rattle.gcu_output.specs.declared.outcomes.Outcome.TheVariants.{Done, DiskFault, ServiceFault}
use Rattle.writing_commands.proofs.ChangeEnds.{disk_printed, service_printed}
use Rattle.scope_commands.proofs.ScopesEnding.{cut_in_work, ends_works, works_cut, works_left}
use Rattle.scope_commands.proofs.ScopesFaults.{IsLastIn, disk_last, done_last, service_last}
use Rattle.scope_commands.proofs.change_scopes.do_works.Goals as goal

-- ---- all is done

pub returns-in-Ok-clause-answers : goal.returns-in-Ok-clause-answers
returns-in-Ok-clause-answers g c =
    ends_works c.args.ready.now.changes (g.H.Host.told c.args.host.now) (g.H.Host.told c.run_scopes.new.host)
    (g.H.Host.told c.end.new.host)
    (g.H.Host.counts c.args.host.now) (g.H.Host.counts c.run_scopes.new.host) (g.H.Host.counts c.end.new.host) Done
    c.end.result (last_line Done) c.args.ready.now.steps
    c.requires.bytes.steps_are (done_last c.args.ready.now.changes (g.H.Host.told c.args.host.now)
    (g.H.Host.told c.run_scopes.new.host) c.requires.closed c.in-Ok.ensures.ok) tt
    c.end.ensures.ended

pub returns-in-Ok-clause-any_moment : goal.returns-in-Ok-clause-any_moment
returns-in-Ok-clause-any_moment g c =
    works_left g.H.Host.moment g.H.Host.left_since c.args.ready.now.changes (g.H.Host.told c.args.host.now)
    (g.H.Host.told c.run_scopes.new.host) Done (last_line Done)
    c.args.host.now c.run_scopes.new.host c.end.new.host
    (done_last c.args.ready.now.changes (g.H.Host.told c.args.host.now) (g.H.Host.told c.run_scopes.new.host)
    c.requires.closed c.in-Ok.ensures.ok)
    (λ left later may. g.met.H.Host.counts_now c.run_scopes.new.host (g.H.Host.moment c.args.host.now) left later may)
    c.run_scopes.ensures.any_moment c.end.ensures.time

-- ---- a fault of the disk

pub returns-in-Err-Disk-clause-answers : goal.returns-in-Err-Disk-clause-answers
returns-in-Err-Disk-clause-answers g c =
    let k = c.in-Err-Disk.step in
    let stops = rw c.in-Err-Disk.field-0-is at c.in-Err-Disk.ensures.err in
    let cause = rw c.in-Err-Disk.field-0-is at c.in-Err-Disk.ensures.cause in
    ends_works c.args.ready.now.changes (g.H.Host.told c.args.host.now) (g.H.Host.told c.run_scopes.new.host)
    (g.H.Host.told c.end-in-Err-Disk.new.host)
    (g.H.Host.counts c.args.host.now) (g.H.Host.counts c.run_scopes.new.host)
    (g.H.Host.counts c.end-in-Err-Disk.new.host) (DiskFault k) c.end-in-Err-Disk.result c.disk_line-line.result.now k
    refl
    (subst (λ (t : List ℕ). IsLastIn c.args.ready.now.changes (g.H.Host.told c.args.host.now)
    (g.H.Host.told c.run_scopes.new.host) (DiskFault k) t) (sym c.disk_line-line.ensures)
    (disk_last c.args.ready.now c.requires.bytes (g.H.Host.told c.args.host.now) (g.H.Host.told c.run_scopes.new.host)
    k stops))
    (disk_printed (g.H.Host.counts c.args.host.now) (g.H.Host.counts c.run_scopes.new.host)
    (g.H.Host.counts c.end-in-Err-Disk.new.host) c.end-in-Err-Disk.ensures.counts cause)
    c.end-in-Err-Disk.ensures.ended

pub returns-in-Err-Disk-clause-any_moment : goal.returns-in-Err-Disk-clause-any_moment
returns-in-Err-Disk-clause-any_moment g c =
    let k = c.in-Err-Disk.step in
    let stops = rw c.in-Err-Disk.field-0-is at c.in-Err-Disk.ensures.err in
    works_left g.H.Host.moment g.H.Host.left_since c.args.ready.now.changes (g.H.Host.told c.args.host.now)
    (g.H.Host.told c.run_scopes.new.host) (DiskFault k) c.disk_line-line.result.now
    c.args.host.now c.run_scopes.new.host c.end-in-Err-Disk.new.host
    (subst (λ (t : List ℕ). IsLastIn c.args.ready.now.changes (g.H.Host.told c.args.host.now)
    (g.H.Host.told c.run_scopes.new.host) (DiskFault k) t) (sym c.disk_line-line.ensures)
    (disk_last c.args.ready.now c.requires.bytes (g.H.Host.told c.args.host.now) (g.H.Host.told c.run_scopes.new.host)
    k stops))
    (λ left later may. g.met.H.Host.counts_now c.run_scopes.new.host (g.H.Host.moment c.args.host.now) left later may)
    c.run_scopes.ensures.any_moment c.end-in-Err-Disk.ensures.time

-- ---- a fault of a service

pub returns-in-Err-Service-clause-answers : goal.returns-in-Err-Service-clause-answers
returns-in-Err-Service-clause-answers g c =
    let k = c.in-Err-Service.step in
    let service = c.in-Err-Service.service in
    let stops = rw c.in-Err-Service.field-0-is at c.in-Err-Service.ensures.err in
    let cause = rw c.in-Err-Service.field-0-is at c.in-Err-Service.ensures.cause in
    ends_works c.args.ready.now.changes (g.H.Host.told c.args.host.now) (g.H.Host.told c.run_scopes.new.host)
    (g.H.Host.told c.end-in-Err-Service.new.host)
    (g.H.Host.counts c.args.host.now) (g.H.Host.counts c.run_scopes.new.host)
    (g.H.Host.counts c.end-in-Err-Service.new.host) (ServiceFault k service)
    c.end-in-Err-Service.result c.service_line-line.result.now k
    refl
    (subst (λ (t : List ℕ). IsLastIn c.args.ready.now.changes (g.H.Host.told c.args.host.now)
    (g.H.Host.told c.run_scopes.new.host) (ServiceFault k service) t) (sym c.service_line-line.ensures)
    (service_last c.args.ready.now c.requires.bytes (g.H.Host.told c.args.host.now)
    (g.H.Host.told c.run_scopes.new.host) k service stops))
    (service_printed (g.H.Host.counts c.args.host.now) (g.H.Host.counts c.run_scopes.new.host)
    (g.H.Host.counts c.end-in-Err-Service.new.host) c.end-in-Err-Service.ensures.counts cause)
    c.end-in-Err-Service.ensures.ended

pub returns-in-Err-Service-clause-any_moment : goal.returns-in-Err-Service-clause-any_moment
returns-in-Err-Service-clause-any_moment g c =
    let k = c.in-Err-Service.step in
    let service = c.in-Err-Service.service in
    let stops = rw c.in-Err-Service.field-0-is at c.in-Err-Service.ensures.err in
    works_left g.H.Host.moment g.H.Host.left_since c.args.ready.now.changes (g.H.Host.told c.args.host.now)
    (g.H.Host.told c.run_scopes.new.host) (ServiceFault k service) c.service_line-line.result.now
    c.args.host.now c.run_scopes.new.host c.end-in-Err-Service.new.host
    (subst (λ (t : List ℕ). IsLastIn c.args.ready.now.changes (g.H.Host.told c.args.host.now)
    (g.H.Host.told c.run_scopes.new.host) (ServiceFault k service) t) (sym c.service_line-line.ensures)
    (service_last c.args.ready.now c.requires.bytes (g.H.Host.told c.args.host.now)
    (g.H.Host.told c.run_scopes.new.host) k service stops))
    (λ left later may. g.met.H.Host.counts_now c.run_scopes.new.host (g.H.Host.moment c.args.host.now) left later may)
    c.run_scopes.ensures.any_moment c.end-in-Err-Service.ensures.time

-- ---- a print fault

pub returns-in-Err-Print-clause-answers : goal.returns-in-Err-Print-clause-answers
returns-in-Err-Print-clause-answers g c =
    let stops = rw c.in-Err-Print.field-0-is at c.in-Err-Print.ensures.err in
    cut_in_work c.args.ready.now.changes (g.H.Host.told c.args.host.now) (g.H.Host.told c.run_scopes.new.host)
    (g.H.Host.counts c.args.host.now) (g.H.Host.counts c.run_scopes.new.host) c.in-Err-Print.step stops

pub returns-in-Err-Print-clause-any_moment : goal.returns-in-Err-Print-clause-any_moment
returns-in-Err-Print-clause-any_moment g c =
    works_cut g.H.Host.moment g.H.Host.left_since c.args.ready.now.changes (g.H.Host.told c.args.host.now)
    c.args.host.now c.run_scopes.new.host c.run_scopes.ensures.any_moment
