-- A migration done or stopped, and the last line.
use Rattle.std.proofs.Common.{refl, sym, subst, List, ℕ}
use Rattle.gcu_output.specs.Lines.{last_line}
use Rattle.gcu_output.specs.declared.outcomes.Outcome.TheVariants.{Done, DiskFault}
use Rattle.writing_commands.proofs.ChangeEnds.{disk_printed}
use Rattle.writing_commands.proofs.MigrationEnding.{IsLastIn, all_last, cut_in_line, ends_left, ends_migration, stopped_last}
use Rattle.writing_commands.proofs.migrating.do_migration.Goals as goal

-- ---- all is done

pub returns-in-Ok-clause-answers : goal.returns-in-Ok-clause-answers
returns-in-Ok-clause-answers g c =
    ends_migration c.args.ready.now.migration (g.H.Host.told c.args.host.now) (g.H.Host.told c.migrate.new.host)
    (g.H.Host.told c.end.new.host)
    (g.H.Host.counts c.args.host.now) (g.H.Host.counts c.migrate.new.host) (g.H.Host.counts c.end.new.host) Done
    c.end.result (last_line Done) c.len.result
    c.len.ensures (all_last c.args.ready.now.migration (g.H.Host.told c.args.host.now)
    (g.H.Host.told c.migrate.new.host) c.in-Ok.ensures.ok) tt c.end.ensures.ended

pub returns-in-Ok-clause-any_moment : goal.returns-in-Ok-clause-any_moment
returns-in-Ok-clause-any_moment g c =
    ends_left g.H.Host.moment g.H.Host.left_since c.args.ready.now.migration (g.H.Host.told c.args.host.now)
    (g.H.Host.told c.migrate.new.host) Done (last_line Done)
    c.args.host.now c.migrate.new.host c.end.new.host
    (all_last c.args.ready.now.migration (g.H.Host.told c.args.host.now) (g.H.Host.told c.migrate.new.host)
    c.in-Ok.ensures.ok)
    (λ left later may. g.met.H.Host.counts_now c.migrate.new.host (g.H.Host.moment c.args.host.now) left later may)
    c.migrate.ensures.any_moment c.end.ensures.time

-- ---- a fault of the disk

pub returns-in-Err-Disk-clause-answers : goal.returns-in-Err-Disk-clause-answers
returns-in-Err-Disk-clause-answers g c =
    let k = c.in-Err-Disk.step in
    let stops = rw c.in-Err-Disk.field-0-is at c.in-Err-Disk.ensures.err in
    let cause = rw c.in-Err-Disk.field-0-is at c.in-Err-Disk.ensures.cause in
    ends_migration c.args.ready.now.migration (g.H.Host.told c.args.host.now) (g.H.Host.told c.migrate.new.host)
    (g.H.Host.told c.end-in-Err-Disk.new.host)
    (g.H.Host.counts c.args.host.now) (g.H.Host.counts c.migrate.new.host) (g.H.Host.counts c.end-in-Err-Disk.new.host)
    (DiskFault k) c.end-in-Err-Disk.result c.fault_line-line.result.now k
    refl
    (subst (λ (t : List ℕ). IsLastIn c.args.ready.now.migration (g.H.Host.told c.args.host.now)
    (g.H.Host.told c.migrate.new.host) (DiskFault k) t) (sym c.fault_line-line.ensures)
    (stopped_last c.args.ready.now c.requires.lines (g.H.Host.told c.args.host.now) (g.H.Host.told c.migrate.new.host)
    k stops))
    (disk_printed (g.H.Host.counts c.args.host.now) (g.H.Host.counts c.migrate.new.host)
    (g.H.Host.counts c.end-in-Err-Disk.new.host) c.end-in-Err-Disk.ensures.counts cause)
    c.end-in-Err-Disk.ensures.ended

pub returns-in-Err-Disk-clause-any_moment : goal.returns-in-Err-Disk-clause-any_moment
returns-in-Err-Disk-clause-any_moment g c =
    let k = c.in-Err-Disk.step in
    let stops = rw c.in-Err-Disk.field-0-is at c.in-Err-Disk.ensures.err in
    ends_left g.H.Host.moment g.H.Host.left_since c.args.ready.now.migration (g.H.Host.told c.args.host.now)
    (g.H.Host.told c.migrate.new.host) (DiskFault k) c.fault_line-line.result.now
    c.args.host.now c.migrate.new.host c.end-in-Err-Disk.new.host
    (subst (λ (t : List ℕ). IsLastIn c.args.ready.now.migration (g.H.Host.told c.args.host.now)
    (g.H.Host.told c.migrate.new.host) (DiskFault k) t) (sym c.fault_line-line.ensures)
    (stopped_last c.args.ready.now c.requires.lines (g.H.Host.told c.args.host.now) (g.H.Host.told c.migrate.new.host)
    k stops))
    (λ left later may. g.met.H.Host.counts_now c.migrate.new.host (g.H.Host.moment c.args.host.now) left later may)
    c.migrate.ensures.any_moment c.end-in-Err-Disk.ensures.time

-- ---- a print fault

pub returns-in-Err-Print-clause-answers : goal.returns-in-Err-Print-clause-answers
returns-in-Err-Print-clause-answers g c =
    let stops = rw c.in-Err-Print.field-0-is at c.in-Err-Print.ensures.err in
    cut_in_line c.args.ready.now.migration (g.H.Host.told c.args.host.now) (g.H.Host.told c.migrate.new.host)
    (g.H.Host.counts c.args.host.now) (g.H.Host.counts c.migrate.new.host) c.in-Err-Print.step stops
