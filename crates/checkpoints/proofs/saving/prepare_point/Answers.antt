use Rattle.std.proofs.Common.{List, ℕ, Vec, Global, Option, IfSome, subst}
use Rattle.host_core.specs.State.{State}
use Rattle.checkpoints.specs.Reads.{IsNextText}
use Rattle.checkpoints.specs.declared.errors.PointError.TheVariants.{Disk}
use Rattle.std.proofs.lemmas.Result.{err_from_is_err_and}
use Rattle.checkpoints.proofs.Counting.{err_too, rose_later}
use Rattle.checkpoints.proofs.NumberListings.{of_numbering, saves_not, saves_there}
use Rattle.checkpoints.proofs.ReadCalls.{reads_both}
use Rattle.checkpoints.proofs.saving.prepare_point.Goals as goal

-- ---- where there is no next one

pub returns-in_err-text-in-None-clause-answer : goal.returns-in_err-text-in-None-clause-answer
returns-in_err-text-in-None-clause-answer g c =
    let p = err_from_is_err_and c.from_residual-in_err-text-in-None.result c.from_residual-in_err-text-in-None.ensures.1 in
    rw (p.1, p.2)
    (saves_not (List ℕ × Vec ℕ Global) (Vec ℕ Global) (g.H.Host.told c.args.host.now) (g.H.Host.told c.read_point.new.host) c.args.name.now c.in_ok-file.found c.in_err-text-in-None.field-0.0 c.in-None.is
    c.in_ok-file.ensures.point c.read_point.ensures.reads.state c.in_err-text-in-None.ensures.errors c.in_err-text-in-None.ensures.full)

pub returns-in_err-text-in-None-clause-errors : goal.returns-in_err-text-in-None-clause-errors
returns-in_err-text-in-None-clause-errors g c =
    let p = err_from_is_err_and c.from_residual-in_err-text-in-None.result c.from_residual-in_err-text-in-None.ensures.1 in
    rw (p.1, p.2) (of_numbering c.in_err-text-in-None.field-0.0 c.in_err-text-in-None.ensures.errors)

pub returns-in_err-text-in-None-clause-reads : goal.returns-in_err-text-in-None-clause-reads
returns-in_err-text-in-None-clause-reads g c =
    reads_both g.H.Host.told g.H.Host.counts g.H.Host.moment g.H.Host.left_since g.H.Host.goes_on g.met.H.Host.continues
    c.args.host.now c.read_point.new.host c.next_bytes.new.host c.read_point.ensures.reads c.next_bytes.ensures.reads

pub returns-in_err-text-in-None-clause-cause : goal.returns-in_err-text-in-None-clause-cause
returns-in_err-text-in-None-clause-cause g c =
    let p = err_from_is_err_and c.from_residual-in_err-text-in-None.result c.from_residual-in_err-text-in-None.ensures.1 in
    rw (p.1, p.2)
    (λ is. rose_later (g.H.Host.counts c.args.host.now) (g.H.Host.counts c.read_point.new.host) (g.H.Host.counts c.next_bytes.new.host) c.read_point.ensures.reads.faults
    (c.in_err-text-in-None.ensures.cause (err_too c.in_err-text-in-None.field-0.0 Disk is)))

-- ---- where there is

pub returns-in_ok-text-in-None-clause-answer : goal.returns-in_ok-text-in-None-clause-answer
returns-in_ok-text-in-None-clause-answer g c =
    saves_there {A = List ℕ × Vec ℕ Global} {B = Vec ℕ Global} (g.H.Host.told c.args.host.now) (g.H.Host.told c.read_point.new.host) c.args.name.now c.in_ok-file.found
    c.in_ok-text-in-None.text (c.in_ok-file.file, c.in_ok-text-in-None.text) c.in-None.is c.in_ok-file.ensures.point c.read_point.ensures.reads.state c.in_ok-text-in-None.ensures.full

pub returns-in_ok-text-in-None-clause-text : goal.returns-in_ok-text-in-None-clause-text
returns-in_ok-text-in-None-clause-text g c =
    subst (λ (o : Option State). IfSome o (λ s. IsNextText c.args.config.now s.files c.in_ok-text-in-None.text.items)) c.read_point.ensures.reads.state c.in_ok-text-in-None.ensures.text

pub returns-in_ok-text-in-None-clause-reads : goal.returns-in_ok-text-in-None-clause-reads
returns-in_ok-text-in-None-clause-reads g c =
    reads_both g.H.Host.told g.H.Host.counts g.H.Host.moment g.H.Host.left_since g.H.Host.goes_on g.met.H.Host.continues
    c.args.host.now c.read_point.new.host c.next_bytes.new.host c.read_point.ensures.reads c.next_bytes.ensures.reads
