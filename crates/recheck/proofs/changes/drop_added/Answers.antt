use Rattle.std.proofs.Common.{◌≡◌, None, arith}
use Rattle.conf_doc.specs.Pairs.{find}
use Rattle.recheck.specs.Turned.{IsTurnedByTable, Reads}
use Rattle.recheck.proofs.VerdictDrops.{among_among, among_itself, names_added}
use Rattle.recheck.proofs.RemainingVerdicts.{added_differs}
use Rattle.recheck.proofs.ParallelWalks.{left_itself, left_then}
use Rattle.recheck.proofs.changes.drop_added.Goals as goal

pub loop-u-init : goal.loop-u-init
loop-u-init c = record {
  among = among_itself c.args.verdicts.now.items;
  left = left_itself _ c.args.verdicts.now.items;
  dropped = λ k n lt. absurd (omega (arith, lt));
}

pub loop-u-preserved : goal.loop-u-preserved
loop-u-preserved c =
    let models = c.args.models.now in
    let config = c.args.config.now in
    let next = c.args.next.now in
    let name = c.name_at.result.now in
    let old = c.loop-u.verdicts.items in
    let new = c.drop_if_lacking.new.verdicts.items in
    record {
      among = among_among c.args.verdicts.now.items old new c.loop-u.invariant.among c.drop_if_lacking.ensures.among;
      left =
          left_then (IsTurnedByTable models config next) (λ v. (find name config ≡ None) × Reads models name v) (IsTurnedByTable models config next) (λ v is. is)
          (λ v is. record { table = name; differs = added_differs config next c.len-u-end.ensures.formed c.loop-u.u name c.name_at.ensures is.0; reads = is.1 })
          c.args.verdicts.now.items old new c.loop-u.invariant.left c.drop_if_lacking.ensures.left;
      dropped = names_added models config next old new c.loop-u.u name c.loop-u.invariant.dropped c.drop_if_lacking.ensures.among c.name_at.ensures
          c.drop_if_lacking.ensures.dropped;
    }

pub returns-clause-dropped : goal.returns-clause-dropped
returns-clause-dropped c = λ k n lt at lacks. c.loop-u.invariant.dropped k n (omega (arith, lt, c.len-u-end.ensures.len, c.loop-u-test.false)) at lacks
