use Rattle.conf_doc.specs.Pairs.{find}
use Rattle.recheck.proofs.RemainingVerdicts.{not_some, some_none}
use Rattle.recheck.proofs.VerdictDrops.{among_itself}
use Rattle.recheck.proofs.ParallelWalks.{left_for, left_itself}
use Rattle.recheck.proofs.changes.drop_if_lacking.Goals as goal

pub returns-then-is_some-clause-among : goal.returns-then-is_some-clause-among
returns-then-is_some-clause-among c = among_itself c.args.verdicts.now.items

pub returns-then-is_some-clause-dropped : goal.returns-then-is_some-clause-dropped
returns-then-is_some-clause-dropped c = λ lacks.
    absurd (some_none _ (find c.args.name.now c.args.config.now) _ c.table.ensures.table c.is_some.ensures c.if-is_some.true lacks)

pub returns-then-is_some-clause-left : goal.returns-then-is_some-clause-left
returns-then-is_some-clause-left c = left_itself _ c.args.verdicts.now.items

pub returns-clause-dropped : goal.returns-clause-dropped
returns-clause-dropped c = λ _. c.drop_readers.ensures.dropped

pub returns-clause-left : goal.returns-clause-left
returns-clause-left c = left_for _ _ (λ v is. (not_some _ (find c.args.name.now c.args.config.now) _ c.table.ensures.table c.is_some.ensures c.if-is_some.false, is)) c.args.verdicts.now.items c.drop_readers.new.verdicts.items c.drop_readers.ensures.left
