use Rattle.recheck.proofs.VerdictDrops.{among_itself}
use Rattle.recheck.proofs.RemainingVerdicts.{not_so}
use Rattle.recheck.proofs.ParallelWalks.{left_for, left_itself}
use Rattle.recheck.proofs.changes.drop_unless_same.Goals as goal

pub returns-then-is_entry-clause-among : goal.returns-then-is_entry-clause-among
returns-then-is_entry-clause-among c = among_itself c.args.verdicts.now.items

pub returns-then-is_entry-clause-left : goal.returns-then-is_entry-clause-left
returns-then-is_entry-clause-left c = left_itself _ c.args.verdicts.now.items

pub returns-clause-left : goal.returns-clause-left
returns-clause-left c =
    left_for _ _ (λ v touch. (not_so _ _ c.if-is_entry.false c.is_entry.ensures.1, touch)) c.args.verdicts.now.items c.drop_touched.new.verdicts.items
    c.drop_touched.ensures.left
