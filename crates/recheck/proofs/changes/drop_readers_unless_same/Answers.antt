use Rattle.std.proofs.Common.{inl, inr}
use Rattle.recheck.proofs.VerdictDrops.{among_itself}
use Rattle.recheck.proofs.RemainingVerdicts.{not_so}
use Rattle.recheck.proofs.ParallelWalks.{left_for, left_itself}
use Rattle.recheck.proofs.changes.drop_readers_unless_same.Goals as goal

pub returns-then-not-one_may_read-clause-among : goal.returns-then-not-one_may_read-clause-among
returns-then-not-one_may_read-clause-among c = among_itself c.args.verdicts.now.items

pub returns-then-not-one_may_read-clause-left : goal.returns-then-not-one_may_read-clause-left
returns-then-not-one_may_read-clause-left c = left_itself _ c.args.verdicts.now.items

pub returns-then-is_same_table-clause-among : goal.returns-then-is_same_table-clause-among
returns-then-is_same_table-clause-among c = among_itself c.args.verdicts.now.items

pub returns-then-is_same_table-clause-handled : goal.returns-then-is_same_table-clause-handled
returns-then-is_same_table-clause-handled c = inl (c.is_same_table.ensures.0 c.if-is_same_table.true)

pub returns-then-is_same_table-clause-left : goal.returns-then-is_same_table-clause-left
returns-then-is_same_table-clause-left c = left_itself _ c.args.verdicts.now.items

pub returns-clause-handled : goal.returns-clause-handled
returns-clause-handled c = inr c.drop_readers.ensures.dropped

pub returns-clause-left : goal.returns-clause-left
returns-clause-left c =
    left_for _ _ (λ v is. record { table = c.args.name.now; differs = not_so _ _ c.if-is_same_table.false c.is_same_table.ensures.1; reads = is })
    c.args.verdicts.now.items c.drop_readers.new.verdicts.items c.drop_readers.ensures.left
