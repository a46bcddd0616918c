use Rattle.std.proofs.Common.{inl, inr, sym, ◌∙◌}
use Rattle.recheck.specs.Changes.{IsOnGone}
use Rattle.recheck.specs.Verdicts.{is_elsewhere}
use Rattle.recheck.proofs.VerdictDrops.{among_filter, among_itself, none_on}
use Rattle.recheck.proofs.RemainingVerdicts.{not_so, on_by}
use Rattle.recheck.proofs.ParallelWalks.{left_filter, left_itself}
use Rattle.recheck.proofs.alone.drop_if_gone.Goals as goal

pub returns-then-has_entry-clause-among : goal.returns-then-has_entry-clause-among
returns-then-has_entry-clause-among c = among_itself c.args.verdicts.now.items

pub returns-then-has_entry-clause-there : goal.returns-then-has_entry-clause-there
returns-then-has_entry-clause-there c = inl (sym c.has_entry.ensures ∙ c.if-has_entry.true)

pub returns-then-has_entry-clause-left : goal.returns-then-has_entry-clause-left
returns-then-has_entry-clause-left c = left_itself _ c.args.verdicts.now.items

pub returns-clause-among : goal.returns-clause-among
returns-clause-among c =
    among_filter (is_elsewhere c.args.table.now c.args.key.now) c.args.verdicts.now.items c.drop_at.new.verdicts.items c.drop_at.ensures.rest c.drop_at.ensures.shorter

pub returns-clause-there : goal.returns-clause-there
returns-clause-there c = inr (none_on c.args.table.now c.args.key.now c.args.verdicts.now.items c.drop_at.new.verdicts.items c.drop_at.ensures.rest)

pub returns-clause-left : goal.returns-clause-left
returns-clause-left c =
    left_filter (is_elsewhere c.args.table.now c.args.key.now) (IsOnGone c.args.next.now c.args.table.now c.args.key.now)
    (λ v away. (on_by c.args.table.now c.args.key.now v away, not_so _ _ c.if-has_entry.false (λ yes. c.has_entry.ensures ∙ yes)))
    c.args.verdicts.now.items c.drop_at.new.verdicts.items c.drop_at.ensures.rest
