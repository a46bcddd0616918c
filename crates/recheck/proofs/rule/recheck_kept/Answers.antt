use Rattle.recheck.proofs.EntryCounts.{entry_counted}
use Rattle.recheck.proofs.rule.recheck_kept.Goals as goal

pub recheck_entry-requires-clause-sole : goal.recheck_entry-requires-clause-sole
recheck_entry-requires-clause-sole c = c.in-Some.ensures.1.sole

pub returns-in-Some-clause-counts : goal.returns-in-Some-clause-counts
returns-in-Some-clause-counts c =
    entry_counted c.args.models.now c.args.config.now c.args.mv.now _ _ c.recheck_entry.result c.args.kept _ _ c.in-Some.ensures.0 c.in-Some.ensures.1
    c.recheck_entry.ensures.counts
