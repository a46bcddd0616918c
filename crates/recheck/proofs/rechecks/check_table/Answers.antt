use Rattle.std.proofs.Common.{sym, ◌∙◌}
use Rattle.recheck.proofs.EntryCounts.{unmodelled_none}
use Rattle.recheck.proofs.LookedEntries.{looked_unmodelled}
use Rattle.recheck.proofs.Pairs.{left_at, some_same}
use Rattle.recheck.proofs.rechecks.check_table.Goals as goal

pub returns-else-modelled-clause-walked : goal.returns-else-modelled-clause-walked
returns-else-modelled-clause-walked c = λ p at.
    unmodelled_none c.args.models.now p c.name_at.result.now c.modelled.result c.args.walk.now.verdicts.items c.args.walk.now.behind c.args.checked.now
    (some_same c.name_at.result.now p.0 (sym c.name_at.ensures ∙ left_at c.args.config.now c.args.table p at)) c.modelled.ensures c.if-modelled.false

pub returns-else-modelled-clause-looked : goal.returns-else-modelled-clause-looked
returns-else-modelled-clause-looked c = λ p at.
    looked_unmodelled c.args.models.now c.args.config.now p c.name_at.result.now c.modelled.result c.args.walk.now.verdicts.items
    (some_same c.name_at.result.now p.0 (sym c.name_at.ensures ∙ left_at c.args.config.now c.args.table p at)) c.modelled.ensures c.if-modelled.false
