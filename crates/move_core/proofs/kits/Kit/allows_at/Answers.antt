use Rattle.move_core.proofs.BoxLists.{before_kept, kinds_kept, of_rule}
use Rattle.std.proofs.Common.{◌+◌}
use Rattle.move_core.proofs.kits.Kit.allows_at.Goals as goal

pub returns-clause-allows : goal.returns-clause-allows
returns-clause-allows g c =
    c.ask_rule.ensures.allows (c.args.i + 1)
    (of_rule _ c.args.self.now.rules.items c.args.i c.index_mut.result.now c.index_mut.ensures.value c.requires.at c.requires.kinds.2)

pub returns-clause-kinds : goal.returns-clause-kinds
returns-clause-kinds g c =
    (c.requires.kinds.0, c.requires.kinds.1, kinds_kept _ _ _ c.args.i c.index_mut.result.now _ c.requires.kinds.2 c.index_mut.ensures.value c.ask_rule.ensures.kind)

pub returns-clause-fits : goal.returns-clause-fits
returns-clause-fits g c = before_kept _ _ c.args.self.now.rules.items c.args.i _ c.ask_rule.ensures.fits c.requires.fits
