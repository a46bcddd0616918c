use Rattle.move_rules.proofs.Validity.{first_rule}
use Rattle.move_rules.proofs.full.FullRuleMoveRule.allows.Goals as goal

pub returns-clause-allows : goal.returns-clause-allows
returns-clause-allows c = first_rule c.args.ctx.now _ c.args.next.now _ c.is_valid.result c.is_valid.ensures
