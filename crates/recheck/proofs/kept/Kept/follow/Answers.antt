use Rattle.std.proofs.Common.{subst}
use Rattle.ref_index.specs.Agreements.{AgreeBut}
use Rattle.recheck.proofs.kept.Kept.follow.Goals as goal

pub move_by-requires-clause-agree : goal.move_by-requires-clause-agree
move_by-requires-clause-agree c =
    subst (λ d. AgreeBut d c.args.next.now c.name_at-table.result.now c.name_at-key.result.now) c.config.ensures (c.agree_but.ensures c.if-not-agree_but.false)
