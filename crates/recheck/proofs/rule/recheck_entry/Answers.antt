use Rattle.std.proofs.Common.{refl, arith}
use Rattle.recheck.specs.Turned.{IsTurned}
use Rattle.recheck.proofs.LookedEntries.{left_still}
use Rattle.recheck.proofs.RemainingVerdicts.{not_so}
use Rattle.recheck.proofs.rule.recheck_entry.Goals as goal

pub returns-then-not-allows-clause-valid : goal.returns-then-not-allows-clause-valid
returns-then-not-allows-clause-valid c = (λ yes. absurd cc, λ all. absurd (not_so _ _ c.if-not-allows.true c.allows.ensures.1 all))

pub returns-then-not-allows-clause-counts : goal.returns-then-not-allows-clause-counts
returns-then-not-allows-clause-counts c =
    (c.count_of.result, record { counts = c.count_of.ensures; stays = refl; known = tt }, omega (arith, c.saturating_add.ensures))

pub returns-clause-valid : goal.returns-clause-valid
returns-clause-valid c = (λ _. c.allows.ensures.0 c.if-not-allows.false, λ _. refl)

pub returns-clause-counts : goal.returns-clause-counts
returns-clause-counts c =
    (c.count_of.result, record { counts = c.count_of.ensures; stays = tt; known = c.in_ok-kept.ensures.valid }, omega (arith, c.saturating_add.ensures))

pub returns-then-not-allows-clause-still : goal.returns-then-not-allows-clause-still
returns-then-not-allows-clause-still c = λ v has not. has

pub returns-clause-still : goal.returns-clause-still
returns-clause-still c =
    left_still (IsTurned c.args.models.now c.args.kept.index.config c.args.config.now) c.args.kept.verdicts.items c.in_ok-kept.kept.verdicts.items
    c.in_ok-kept.ensures.left

pub move_beside-requires-clause-valid : goal.move_beside-requires-clause-valid
move_beside-requires-clause-valid c = c.allows.ensures.0 c.if-not-allows.false
