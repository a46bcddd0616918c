use Rattle.std.proofs.Common.{◌≡◌, Some, map, slice_get, subst, arith}
use Rattle.recheck.proofs.agreements.entry_after.Goals as goal

pub returns-then-at-len-clause-passed : goal.returns-then-at-len-clause-passed
returns-then-at-len-clause-passed c = λ i from below. absurd (omega (arith, from, below))

pub returns-then-not-is_same_name-clause-passed : goal.returns-then-not-is_same_name-clause-passed
returns-then-not-is_same_name-clause-passed c = λ i from below. absurd (omega (arith, from, below))

pub returns-clause-passed : goal.returns-clause-passed
returns-clause-passed c = λ i from below.
    let same : c.args.at ≡ i = omega (arith, from, below) in
    subst (λ j. slice_get (map (λ p. p.0) c.args.table.now) j ≡ Some c.args.key.now) same
    (subst (λ n. slice_get (map (λ p. p.0) c.args.table.now) c.args.at ≡ Some n) (c.is_same_name.ensures.0 c.if-not-is_same_name.false) c.name_at.ensures)
