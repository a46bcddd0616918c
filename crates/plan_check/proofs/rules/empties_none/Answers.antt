use Rattle.std.proofs.Common.{[], refl, arith}
use Rattle.plan_check.proofs.PairNames.{index_of, within}
use Rattle.plan_check.proofs.rules.empties_none.Goals as goal

pub returns : goal.returns
returns c = (
  λ _ t none.
      let at = index_of t c.args.next.now [] none in
      let below = within c.args.next.now at.0 t at.1 in
      c.loop-i.invariant at.0 t (omega arith) at.1 none,
  λ _. refl,
)
