use Rattle.std.proofs.Common.{refl}
use Rattle.plan_check.specs.Broken.{IsBrokenAt}
use Rattle.plan_check.proofs.Loops.{none_all, none_more, not_so, there_at}
use Rattle.plan_check.proofs.follows.has_one_broken.Goals as goal

pub returns-then-is_broken : goal.returns-then-is_broken
returns-then-is_broken c =
    let a = c.want_at.result.now in (
      λ t. record { at = a; there = there_at c.args.wants.now c.loop-i.i a c.want_at.ensures; is = c.is_broken.ensures.0 c.if-is_broken.true },
      λ has. refl,
    )

pub loop-i-preserved : goal.loop-i-preserved
loop-i-preserved c =
    none_more (IsBrokenAt c.args.here.now c.args.next.now c.args.place.now c.args.item) c.args.wants.now c.loop-i.i c.want_at.result.now
    c.want_at.ensures (not_so c.is_broken.result c.is_broken.ensures.1 c.if-is_broken.false) c.loop-i.invariant

pub returns : goal.returns
returns c =
    let end = c.loop-i-test.false in (
      λ t. absurd cc,
      λ has. absurd
          (none_all (IsBrokenAt c.args.here.now c.args.next.now c.args.place.now c.args.item) c.args.wants.now c.loop-i.i end
          c.loop-i.invariant has.at has.there has.is),
    )
