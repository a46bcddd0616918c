use Rattle.std.proofs.Common.{refl}
use Rattle.std.specs.Option.{option_copied}
use Rattle.plan_check.specs.Nearby.{IsWantedFor}
use Rattle.plan_check.proofs.Loops.{none_all, none_more, not_so, there_at}
use Rattle.plan_check.proofs.preceding.has_wanted.Goals as goal

pub returns-then-is_wanted_for : goal.returns-then-is_wanted_for
returns-then-is_wanted_for c =
    let a = c.want_at.result.now in (
      λ t. record {
        at = a;
        there = there_at c.args.sought.now.wants.now c.loop-i.i a c.want_at.ensures;
        is = c.is_wanted_for.ensures.0 c.if-is_wanted_for.true;
      },
      λ has. refl,
    )

pub loop-i-preserved : goal.loop-i-preserved
loop-i-preserved c =
    let s = c.args.sought.now in
    none_more (λ b. IsWantedFor s b c.args.table.now (option_copied c.args.key)) s.wants.now c.loop-i.i c.want_at.result.now
    c.want_at.ensures (not_so c.is_wanted_for.result c.is_wanted_for.ensures.1 c.if-is_wanted_for.false)
    c.loop-i.invariant

pub returns : goal.returns
returns c =
    let s = c.args.sought.now in
    let end = c.loop-i-test.false in (
      λ t. absurd (cc),
      λ has. absurd
          (none_all (λ b. IsWantedFor s b c.args.table.now (option_copied c.args.key)) s.wants.now c.loop-i.i end
          c.loop-i.invariant has.at has.there has.is),
    )
