use Rattle.std.proofs.Common.{map, refl, arith}
use Rattle.conf_doc.proofs.Lists.{length-map}
use Rattle.plan_check.specs.Requirements.{DiffersAt}
use Rattle.plan_check.proofs.Loops.{none_all, none_more, not_so, there_at}
use Rattle.plan_check.proofs.required.differs_in.Goals as goal

pub returns-then-differs_at : goal.returns-then-differs_at
returns-then-differs_at c = (
  λ t. record {
    key = c.name_at.result.now;
    there = there_at (map (λ e. e.0) c.args.entries.now) c.loop-i.i c.name_at.result.now c.name_at.ensures;
    differs = c.differs_at.ensures.0 c.if-differs_at.true;
  },
  λ d. refl,
)

pub loop-i-preserved : goal.loop-i-preserved
loop-i-preserved c =
    none_more (DiffersAt c.args.change.now c.args.place.now) (map (λ e. e.0) c.args.entries.now) c.loop-i.i c.name_at.result.now c.name_at.ensures
    (not_so c.differs_at.result c.differs_at.ensures.1 c.if-differs_at.false) c.loop-i.invariant

pub returns : goal.returns
returns c = (
  λ t. absurd (cc),
  λ d. absurd
      (none_all (DiffersAt c.args.change.now c.args.place.now) (map (λ e. e.0) c.args.entries.now) c.loop-i.i (rw (length-map (λ e. e.0) c.args.entries.now) (omega arith))
      c.loop-i.invariant d.key d.there d.differs),
)
