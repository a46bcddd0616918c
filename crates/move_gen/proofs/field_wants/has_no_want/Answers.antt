use Rattle.std.proofs.Common.{inr, refl, sym, subst}
use Rattle.std.proofs.lemmas.Bool.{false≢true}
use Rattle.conf_check.specs.Wants.{want_of}
use Rattle.move_gen.specs.FieldWants.{AreElsewhere}
use Rattle.move_gen.proofs.WantNames.{none_left, passes, stands}
use Rattle.move_gen.proofs.field_wants.has_no_want.Goals as goal

pub loop-at-init : goal.loop-at-init
loop-at-init c =
    let e = c.entry_wants-at-items.ensures in (
      tt,
      tt,
      subst (AreElsewhere c.args.ctx.now.models c.args.goal.now c.args.table.now c.args.key.now c.args.field.now) (sym c.into_iter-at-iterator.ensures.into_iter_gives)
          (record {
            models = e.models;
            config = e.config;
            rest = λ p w entry want. inr ((e.ahead p w).1 (entry, want));
            within = λ p w ahead. ((e.ahead p w).0 ahead).0;
          }),
    )

pub returns-then-is_at_field : goal.returns-then-is_at_field
returns-then-is_at_field c = (
  λ t. absurd (false≢true t),
  λ free.
      absurd (free _ (want_of c.in-Some.at.want)
      (stands c.args.ctx.now.models c.args.goal.now c.args.table.now c.args.key.now c.args.field.now c.loop-at.at-iterator c.next.new.self c.in-Some.at c.loop-at.invariant.2
      c.is_at_field.result c.is_at_field.ensures c.in-Some.ensures.steps.gives c.if-is_at_field.true)),
)

pub loop-at-preserved : goal.loop-at-preserved
loop-at-preserved c =
    let step = c.in-Some.ensures.steps in (
      tt,
      tt,
      passes c.args.ctx.now.models c.args.goal.now c.args.table.now c.args.key.now c.args.field.now c.loop-at.at-iterator c.next.new.self c.in-Some.at c.loop-at.invariant.2
          c.is_at_field.result c.is_at_field.ensures step.gives c.if-is_at_field.false step.models step.config,
    )

pub returns : goal.returns
returns c = (
  λ t. none_left c.args.ctx.now.models c.args.goal.now c.args.table.now c.args.key.now c.args.field.now c.loop-at.at-iterator c.loop-at.invariant.2 c.in-None.ensures.steps.gives.0,
  λ free. refl,
)
