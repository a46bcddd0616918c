use Rattle.std.proofs.Common.{inr, sym, subst}
use Rattle.std.proofs.lemmas.Bool.{false≢true}
use Rattle.move_gen.specs.FieldWants.{AreElsewhere}
use Rattle.move_gen.proofs.WantNames.{none_left, passes, unnamed}
use Rattle.move_gen.proofs.WantingFields.{none_wanted}
use Rattle.move_gen.proofs.field_wants.has_free_fields.Goals as goal

pub returns-then-not-has_wanting_field : goal.returns-then-not-has_wanting_field
returns-then-not-has_wanting_field c = λ t f.
    none_wanted c.args.ctx.now.models c.args.goal.now c.args.table.now c.args.key.now f
    (λ has. false≢true (c.if-not-has_wanting_field.ensures has))

pub loop-at-init : goal.loop-at-init
loop-at-init c =
    let e = c.entry_wants-at-items.ensures in (
      tt,
      tt,
      λ f.
          subst (AreElsewhere c.args.ctx.now.models c.args.goal.now c.args.table.now c.args.key.now f) (sym c.into_iter-at-iterator.ensures.into_iter_gives)
          (record {
            models = e.models;
            config = e.config;
            rest = λ p w entry want. inr ((e.ahead p w).1 (entry, want));
            within = λ p w ahead. ((e.ahead p w).0 ahead).0;
          }),
    )

pub loop-at-preserved : goal.loop-at-preserved
loop-at-preserved c =
    let step = c.in-Some.ensures.steps in (
      tt,
      tt,
      λ f.
          passes c.args.ctx.now.models c.args.goal.now c.args.table.now c.args.key.now f c.loop-at.at-iterator c.next.new.self c.in-Some.at (c.loop-at.invariant.2 f)
          c.is_some.result (unnamed f c.in-Some.at.field c.is_some.result c.is_some.ensures c.if-is_some.false) step.gives c.if-is_some.false step.models step.config,
    )

pub returns : goal.returns
returns c = λ t f.
    none_left c.args.ctx.now.models c.args.goal.now c.args.table.now c.args.key.now f c.loop-at.at-iterator (c.loop-at.invariant.2 f) c.in-None.ensures.steps.gives.0
