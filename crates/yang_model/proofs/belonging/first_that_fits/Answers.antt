use Rattle.std.proofs.Common.{sym, subst, refl}
use Rattle.std.proofs.lemmas.Bool.{false≢true}
use Rattle.std.proofs.lemmas.List.Elements.{All-more, at_read}
use Rattle.yang_model.specs.Belongs.{Fits}
use Rattle.yang_model.specs.declared.shapes.Shape.{Shape}
use Rattle.yang_model.proofs.belonging.first_that_fits.Goals as goal

pub returns-then-fits : goal.returns-then-fits
returns-then-fits c =
    let P : Shape → Type 0 = λ s. Fits s c.args.key.now in (
      c.loop-i-test.true,
      at_read c.args.shapes.now P c.loop-i.i c.index-shapes-i.result c.loop-i-test.true c.index-shapes-i.is (subst P c.shape.ensures (c.if-fits.ensures.0 refl)),
      c.loop-i.invariant,
    )

pub loop-i-preserved : goal.loop-i-preserved
loop-i-preserved c =
    let P : Shape → Type 0 = λ s. Fits s c.args.key.now in
    All-more (λ s. ¬ P s) c.args.shapes.now c.loop-i.i c.index-shapes-i.result c.loop-i-test.true c.loop-i.invariant
    (λ fit. false≢true (c.if-fits.ensures.1 (subst P (sym c.shape.ensures) (subst P (sym c.index-shapes-i.is) fit))))
