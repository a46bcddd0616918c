use Rattle.std.proofs.Common.{◌≡◌, Some, slice_get, inl, inr, sym, subst, ◌∙◌, refl}
use Rattle.plan_check.proofs.Loops.{not_so}
use Rattle.plan_check.proofs.RequiringPlaces.{among, at_key, in_table}
use Rattle.plan_check.proofs.required.is_changed.Goals as goal

pub returns-then-not-is_name : goal.returns-then-not-is_name
returns-then-not-is_name c = (
  λ t. absurd cc,
  λ d. absurd
      (not_so c.is_name.result c.is_name.ensures.1 c.if-not-is_name.true
      (c.table.ensures ∙ sym (in_table c.args.change.now c.args.place.now c.args.mv.now c.requires.is d) ∙ sym c.as_str.ensures.text)),
)

pub returns-then-len-gt1 : goal.returns-then-len-gt1
returns-then-len-gt1 c =
    let k = c.name_at.result.now in
    let at = subst (λ p. slice_get p 1 ≡ Some k) c.place-names.ensures c.name_at.ensures.name in (
      λ t. record { key = k; differs = c.differs_at.ensures.0 t },
      λ d. c.differs_at.ensures.1 (at_key c.args.change.now c.args.place.now c.args.mv.now c.requires.is k at d),
    )

pub returns-then-differs_among : goal.returns-then-differs_among
returns-then-differs_among c = (
  λ t. let d = c.differs_among.ensures.0 c.if-differs_among.true in record { key = d.key; differs = d.differs },
  λ d. refl,
)

pub returns : goal.returns
returns c = (
  λ t. let d = c.differs_among-2.ensures.0 t in record { key = d.key; differs = d.differs },
  λ d. elim (among c.args.change.now c.args.place.now c.args.mv.now c.requires.is d) [
    | inl first ↦ absurd (not_so c.differs_among.result c.differs_among.ensures.1 c.if-differs_among.false first)
    | inr second ↦ c.differs_among-2.ensures.1 second
  ],
)
