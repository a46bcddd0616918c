use Rattle.std.proofs.Common.{inl, inr, sym, subst}
use Rattle.std.specs.Option.{option_copied}
use Rattle.plan_check.specs.Nearby.{IsNear}
use Rattle.plan_check.proofs.Loops.{not_so}
use Rattle.plan_check.proofs.NearPlaces.{near}
use Rattle.plan_check.proofs.preceding.may_precede.Goals as goal

pub returns : goal.returns
returns c = λ m leads within.
    let t = c.args.table.now in
    let key = option_copied c.args.key in
    elim (near c.args.sought.now c.requires m t key within leads) [
      | inl here ↦
          absurd (not_so c.is_near.result c.is_near.ensures.1 c.if-is_near.false (subst (λ p. IsNear p t key) (sym c.place.ensures) here))
      | inr other ↦ elim other [
        | inl wanted ↦ absurd (not_so c.has_wanted.result c.has_wanted.ensures.1 c.if-has_wanted.false wanted)
        | inr requiring ↦ c.has_requiring.ensures.1 requiring
      ]
    ]
