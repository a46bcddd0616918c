use Rattle.std.proofs.Common.{List, map, refl, subst, sym, ap, ◌∙◌}
use Rattle.std.specs.Prelude.{Contains}
use Rattle.std.proofs.lemmas.Bool.{false≢true}
use Rattle.yang_text.specs.Declarations.{argument}
use Rattle.yang_scope.specs.Meanings.{type_meaning, most_typedefs}
use Rattle.yang_scope.specs.Paths.{Placed}
use Rattle.yang_values.specs.Circles.{is_plain}
use Rattle.yang_values.specs.Walks.{placed}
use Rattle.yang_values.proofs.PlainBases.{no_circle}
use Rattle.yang_values.proofs.ReachableTypes.{reached_there}
use Rattle.yang_values.proofs.circles.is_on_circle.Goals as goal

pub returns : goal.returns
returns c =
    let p : Placed = placed c.args.place in
    let same = ap (map placed) c.as_slice.ensures.value in (
      λ h. c.in_ok-places.ensures.reached p (subst (λ (qs : List Placed). Contains qs p) same (c.is_among.ensures.0 h)),
      λ r. c.is_among.ensures.1 (subst (λ (qs : List Placed). Contains qs p) (sym same) (reached_there c.args.names.now p (map placed c.in_ok-places.places.items.items) c.in_ok-places.ensures p r)),
    )

pub returns-then-is_plain : goal.returns-then-is_plain
returns-then-is_plain c =
    let p : Placed = placed c.args.place in (
      λ h. absurd (false≢true h),
      λ r. absurd (no_circle c.args.names.now most_typedefs p (type_meaning c.args.names.now p.0 (argument p.1)) refl
          (ap is_plain (sym c.base_of.ensures) ∙ sym c.is_plain.ensures ∙ c.if-is_plain.true) r),
    )
