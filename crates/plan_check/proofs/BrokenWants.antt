-- A want at a place that a move leaves unsatisfied, among those that are handed out.
use Rattle.std.proofs.Common.{◌≡◌, ◌↔◌, ℕ, List, Option, None, Some, refl, sym, ap, ◌∙◌, subst}
use Rattle.std.proofs.lemmas.List.Elements.{All-contains}
use Rattle.conf_check.specs.Acceptance.{IsSatisfied}
use Rattle.conf_check.specs.Wants.{Want, want_of}
use Rattle.conf_check.specs.declared.want_iter.WantAt.{WantAt}
use Rattle.conf_doc.specs.declared.configuration.Config.{Config}
use Rattle.move_core.specs.Contexts.{HasWant, item_at}
use Rattle.move_core.specs.Extensions.{removal}
use Rattle.move_core.specs.Moves.{Place, index, place}
use Rattle.move_core.specs.declared.moves.Move.{Move}
use Rattle.move_core.specs.declared.moves.Move.TheVariants.{Remove, RemoveItem}
use Rattle.plan_check.specs.Broken.{HasBroken, HasOneBroken, IsReferrerAt}
use Rattle.plan_check.specs.WantsAt.{AreWantsAt}
use Rattle.plan_check.specs.declared.here.Here.{Here}
use Rattle.plan_check.proofs.Following.{removal_index, removal_place}

module _ (h : Here) (next : Config) (p : Place) (item : Option ℕ) (ats : List WantAt) (are : AreWantsAt h.ctx.now.models h.cur.now p ats) where
  pub broken_if : HasOneBroken h next p item ats → HasBroken h next p item
  broken_if one = record {
    want = want_of one.at.want;
    there =
        subst (λ i. HasWant h.ctx.now.models h.cur.now p i (want_of one.at.want)) one.is.0
        (All-contains (λ b. HasWant h.ctx.now.models h.cur.now p (item_at h.cur.now p b.item) (want_of b.want)) ats one.at are.each one.there);
    broken = one.is.1;
  }

  pub broken_then : HasBroken h next p item → HasOneBroken h next p item ats
  broken_then has =
      let one = are.all item has.want has.there in
      record {
        at = one.at;
        there = one.there;
        is = (one.is.index, subst (λ (w : Want). ¬ IsSatisfied h.ctx.now.models next w.target w.text) (sym one.is.want) has.broken);
      }

-- ---- what is removed

pub own_place : (x : Move) (p : Place) → x ≡ Remove p → x ≡ removal (place x) None
own_place x p is = is ∙ ap Remove (sym (ap place is))

pub item_place : (x : Move) (p : Place) (i : ℕ) → x ≡ RemoveItem p i → x ≡ removal (place x) (Some i)
item_place x p i is = is ∙ ap (λ q. RemoveItem q i) (sym (ap place is))

-- it has such a want at its own place
pub referrer_as : (h : Here) (next : Config) (x : Move) (item : Option ℕ) → x ≡ removal (place x) item
    → HasBroken h next (place x) item ↔ IsReferrerAt h next x
referrer_as h next x item is = (λ has. record { at = place x; item = item; breaks = has; move = is }, back)
  where
    back : IsReferrerAt h next x → HasBroken h next (place x) item
    back r =
        let at : r.at ≡ place x = sym (removal_place r.at r.item) ∙ sym (ap place r.move) in
        let same : r.item ≡ item =
        sym (removal_index r.at r.item) ∙ sym (ap index r.move) ∙ ap index is ∙ removal_index (place x) item in
        subst (HasBroken h next (place x)) same (subst (λ p. HasBroken h next p r.item) at r.breaks)
