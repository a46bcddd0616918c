-- The referrers that a move leaves without what they refer to.
use Rattle.std.proofs.Common.{◌≡◌, ◌≢◌, ◌↔◌, ℕ, List, [], true, false, refl, sym, ap, ◌∙◌, subst}
use Rattle.std.specs.Ordering.{eq_by_cmp}
use Rattle.host_core.specs.Names.{name_cmp}
use Rattle.conf_doc.specs.declared.configuration.Config.{Config}
use Rattle.conf_check.specs.Acceptance.{IsSatisfied}
use Rattle.conf_check.specs.Wants.{Want}
use Rattle.move_core.specs.Appends.{Appends}
use Rattle.move_core.specs.Contexts.{item_at as item_number, rulebook}
use Rattle.move_core.specs.Extensions.{removal, IsReferrer}
use Rattle.move_core.specs.Moves.{index, part_after, place, step}
use Rattle.move_core.specs.Services.{table_of}
use Rattle.move_core.specs.declared.contexts.Ctx.{Ctx}
use Rattle.move_core.specs.declared.moves.Move.{Move}
use Rattle.move_extend.specs.KeptKeys.{KeepsKeys}
use Rattle.move_extend.specs.Referrers.{GivesRemovals}
use Rattle.move_extend.proofs.DistinctLists.{appends_found, finds_none}
use Rattle.move_extend.proofs.UntouchedPlaces.{apart_by, other_table, same_by}
use Rattle.move_extend.proofs.KeptKeys.{satisfied_elsewhere, still_satisfied}
use Rattle.move_extend.proofs.SatisfiedWants.{want_satisfied}

module _ (ctx : Ctx) (cur next : Config) (m x : Move) (t : List ℕ) (is : next ≡ step cur m) (at : t ≡ table_of (place m)) where
  to_referrer : GivesRemovals ctx.models cur next t x → IsReferrer (rulebook ctx) cur m x
  to_referrer given = record {
    at = given.place;
    item = item_number cur given.place given.at.item;
    want = given.want;
    there = record { at = given.at; wanted = given.wanted; names = given.names; index = refl };
    broken = λ satisfied. given.broken.1 (subst (λ c. IsSatisfied ctx.models c given.want.target given.want.text) (sym is) satisfied);
    move = given.move;
  }

  -- what is wanted in another table is there still
  elsewhere : (w : Want) → IsSatisfied ctx.models cur w.target w.text → w.target.table ≢ t → IsSatisfied ctx.models (step cur m) w.target w.text
  elsewhere w before other =
      satisfied_elsewhere ctx.models cur (step cur m) w.target w.text
      (other_table cur (place m) (part_after cur m) w.target.table (λ same. other (same ∙ sym at))) before

  from_referrer : IsReferrer (rulebook ctx) cur m x → GivesRemovals ctx.models cur next t x
  from_referrer referrer =
      let w : Want = referrer.want in
      let before : IsSatisfied ctx.models cur w.target w.text = want_satisfied ctx.models cur referrer.there.at w referrer.there.wanted in
      let table : w.target.table ≡ t =
      elim (eq_by_cmp name_cmp w.target.table t) as (λ b. eq_by_cmp name_cmp w.target.table t ≡ b → w.target.table ≡ t) [
        | true ↦ λ e. same_by w.target.table t e
        | false ↦ λ e. absurd (referrer.broken (elsewhere w before (apart_by w.target.table t e)))
      ] refl in
      record {
        at = referrer.there.at;
        want = w;
        wanted = referrer.there.wanted;
        broken = (table, λ satisfied. referrer.broken (subst (λ c. IsSatisfied ctx.models c w.target w.text) is satisfied));
        place = referrer.at;
        names = referrer.there.names;
        move = referrer.move ∙ ap (removal referrer.at) (sym referrer.there.index);
      }

  pub referrers : GivesRemovals ctx.models cur next t x ↔ IsReferrer (rulebook ctx) cur m x
  referrers = (to_referrer, from_referrer)

  -- where each key is kept there is none
  pub no_referrer : KeepsKeys cur next t → ¬ IsReferrer (rulebook ctx) cur m x
  no_referrer keeps referrer =
      let given = from_referrer referrer in
      let w : Want = given.want in
      given.broken.1
      (still_satisfied ctx.models cur next w.target w.text
      (subst (KeepsKeys cur next) (sym given.broken.0) keeps)
      (want_satisfied ctx.models cur given.at w given.wanted))

-- nothing is found where each key is kept
pub no_removals : (ctx : Ctx) (cur next : Config) (m : Move) (t : List ℕ) → next ≡ step cur m → t ≡ table_of (place m) → KeepsKeys cur next t → (found : List Move)
    → found ≡ [] → Appends (IsReferrer (rulebook ctx) cur m) [] found
no_removals ctx cur next m t is at keeps found empty =
    appends_found (IsReferrer (rulebook ctx) cur m) found
    (finds_none (IsReferrer (rulebook ctx) cur m) [] found empty (λ x. no_referrer ctx cur next m x t is at keeps))
