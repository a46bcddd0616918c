-- What follows a move, by the cases that are decided.
use Rattle.std.proofs.Common.{◌≡◌, ◌≢◌, ◌↔◌, ◌⊎◌, IsTrue, Bool, true, false, not, true≢false, ℕ, ◌<◌, List, [], ◌∷◌, length, Option, Some, None, is_some, IsSome, IsSomeAnd, if◌then◌else◌, inl, inr, refl, sym, ap, ◌∙◌, subst, arith}
use Rattle.std.specs.Option.{option_map_or}
use Rattle.conf_check.specs.Acceptance.{IsSatisfied}
use Rattle.conf_doc.specs.Changes.{part_at, HasPlace}
use Rattle.conf_doc.specs.declared.configuration.Config.{Config}
use Rattle.conf_doc.specs.declared.parts.Part.{Part}
use Rattle.move_core.specs.Contexts.{rulebook}
use Rattle.move_core.specs.Extensions.{IsDelete, IsExtension, IsReferrer, IsRequired, IsUpper, as_in_goal, removal, required_part, rule_field, upper_place}
use Rattle.move_core.specs.Moves.{Place, index, place, step}
use Rattle.move_core.specs.declared.moves.Move.{Move}
use Rattle.move_core.specs.declared.moves.Move.TheVariants.{Add, Remove, Replace}
use Rattle.plan_check.specs.Beginnings.{Precedes}
use Rattle.plan_check.specs.Broken.{IsReferrerAt}
use Rattle.plan_check.specs.declared.here.Here.{Here}
use Rattle.plan_check.proofs.WantWalks.{long_names}

-- ---- the place above

placed : (p : Place) (o : Option Part) → place (option_map_or (Replace p) o (Remove p)) ≡ p
placed p None = refl
placed p (Some x) = refl

-- what becomes as in goal is the place
pub place_as : (goal : Config) (p : Place) → place (as_in_goal goal p) ≡ p
place_as goal p = placed p (part_at goal p)

pub some_and : {A : Type 0} {P : A → Type 0} (o : Option A) → IsSomeAnd o P → (a : A) × (o ≡ Some a) × P a
some_and None h = absurd h
some_and (Some a) h = (a, refl, h)

pub upper_if : (goal : Config) (m x : Move) → x ≡ as_in_goal goal (place x) → upper_place m ≡ Some (place x) → IsUpper goal m x
upper_if goal m x is above = subst (λ o. IsSomeAnd o (λ p. x ≡ as_in_goal goal p)) (sym above) is

pub upper_then : (goal : Config) (m x : Move) → IsUpper goal m x → (x ≡ as_in_goal goal (place x)) × (upper_place m ≡ Some (place x))
upper_then goal m x up =
    let at = some_and (upper_place m) up in
    let same : at.0 ≡ place x = sym (place_as goal at.0) ∙ ap place (sym at.2) in
    (at.2 ∙ ap (as_in_goal goal) same, at.1 ∙ ap Some same)

removed_by : (p : Place) (o : Option Part) (b : Bool) → (IsTrue b ↔ IsSome o) → IsTrue (not b) ↔ (Remove p ≡ option_map_or (Replace p) o (Remove p))
removed_by p None true says = let some = says.0 refl in absurd cc
removed_by p None false says = (λ t. refl, λ e. refl)
removed_by p (Some x) true says = (λ t. absurd cc, λ e. absurd (apart x e))
  where
    apart : (x : Part) → Remove p ≡ Replace p x → ⊥
    apart x e = cc
removed_by p (Some x) false says = absurd (true≢false (sym (says.1 refl)))

-- a place becomes as in goal by its remove exactly where goal lacks it
pub removed_as : (goal : Config) (p : Place) (b : Bool) → (IsTrue b ↔ HasPlace goal p) → IsTrue (not b) ↔ (Remove p ≡ as_in_goal goal p)
removed_as goal p b says = removed_by p (part_at goal p) b says

replaced_by : (p : Place) (x : Part) (o : Option Part) → (o ≡ Some x) ↔ (Replace p x ≡ option_map_or (Replace p) o (Remove p))
replaced_by p x None = (λ e. absurd (apart x e), λ e. absurd (other x e))
  where
    apart : (x : Part) → None ≡ Some x → ⊥
    apart x e = cc

    other : (x : Part) → Replace p x ≡ Remove p → ⊥
    other x e = cc
replaced_by p x (Some y) = (λ e. ap (Replace p) (sym (same_Some y x e)), λ e. ap Some (sym (same_part x y e)))
  where
    same_Some : (u v : Part) → Some u ≡ Some v → u ≡ v
    same_Some u v e = cc

    same_part : (u v : Part) → Replace p u ≡ Replace p v → u ≡ v
    same_part u v e = cc

-- by a replace exactly where that is goal's part
pub replaced_as : (goal : Config) (p : Place) (x : Part) → (part_at goal p ≡ Some x) ↔ (Replace p x ≡ as_in_goal goal p)
replaced_as goal p x = replaced_by p x (part_at goal p)

-- and by nothing else
pub other_as : (goal : Config) (p : Place) (m : Move) → ((x : Part) → m ≢ Replace p x) → m ≢ Remove p → m ≢ as_in_goal goal p
other_as goal p m no_replace no_remove e = by (part_at goal p) e
  where
    by : (o : Option Part) → m ≡ option_map_or (Replace p) o (Remove p) → ⊥
    by None is = no_remove is
    by (Some x) is = no_replace x is

-- ---- places

pub removal_place : (p : Place) (item : Option ℕ) → place (removal p item) ≡ p
removal_place p None = refl
removal_place p (Some i) = refl

pub removal_index : (p : Place) (item : Option ℕ) → index (removal p item) ≡ item
removal_index p None = refl
removal_index p (Some i) = refl

pub put_place : (p : Place) (v : Part) (b : Bool) → place (if b then Replace p v else Add p v) ≡ p
put_place p v true = refl
put_place p v false = refl

-- ---- the four cases

-- one of them
abbrev pub IsSomeFollowing : Here → Config → Move → Move → Type 0
IsSomeFollowing h next m x =
    (IsUpper h.goal.now m x ⊎ IsDelete m x)
    ⊎ (IsRequired (rulebook h.ctx.now) h.cur.now m x ⊎ IsReferrerAt h next x)

too_long : (t k : List ℕ) (rest : Place) → length (t ∷ k ∷ rest) < 2 → ⊥
too_long t k rest lt = omega arith

module _ (h : Here) (m x : Move) where
  pub of_upper : IsUpper h.goal.now m x → Precedes h m x
  of_upper is = (1, inl (refl, is))

  pub of_delete : IsDelete m x → Precedes h m x
  of_delete is = (2, inr (inl (refl, is)))

  pub of_required : IsRequired (rulebook h.ctx.now) h.cur.now m x → Precedes h m x
  of_required is = (4, inr (inr (inr (refl, is))))

  module _ (next : Config) (made : next ≡ step h.cur.now m) where
    referrer_if : IsReferrerAt h next x → IsReferrer (rulebook h.ctx.now) h.cur.now m x
    referrer_if is = record {
      at = is.at;
      item = is.item;
      want = is.breaks.want;
      there = is.breaks.there;
      broken = subst (λ c. ¬ IsSatisfied h.ctx.now.models c is.breaks.want.target is.breaks.want.text) made is.breaks.broken;
      move = is.move;
    }

    referrer_then : IsReferrer (rulebook h.ctx.now) h.cur.now m x → IsReferrerAt h next x
    referrer_then is = record {
      at = is.at;
      item = is.item;
      breaks = record {
        want = is.want;
        there = is.there;
        broken = subst (λ c. ¬ IsSatisfied h.ctx.now.models c is.want.target is.want.text) (sym made) is.broken;
      };
      move = is.move;
    }

    pub of_referrer : IsReferrerAt h next x → Precedes h m x
    of_referrer is = (3, inr (inr (inl (refl, referrer_if is))))

    by_kind : (kind : ℕ) → IsExtension (rulebook h.ctx.now) h.cur.now h.goal.now kind m x → IsSomeFollowing h next m x
    by_kind kind (inl is) = inl (inl is.1)
    by_kind kind (inr (inl is)) = inl (inr is.1)
    by_kind kind (inr (inr (inl is))) = inr (inr (referrer_then is.1))
    by_kind kind (inr (inr (inr is))) = inr (inl is.1)

    pub case_of : Precedes h m x → IsSomeFollowing h next m x
    case_of is = by_kind is.0 is.1

  -- nothing refers from a table, and nothing is required of it
  pub no_table : length (place x) < 2 → (next : Config)
      → IsRequired (rulebook h.ctx.now) h.cur.now m x ⊎ IsReferrerAt h next x → ⊥
  no_table short next (inl is) =
      let r = is.rule in
      let at : place x ≡ rule_field r is.key =
      ap place is.move
      ∙ put_place (rule_field r is.key) (required_part r) (is_some (part_at h.cur.now (rule_field r is.key))) in
      too_long r.table is.key (r.field ∷ []) (subst (λ p. length p < 2) at short)
  no_table short next (inr is) =
      let names = long_names h.cur.now is.breaks.there.at is.at is.breaks.there.names in
      let at : place x ≡ is.at = ap place is.move ∙ removal_place is.at is.item in
      too_long names.0 names.1 names.2 (subst (λ p. length p < 2) (at ∙ names.3) short)
