-- What a listed move is, at its own place.
use Rattle.std.proofs.Common.{◌≡◌, ◌⊎◌, ℕ, zero, suc, ◌<◌, List, [], ◌∷◌, length, Bool, true, false, slice_get, Option, Some, None, is_some, option_and_then, IsSome, IsSomeAnd, if◌then◌else◌, inl, inr, refl, sym, subst}
use Rattle.std.specs.Option.{option_map_or}
use Rattle.std.proofs.lemmas.Option.{slice_get_within}
use Rattle.conf_doc.specs.Changes.{part_at, HasPlace}
use Rattle.conf_doc.specs.declared.configuration.Config.{Config}
use Rattle.conf_doc.specs.declared.parts.Part.{Part}
use Rattle.move_core.specs.Contexts.{rulebook}
use Rattle.move_core.specs.Extensions.{IsDelete, IsExtension, IsReferrer, IsRequired, IsUpper, as_in_goal, removal, required_part, rule_field, upper_place}
use Rattle.move_core.specs.Generated.{IsFieldMove, IsItemMove, IsKeyRemove, IsTableMove}
use Rattle.move_core.specs.Listed.{LeadsTo}
use Rattle.move_core.specs.Moves.{IsDefined, Place, list_at, list_in, place}
use Rattle.move_core.specs.declared.moves.Generated.{Generated}
use Rattle.move_core.specs.declared.moves.Move.{Move}
use Rattle.move_core.specs.declared.moves.Move.TheVariants.{Add, Remove, Replace, AddItem, RemoveItem}
use Rattle.plan_check.specs.Beginnings.{Begins, IsListedAt}
use Rattle.plan_check.specs.Candidates.{GivesSome, IsPlainAt, IsPut}
use Rattle.plan_check.specs.NewEntries.{AddsNew}
use Rattle.plan_check.specs.declared.here.Here.{Here}
use Rattle.plan_check.proofs.Following.{some_and}
use Rattle.plan_check.proofs.Generators.{IsSomeCase, case_of}

pub is_some_of : {A : Type 0} (o : Option A) (a : A) → o ≡ Some a → IsSome o
is_some_of o a is = subst IsSome (sym is) refl

-- a rule's field at a key of cur gets its required value
pub record PutsRequired (h : Here) (m : Move) : Type 0 where
  pub table : List ℕ
  pub key : List ℕ
  pub entry : HasPlace h.cur.now (table ∷ key ∷ [])
  pub gives : GivesSome table key h.ctx.now.settings.required m

-- what a listed move is
abbrev pub IsShaped : Here → Move → Type 0
IsShaped h m = (IsPlainAt h (place m) m ⊎ PutsRequired h m) ⊎ AddsNew h m

module _ (h : Here) where
  -- ---- what stands at places

  pub removes : (p : Place) → IsPlainAt h p (Remove p)
  removes p = inr (inr refl)

  pub adds_goals : (p : Place) (x : Part) → part_at h.goal.now p ≡ Some x → IsPlainAt h p (Add p x)
  adds_goals p x is = inl (inl (record { part = x; there = is; puts = inr refl }))

  replaces_goals : (p : Place) (x : Part) → part_at h.goal.now p ≡ Some x → IsPlainAt h p (Replace p x)
  replaces_goals p x is = inl (inl (record { part = x; there = is; puts = inl refl }))

  -- ---- generated moves

  of_table : (m : Move) → IsTableMove h.cur.now h.goal.now m → IsPlainAt h (place m) m
  of_table (Add p x) is = adds_goals p x is.2
  of_table (Remove p) is = removes p
  of_table (Replace p x) is = absurd is
  of_table (AddItem p i s) is = absurd is
  of_table (RemoveItem p i) is = absurd is

  of_key : (m : Move) → IsKeyRemove h.cur.now h.goal.now m → IsPlainAt h (place m) m
  of_key (Add p x) is = absurd is
  of_key (Remove p) is = removes p
  of_key (Replace p x) is = absurd is
  of_key (AddItem p i s) is = absurd is
  of_key (RemoveItem p i) is = absurd is

  of_field : (m : Move) → IsFieldMove h.cur.now h.goal.now m → IsPlainAt h (place m) m
  of_field (Add p x) is = adds_goals p x is.3
  of_field (Remove p) is = removes p
  of_field (Replace p x) is = replaces_goals p x is.2
  of_field (AddItem p i s) is = absurd is
  of_field (RemoveItem p i) is = absurd is

  some_in : {A : Type 0} (P : A → Type 0) (o : Option A) (a : A) → o ≡ Some a → P a → IsSomeAnd o P
  some_in P o a is has = subst (λ x. IsSomeAnd x P) (sym is) has

  of_item : (m : Move) → IsItemMove h.cur.now h.goal.now m → IsPlainAt h (place m) m
  of_item (Add p x) is = absurd is
  of_item (Remove p) is = absurd is
  of_item (Replace p x) is = absurd is
  of_item (AddItem p i s) is = inr (inl (record { i = i; text = s; there = some_in (λ items. slice_get items i ≡ Some s) (list_at h.goal.now p) is.0.new is.0.there is.1.0; move = refl }))
  of_item (RemoveItem p i) is =
      let at = some_and (slice_get is.0.old i) is.1 in
      inl (inr (record { i = i; there = some_in (λ items. i < length items) (list_at h.cur.now p) is.0.old is.0.here (slice_get_within is.0.old i at.0 at.1); move = refl }))

  of_case : (m : Move) → IsSomeCase h m → IsShaped h m
  of_case m (inl (inl is)) = inl (inl (of_table m is))
  of_case m (inl (inr (inl is))) = inl (inl (of_key m is))
  of_case m (inl (inr (inr (inl is)))) = inl (inl (of_field m is))
  of_case m (inl (inr (inr (inr is)))) = inl (inl (of_item m is))
  of_case m (inr is) = inr is

  -- ---- extended moves

  as_goal : (p : Place) (o : Option Part) → part_at h.goal.now p ≡ o → IsPlainAt h (place (option_map_or (Replace p) o (Remove p))) (option_map_or (Replace p) o (Remove p))
  as_goal p None is = removes p
  as_goal p (Some x) is = replaces_goals p x is

  of_upper : (m x : Move) → IsUpper h.goal.now m x → IsPlainAt h (place x) x
  of_upper m x is =
      let at = some_and {P = λ p. x ≡ as_in_goal h.goal.now p} (upper_place m) is in
      subst (λ y. IsPlainAt h (place y) y) (sym at.2) (as_goal at.0 (part_at h.goal.now at.0) refl)

  of_delete : (m x : Move) → IsDelete m x → IsPlainAt h (place x) x
  of_delete (Add p v) x is = absurd is
  of_delete (Remove p) x is = absurd is
  of_delete (Replace p v) x is = subst (λ y. IsPlainAt h (place y) y) (sym is) (removes p)
  of_delete (AddItem p i v) x is = absurd is
  of_delete (RemoveItem p i) x is = absurd is

  of_removal : (p : Place) (item : Option ℕ) → IsDefined h.cur.now (removal p item) → IsPlainAt h (place (removal p item)) (removal p item)
  of_removal p None is = removes p
  of_removal p (Some i) is = inl (inr (record { i = i; there = is; move = refl }))

  of_referrer : (m x : Move) → IsDefined h.cur.now x → IsReferrer (rulebook h.ctx.now) h.cur.now m x → IsPlainAt h (place x) x
  of_referrer m x defined is =
      subst (λ y. IsPlainAt h (place y) y) (sym is.move) (of_removal is.at is.item (subst (IsDefined h.cur.now) is.move defined))

  puts : (p : Place) (v : Part) (b : Bool) → IsPut p v (if b then Replace p v else Add p v)
  puts p v true = inl refl
  puts p v false = inr refl

  of_required : (m x : Move) → IsRequired (rulebook h.ctx.now) h.cur.now m x → PutsRequired h x
  of_required m x is =
      let r = is.rule in
      let p = rule_field r is.key in
      record {
        table = r.table;
        key = is.key;
        entry = is.before;
        gives = record {
          item = r;
          there = is.listed;
          is = (refl, subst (IsPut p (required_part r)) (sym is.move) (puts p (required_part r) (is_some (part_at h.cur.now p))));
        };
      }

  of_extension : (kind : ℕ) (m x : Move) → IsDefined h.cur.now x → IsExtension (rulebook h.ctx.now) h.cur.now h.goal.now kind m x → IsShaped h x
  of_extension kind m x defined (inl is) = inl (inl (of_upper m x is.1))
  of_extension kind m x defined (inr (inl is)) = inl (inl (of_delete m x is.1))
  of_extension kind m x defined (inr (inr (inl is))) = inl (inl (of_referrer m x defined is.1))
  of_extension kind m x defined (inr (inr (inr is))) = inl (inr (of_required m x is.1))

  by_depth : (first : Generated) (depth : ℕ) (m : Move) → IsDefined h.cur.now m → Begins h first.mv → LeadsTo (rulebook h.ctx.now) h.cur.now h.goal.now first.mv depth m → IsShaped h m
  by_depth first zero m defined begins leads = subst (IsShaped h) (sym leads) (of_case first.mv (case_of h first.mv begins))
  by_depth first (suc depth) m defined begins (y, leads, more) = of_extension more.0 y m defined more.1

  pub shape_of : (m : Move) → IsDefined h.cur.now m → IsListedAt h m → IsShaped h m
  shape_of m defined is = by_depth is.first is.depth m defined (record { first = is.first; generated = is.generated; move = refl }) is.leads

  -- ---- the place of such a move is in cur or in goal

  list_there : (c : Config) (p : Place) (P : List (List ℕ) → Type 0) (o : Option Part) → part_at c p ≡ o → IsSomeAnd (option_and_then list_in o) P → IsSome o
  list_there c p P None is has = absurd has
  list_there c p P (Some x) is has = refl

  pub reached : (m : Move) → IsDefined h.cur.now m → (p : Place) → place m ≡ p → IsPlainAt h p m → HasPlace h.cur.now p ⊎ HasPlace h.goal.now p
  reached m defined p at (inl (inl goals)) = inr (is_some_of _ goals.part goals.there)
  reached m defined p at (inl (inr item)) = inl (list_there h.cur.now p (λ items. item.i < length items) (part_at h.cur.now p) refl item.there)
  reached m defined p at (inr (inl item)) = inr (list_there h.goal.now p (λ items. slice_get items item.i ≡ Some item.text) (part_at h.goal.now p) refl item.there)
  reached m defined p at (inr (inr is)) = inl (subst (IsDefined h.cur.now) is defined)
