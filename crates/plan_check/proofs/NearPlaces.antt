-- Where what precedes a move may stand, and that it is reached there.
use Rattle.std.proofs.Common.{◌≡◌, ◌≢◌, ◌⊎◌, ℕ, ◌<◌, List, [], ◌∷◌, length, map, slice_get, Contains, Option, Some, None, option_map, option_and_then, IsSome, inl, inr, refl, sym, ap, ◌∙◌, subst, arith, is_some}
use Rattle.std.specs.Option.{option_map_or}
use Rattle.conf_check.specs.Acceptance.{IsSatisfied}
use Rattle.conf_check.specs.Wants.{Want}
use Rattle.conf_doc.specs.Changes.{entry_at, part_at, HasPlace}
use Rattle.conf_doc.specs.Pairs.{find}
use Rattle.conf_doc.specs.declared.configuration.Config.{Config}
use Rattle.conf_doc.specs.declared.configuration.Entry.{Entry}
use Rattle.conf_doc.specs.declared.configuration.Table.{Table}
use Rattle.conf_doc.specs.declared.parts.Part.TheVariants as part
use Rattle.key_split.specs.Key.{key_parts}
use Rattle.move_core.specs.Contexts.{HasWant, rulebook}
use Rattle.move_core.specs.Extensions.{IsDelete, IsExtension, IsReferrer, IsRequired, required_part, rule_field, upper, upper_place}
use Rattle.move_core.specs.Moves.{Place, index, place, step}
use Rattle.move_core.specs.Services.{table_of}
use Rattle.move_core.specs.declared.moves.Move.{Move}
use Rattle.move_core.specs.declared.moves.Move.TheVariants.{Add, Remove, Replace, AddItem, RemoveItem}
use Rattle.move_core.specs.declared.settings.Requiring.{Requiring}
use Rattle.yang_model.specs.ModelSets.{ModelSet}
use Rattle.plan_check.specs.Backwards.{Leads}
use Rattle.plan_check.specs.Candidates.{GivesSome, IsInEntry, IsPlainAt}
use Rattle.plan_check.specs.Nearby.{AreWanted, HasRequiring, HasWanted, IsIn, IsInTables, IsNear, IsRequiringIn, IsWantedIn}
use Rattle.plan_check.specs.Keeping.{requiring_place}
use Rattle.plan_check.specs.declared.preceding.Sought.{Sought}
use Rattle.plan_check.proofs.AtKeys.{by_key, by_table, found_key, key_found, second_name}
use Rattle.plan_check.proofs.Following.{put_place, removal_index, removal_place, upper_then}
use Rattle.plan_check.proofs.RequiringPlaces.{changed_key, changed_table}
use Rattle.plan_check.proofs.SatisfiedWants.{want_satisfied}

same_Some : {A : Type 0} (x y : A) → Some x ≡ Some y → x ≡ y
same_Some x y e = cc

-- ---- the place above, and the same place

module _ (t : List ℕ) where
  near_same : (p : Place) (key : Option (List ℕ)) → IsIn p t key → IsNear p t key
  near_same p None is = is
  near_same p (Some k) is = (is.0, inr is.1)

  near_above : (p q : Place) → upper p ≡ Some q → (key : Option (List ℕ)) → IsIn p t key → IsNear q t key
  near_above [] q above key is = cc
  near_above (u ∷ []) q above key is = cc
  near_above (u ∷ j ∷ []) q above None is = (subst (λ r. table_of r ≡ t) (same_Some (u ∷ []) q above) is.0, tt)
  near_above (u ∷ j ∷ []) q above (Some k) is =
      let same = same_Some (u ∷ []) q above in
      (subst (λ r. table_of r ≡ t) same is.0, inl (subst (λ r. length r < 2) same (omega arith)))
  near_above (u ∷ j ∷ f ∷ []) q above None is = (subst (λ r. table_of r ≡ t) (same_Some (u ∷ j ∷ []) q above) is.0, tt)
  near_above (u ∷ j ∷ f ∷ []) q above (Some k) is =
      let same = same_Some (u ∷ j ∷ []) q above in
      (subst (λ r. table_of r ≡ t) same is.0, inr (subst (λ r. slice_get r 1 ≡ Some k) same is.1))
  near_above (u ∷ j ∷ f ∷ n ∷ ns) q above key is = cc

  near_upper : (m : Move) (q : Place) → upper_place m ≡ Some q → (key : Option (List ℕ)) → IsIn (place m) t key → IsNear q t key
  near_upper (Add p x) q above key is = near_above p q above key is
  near_upper (Remove p) q above key is = near_above p q above key is
  near_upper (Replace p x) q above key is = near_above p q above key is
  near_upper (AddItem p i x) q above key is = near_same q key (subst (λ r. IsIn r t key) (same_Some p q above) is)
  near_upper (RemoveItem p i) q above key is = near_same q key (subst (λ r. IsIn r t key) (same_Some p q above) is)

  near_delete : (m x : Move) → IsDelete m x → (key : Option (List ℕ)) → IsIn (place m) t key → IsNear (place x) t key
  near_delete (Add p v) x is key within = absurd is
  near_delete (Remove p) x is key within = absurd is
  near_delete (Replace p v) x is key within = subst (λ y. IsNear (place y) t key) (sym is) (near_same p key within)
  near_delete (AddItem p i v) x is key within = absurd is
  near_delete (RemoveItem p i) x is key within = absurd is

-- ---- a want that a move leaves unsatisfied

pub entry_some : (k : List ℕ) (o : Option Table) → Contains (option_map_or (map (λ e. e.0)) o []) k → IsSome (option_and_then (find k) o)
entry_some k None h = absurd (omega (arith, h.1))
entry_some k (Some table) h = key_found k table h

pub some_entry : (k : List ℕ) (o : Option Table) → IsSome (option_and_then (find k) o) → Contains (option_map_or (map (λ e. e.0)) o []) k
some_entry k None some = absurd cc
some_entry k (Some table) some = found_key k table some

module _ (models : ModelSet) (cur : Config) (m : Move) (w : Want) (before : IsSatisfied models cur w.target w.text) (broken : ¬ IsSatisfied models (step cur m) w.target w.text) where
  gone : entry_at cur w.target.table before.key ≡ entry_at (step cur m) w.target.table before.key → ⊥
  gone same = broken (record {
    key = before.key;
    there = some_entry before.key (find w.target.table (step cur m)) (subst IsSome same (entry_some before.key (find w.target.table cur) before.there));
    belongs = before.belongs;
    part = before.part;
  })

  -- it is for the move's table
  broken_table : w.target.table ≡ table_of (place m)
  broken_table = elim (by_table cur (step cur m) m (table_of (place m)) refl refl w.target.table before.key) [ inl same ↦ absurd (gone same) | inr table ↦ table ]

  -- and for its key, where its place names one
  broken_key : (k : List ℕ) → slice_get (place m) 1 ≡ Some k → slice_get (key_parts k) w.target.part ≡ Some w.text
  broken_key k named = elim (by_key cur (step cur m) m w.target.table k refl broken_table (second_name (place m) k named) before.key) [
    | inl same ↦ absurd (gone same)
    | inr same ↦ subst (λ j. slice_get (key_parts j) w.target.part ≡ Some w.text) same before.part
  ]

  pub broken_in : (t : List ℕ) (key : Option (List ℕ)) → IsIn (place m) t key → IsWantedIn w t key
  broken_in t None is = (broken_table ∙ is.0, tt)
  broken_in t (Some k) is = (broken_table ∙ is.0, broken_key k is.1)

-- ---- what precedes the sought move

module _ (s : Sought) (wanted : AreWanted s) (m : Move) (t : List ℕ) (key : Option (List ℕ)) (within : IsIn (place m) t key) where
  abbrev Near : Type 0
  Near = IsNear (place s.mv.now) t key ⊎ (HasWanted s t key ⊎ HasRequiring s t key)

  of_referrer : IsReferrer (rulebook s.here.now.ctx.now) s.here.now.cur.now m s.mv.now → HasWanted s t key
  of_referrer is =
      let at : place s.mv.now ≡ is.at = ap place is.move ∙ removal_place is.at is.item in
      let one = wanted.all is.item is.want (subst (λ p. HasWant s.here.now.ctx.now.models s.here.now.cur.now p is.item is.want) (sym at) is.there) in
      let before = want_satisfied s.here.now.ctx.now.models s.here.now.cur.now is.there.at is.want is.there.wanted in
      record {
        at = one.at;
        there = one.there;
        is = (
          subst (λ w. IsWantedIn w t key) (sym one.is.want)
              (broken_in s.here.now.ctx.now.models s.here.now.cur.now m is.want before is.broken t key within),
          one.is.index ∙ sym (ap index is.move ∙ removal_index is.at is.item),
        );
      }

  of_required : IsRequired (rulebook s.here.now.ctx.now) s.here.now.cur.now m s.mv.now → HasRequiring s t key
  of_required is =
      let r = is.rule in
      let cur = s.here.now.cur.now in
      record {
        rule = r;
        there = is.listed;
        is = record {
          named = is.key;
          is = ap place is.move ∙ put_place (rule_field r is.key) (required_part r) (is_some (part_at cur (rule_field r is.key)));
          requiring = is.changes.requires.requiring;
          there = is.changes.requires.listed;
          in_it = requiring key within;
        };
      }
    where
      q : Requiring
      q = is.changes.requires.requiring

      differs : part_at s.here.now.cur.now (requiring_place q is.changes.requires.key) ≢ part_at (step s.here.now.cur.now m) (requiring_place q is.changes.requires.key)
      differs = subst (λ p. part_at s.here.now.cur.now p ≢ part_at (step s.here.now.cur.now m) p) is.changes.requires.is is.changes.differs

      requiring : (k : Option (List ℕ)) → IsIn (place m) t k → IsRequiringIn q is.key t k
      requiring None at = (changed_table s.here.now.cur.now (step s.here.now.cur.now m) m refl q is.changes.requires.key differs ∙ at.0, tt)
      requiring (Some k) at = (
        changed_table s.here.now.cur.now (step s.here.now.cur.now m) m refl q is.changes.requires.key differs ∙ at.0,
        subst (λ j. slice_get (key_parts j) q.part ≡ Some is.key) (changed_key s.here.now.cur.now (step s.here.now.cur.now m) m refl q is.changes.requires.key differs k at.1) is.changes.requires.part,
      )

  by_kind : (kind : ℕ) → IsExtension (rulebook s.here.now.ctx.now) s.here.now.cur.now s.here.now.goal.now kind m s.mv.now → Near
  by_kind kind (inl is) = inl (near_upper t m (place s.mv.now) (upper_then s.here.now.goal.now m s.mv.now is.1).1 key within)
  by_kind kind (inr (inl is)) = inl (near_delete t m s.mv.now is.1 key within)
  by_kind kind (inr (inr (inl is))) = inr (inl (of_referrer is.1))
  by_kind kind (inr (inr (inr is))) = inr (inr (of_required is.1))

  -- one of these is so of what leads to the sought move
  pub near : Leads s.here.now m s.mv.now → Near
  near leads = by_kind leads.1.0 leads.1.1

-- ---- what is there is reached

in_config : (c : Config) (t : List ℕ) → IsSome (find t c) → Contains (map (λ e. e.0) c) t
in_config c t some = found_key t c some

table_some : (o : Option Table) → IsSome (option_map part.Table o) → IsSome o
table_some None h = h
table_some (Some x) h = refl

entry_in : (k : List ℕ) (o : Option Table) → IsSome (option_and_then (λ table. option_map part.Entry (find k table)) o) → IsSome o × Contains (option_map_or (map (λ e. e.0)) o []) k
entry_in k None h = absurd cc
entry_in k (Some table) h = (refl, found_key k table (some (find k table) h))
  where
    some : (o : Option Entry) → IsSome (option_map part.Entry o) → IsSome o
    some None has = has
    some (Some e) has = refl

field_in : (k f : List ℕ) (o : Option Table) → IsSome (option_and_then (λ table. option_and_then (λ entry. option_map part.Value (find f entry)) (find k table)) o)
    → IsSome (option_and_then (λ table. option_map part.Entry (find k table)) o)
field_in k f None h = h
field_in k f (Some table) h = some (find k table) h
  where
    some : (o : Option Entry) → IsSome (option_and_then (λ entry. option_map part.Value (find f entry)) o) → IsSome (option_map part.Entry o)
    some None has = has
    some (Some e) has = refl

field_of : (k f : List ℕ) (o : Option Table)
    → option_and_then (λ table. option_and_then (λ entry. option_map part.Value (find f entry)) (find k table)) o ≡ option_and_then (λ entry. option_map part.Value (find f entry)) (option_and_then (find k) o)
field_of k f None = refl
field_of k f (Some table) = refl

value_some : {A B : Type 0} (g : A → B) (o : Option A) → IsSome (option_map g o) → IsSome o
value_some g None h = h
value_some g (Some x) h = refl

-- a field that stands in an entry is one of its names
pub field_named : (c : Config) (t k f : List ℕ) (e : Entry) → entry_at c t k ≡ Some e → HasPlace c (t ∷ k ∷ f ∷ []) → Contains (map (λ v. v.0) e) f
field_named c t k f e at has =
    let here = subst IsSome (field_of k f (find t c) ∙ ap (option_and_then (λ entry. option_map part.Value (find f entry))) at) has in
    found_key f e (value_some part.Value (find f e) here)

-- none stands in one that isn't there
pub no_field : (c : Config) (t k f : List ℕ) → entry_at c t k ≡ None → ¬ HasPlace c (t ∷ k ∷ f ∷ [])
no_field c t k f at has =
    let here = subst IsSome (field_of k f (find t c) ∙ ap (option_and_then (λ entry. option_map part.Value (find f entry))) at) has in
    absurd cc

-- what leads to the sought move is in the tables of a configuration that has its place
module _ (s : Sought) (m : Move) (leads : Leads s.here.now m s.mv.now) (c : Config) where
  in_entry : (t k : List ℕ) → HasPlace c (t ∷ k ∷ []) → IsInEntry s.here.now c t k m → IsInTables s c (map (λ e. e.0) c) m
  in_entry t k has is =
      let e = entry_in k (find t c) has in
      record { item = t; there = in_config c t e.0; is = (inl (record { item = k; there = e.1; is = (is, leads) }), leads) }

  pub plain_in : (p : Place) → HasPlace c p → IsPlainAt s.here.now p m → IsInTables s c (map (λ e. e.0) c) m
  plain_in [] has is = absurd cc
  plain_in (t ∷ []) has is = record { item = t; there = in_config c t (table_some (find t c) has); is = (inr is, leads) }
  plain_in (t ∷ k ∷ []) has is = in_entry t k has (inr (inl is))
  plain_in (t ∷ k ∷ f ∷ []) has is = in_entry t k (field_in k f (find t c) has) (inl (record { field = f; there = has; is = is }))
  plain_in (t ∷ k ∷ f ∷ n ∷ ns) has is = absurd cc

  -- so is a rule's field at a key that it has
  pub required_in : (t k : List ℕ) → HasPlace c (t ∷ k ∷ []) → GivesSome t k s.here.now.ctx.now.settings.required m
      → IsInTables s c (map (λ e. e.0) c) m
  required_in t k has gives = in_entry t k has (inr (inr gives))
