-- Positions of a want and their names.
use Rattle.std.proofs.Common.{◌≡◌, ◌≢◌, ◌↔◌, ◌⊎◌, IsTrue, ℕ, Bool, true, false, List, [], ◌∷◌, slice_get, inl, inr, refl, sym, ap, ◌∙◌, subst, true≢false}
use Rattle.std.specs.Prelude.{Option, Some, None, is_some, option_map, option_and_then}
use denote.Ref.{Bor}
use Rattle.conf_doc.specs.declared.configuration.Config.{Config}
use Rattle.conf_doc.specs.declared.configuration.Entry.{Entry}
use Rattle.conf_doc.specs.declared.configuration.Table.{Table}
use Rattle.conf_doc.specs.declared.configuration.Value.{Value}
use Rattle.conf_check.specs.Rows.{IsEntryAt}
use Rattle.conf_check.specs.WantRuns.{GivesFirst, IsDone, IsWantAhead}
use Rattle.conf_check.specs.Wants.{Want, IsNamed, IsWantAt, field_name, want_of}
use Rattle.conf_check.specs.declared.want_iter.WantAt.{WantAt}
use Rattle.conf_check.specs.declared.want_iter.WantIter.{WantIter}
use Rattle.conf_check.specs.declared.want_iter.WantPlace.{WantPlace}
use Rattle.move_core.specs.Contexts.{HasWant, field_names, item_at, names_of}
use Rattle.yang_model.specs.ModelSets.{ModelSet}
use Rattle.move_gen.specs.FieldWants.{AreElsewhere}
use Rattle.move_gen.proofs.OwnPlaces.{mapped_as}

same_Some : {A : Type 0} (x y : A) → Some x ≡ Some y → x ≡ y
same_Some x y e = cc

-- ---- fields

one_name : (f : List ℕ) (x : Option (List ℕ × Value)) → option_map (λ g. g.0 ∷ []) x ≡ Some (f ∷ []) → option_map (λ g. Some g.0) x ≡ Some (Some f)
one_name f None is = cc
one_name f (Some g) is = let same : g.0 ≡ f = cc in ap (λ n. Some (Some n)) same

name_one : (f : List ℕ) (x : Option (List ℕ × Value)) → option_map (λ g. Some g.0) x ≡ Some (Some f) → option_map (λ g. g.0 ∷ []) x ≡ Some (f ∷ [])
name_one f None is = cc
name_one f (Some g) is = let same : g.0 ≡ f = cc in ap (λ n. Some (n ∷ [])) same

field_one : (fields : Entry) (o : Option ℕ) (f : List ℕ) → field_names fields o ≡ Some (f ∷ []) → field_name fields o ≡ Some (Some f)
field_one fields None f is = cc
field_one fields (Some i) f is = one_name f (slice_get fields i) is

one_field : (fields : Entry) (o : Option ℕ) (f : List ℕ) → field_name fields o ≡ Some (Some f) → field_names fields o ≡ Some (f ∷ [])
one_field fields None f is = cc
one_field fields (Some i) f is = name_one f (slice_get fields i) is

-- ---- places

module _ (c : Config) (t k f : List ℕ) (p : WantPlace) where
  in_entry : (u : List ℕ) (table : Table) (o : Option (List ℕ × Entry)) → slice_get c p.table ≡ Some (u, table) → slice_get table p.key ≡ o
      → option_and_then (λ e. option_map (λ g. u ∷ e.0 ∷ g) (field_names e.1 p.field)) o ≡ Some (t ∷ k ∷ f ∷ [])
      → (entry : IsEntryAt c t k p.table p.key) × (field_name entry.fields p.field ≡ Some (Some f))
  in_entry u table None at at_key is = cc
  in_entry u table (Some e) at at_key is =
      let names = mapped_as (λ g. u ∷ e.0 ∷ g) (field_names e.1 p.field) (t ∷ k ∷ f ∷ []) is in
      let said : t ∷ k ∷ f ∷ [] ≡ u ∷ e.0 ∷ names.0 = names.2 in
      let first : u ≡ t = cc in
      let second : e.0 ≡ k = cc in
      let third : names.0 ≡ f ∷ [] = cc in (
        record { entries = table; at = at ∙ (λ i. Some (first i, table)); fields = e.1; at_key = at_key ∙ (λ i. Some (second i, e.1)) },
        field_one e.1 p.field f (names.1 ∙ ap Some third),
      )

  in_config : (o : Option (List ℕ × Table)) → slice_get c p.table ≡ o
      → option_and_then (λ u. option_and_then (λ e. option_map (λ g. u.0 ∷ e.0 ∷ g) (field_names e.1 p.field)) (slice_get u.1 p.key)) o ≡ Some (t ∷ k ∷ f ∷ [])
      → (entry : IsEntryAt c t k p.table p.key) × (field_name entry.fields p.field ≡ Some (Some f))
  in_config None at is = cc
  in_config (Some u) at is = in_entry u.0 u.1 (slice_get u.1 p.key) at refl is

  pub names_at : names_of c p ≡ Some (t ∷ k ∷ f ∷ []) → (entry : IsEntryAt c t k p.table p.key) × (field_name entry.fields p.field ≡ Some (Some f))
  names_at is = in_config (slice_get c p.table) refl is

  at_names : (entry : IsEntryAt c t k p.table p.key) → field_name entry.fields p.field ≡ Some (Some f) → names_of c p ≡ Some (t ∷ k ∷ f ∷ [])
  at_names entry is =
      ap (option_and_then (λ u. option_and_then (λ e. option_map (λ g. u.0 ∷ e.0 ∷ g) (field_names e.1 p.field)) (slice_get u.1 p.key))) entry.at
      ∙ ap (option_and_then (λ e. option_map (λ g. t ∷ e.0 ∷ g) (field_names e.1 p.field))) entry.at_key
      ∙ ap (option_map (λ g. t ∷ k ∷ g)) (one_field entry.fields p.field f is)

-- at one place stands one entry
same_fields : (c : Config) (t k u l : List ℕ) (i j : ℕ) (a : IsEntryAt c t k i j) (b : IsEntryAt c u l i j) → a.fields ≡ b.fields
same_fields c t k u l i j a b =
    let tables : a.entries ≡ b.entries = ap (λ (q : List ℕ × Table). q.1) (same_Some (t, a.entries) (u, b.entries) (sym a.at ∙ b.at)) in
    ap (λ (q : List ℕ × Entry). q.1) (same_Some (k, a.fields) (l, b.fields) (sym a.at_key ∙ ap (λ es. slice_get es j) tables ∙ b.at_key))

-- ---- a want that was handed out

module _ (c : Config) (t k f : List ℕ) (p : WantPlace) (at : WantAt) (named : IsNamed c p at) (within : IsEntryAt c t k p.table p.key) where
  hits : option_map (λ s. s.now) at.field ≡ Some f → names_of c p ≡ Some (t ∷ k ∷ f ∷ [])
  hits is =
      at_names c t k f p within
      (ap (λ e. field_name e p.field) (same_fields c t k at.table.now at.key.now p.table p.key within named.entry) ∙ named.field ∙ ap Some is)

  misses : names_of c p ≡ Some (t ∷ k ∷ f ∷ []) → option_map (λ s. s.now) at.field ≡ Some f
  misses is =
      let there = names_at c t k f p is in
      same_Some _ _ (sym named.field ∙ ap (λ e. field_name e p.field) (same_fields c at.table.now at.key.now t k p.table p.key named.entry there.0) ∙ there.1)

-- where no field is given it isn't that one
pub unnamed : (f : List ℕ) (o : Option (Bor (List ℕ))) (b : Bool) → b ≡ is_some o → b ≡ false → IsTrue b ↔ (option_map (λ s. s.now) o ≡ Some f)
unnamed f None b is fails = (λ t. absurd (true≢false (sym t ∙ fails)), λ e. absurd cc)
unnamed f (Some s) b is fails = absurd (true≢false (sym is ∙ fails))

-- ---- the walk

module _ (models : ModelSet) (c : Config) (t k f : List ℕ) (s s' : WantIter) (at : WantAt) (inv : AreElsewhere models c t k f s) (b : Bool) (says : IsTrue b ↔ (option_map (λ x. x.now) at.field ≡ Some f))
    (gives : GivesFirst s at s') where
  place_named : IsNamed c gives.place at
  place_named = subst (λ x. IsNamed x gives.place at) inv.config gives.named

  here : IsEntryAt c t k gives.place.table gives.place.key
  here = inv.within gives.place (want_of at.want) gives.wanted

  -- the want is at the field
  pub stands : b ≡ true → HasWant models c (t ∷ k ∷ f ∷ []) (item_at c (t ∷ k ∷ f ∷ []) gives.place.item) (want_of at.want)
  stands is_there = record {
    at = gives.place;
    wanted = subst (λ m. IsWantAt m c gives.place (want_of at.want)) inv.models (subst (λ x. IsWantAt s.models.now x gives.place (want_of at.want)) inv.config gives.wanted.1);
    names = hits c t k f gives.place at place_named here (says.0 is_there);
    index = refl;
  }

  -- it isn't
  pub passes : b ≡ false → s'.models.now ≡ s.models.now → s'.config.now ≡ s.config.now → AreElsewhere models c t k f s'
  passes isnt models_stay config_stays = record {
    models = models_stay ∙ inv.models;
    config = config_stays ∙ inv.config;
    rest = λ p w entry want. go p w (inv.rest p w entry want);
    within = λ p w ahead. inv.within p w (gives.behind p w ahead).1;
  }
    where
      by : (p : WantPlace) (w : Want) → ((p ≡ gives.place) × (w ≡ want_of at.want)) ⊎ IsWantAhead s' p w → (names_of c p ≢ Some (t ∷ k ∷ f ∷ [])) ⊎ IsWantAhead s' p w
      by p w (inl same) =
          inl (λ names. true≢false (sym (says.1 (misses c t k f gives.place at place_named here (subst (λ q. names_of c q ≡ Some (t ∷ k ∷ f ∷ [])) same.0 names))) ∙ isnt))
      by p w (inr ahead) = inr ahead

      go : (p : WantPlace) (w : Want) → (names_of c p ≢ Some (t ∷ k ∷ f ∷ [])) ⊎ IsWantAhead s p w → (names_of c p ≢ Some (t ∷ k ∷ f ∷ [])) ⊎ IsWantAhead s' p w
      go p w (inl other) = inl other
      go p w (inr ahead) = by p w (gives.others p w ahead)

-- at the end no want is at the field
pub none_left : (models : ModelSet) (c : Config) (t k f : List ℕ) (s : WantIter) → AreElsewhere models c t k f s → IsDone s → (i : Option ℕ) (w : Want) → ¬ HasWant models c (t ∷ k ∷ f ∷ []) i w
none_left models c t k f s inv done i w h = by (inv.rest h.at w (names_at c t k f h.at h.names).0 h.wanted)
  where
    by : (names_of c h.at ≢ Some (t ∷ k ∷ f ∷ [])) ⊎ IsWantAhead s h.at w → ⊥
    by (inl other) = other h.names
    by (inr ahead) = done h.at w ahead
