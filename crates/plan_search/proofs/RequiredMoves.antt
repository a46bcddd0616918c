-- Which moves give a rule's field the required value can be told.
use Rattle.std.proofs.Common.{◌≡◌, ◌≢◌, ◌⊎◌, inl, inr, ℕ, List, ◌∷◌, Option, Some, None, is_some, option_to_list, slice_get, unwrap_or, refl, sym, ap, subst, ◌∙◌}
use Rattle.std.specs.List.{Contains}
use Rattle.conf_doc.specs.Changes.{part_at, HasPlace}
use Rattle.conf_doc.specs.declared.configuration.Config.{Config}
use Rattle.conf_doc.specs.declared.configuration.Value.TheVariants.{Text}
use Rattle.conf_doc.specs.declared.parts.Part.{Part}
use Rattle.conf_doc.specs.declared.parts.Part.TheVariants as part
use Rattle.key_split.specs.Key.{key_parts}
use Rattle.yang_pattern.proofs.Decisions.{Told, both, like, same_text, told_true}
use Rattle.yang_model.specs.ModelSets.{table_named}
use Rattle.move_core.specs.Contexts.{IsModelled, rulebook}
use Rattle.move_core.specs.Extensions.{ChangesFor, HasRequired, IsRequired, IsRequiringPlace, put_value, required_part, rule_entry, rule_field}
use Rattle.move_core.specs.Moves.{Place, step}
use Rattle.move_core.specs.declared.contexts.Ctx.{Ctx}
use Rattle.move_core.specs.declared.moves.Move.{Move}
use Rattle.move_core.specs.declared.settings.Required.{Required}
use Rattle.move_core.specs.declared.settings.Requiring.{Requiring}
use Rattle.move_lists.specs.Finite.{IsFinite}
use Rattle.move_lists.specs.MoveKeys.{second_or_first}
use Rattle.move_lists.proofs.FinitePlaces.{IsStanding, finite_standing, has_standing, part_standing}
use Rattle.move_lists.proofs.FiniteSets.{finite_either, finite_image, finite_within}
use Rattle.plan_search.specs.Kits.{moves_told}
use Rattle.plan_search.proofs.Telling.{finite_told, member_told, not_told, same_option, same_part, same_place, some_told}

-- something stands there
pub has_told : (c : Config) (p : Place) → Told (HasPlace c p)
has_told c p = told_true (is_some (part_at c p))

-- ---- requiring places

module _ (r : Required) (k : List ℕ) where
  module _ (at : Place) where
    -- its key, at one of the rule's requiring places
    abbrev IsAtKey : Requiring → Type 0
    IsAtKey q =
        (slice_get (key_parts (second_or_first at)) q.part ≡ Some k)
        × (at ≡ q.table ∷ second_or_first at ∷ option_to_list q.field)

    at_key_told : (q : Requiring) → Told (IsAtKey q)
    at_key_told q =
        both (some_told same_text (slice_get (key_parts (second_or_first at)) q.part) k)
        (same_place at (q.table ∷ second_or_first at ∷ option_to_list q.field))

    from_place : IsRequiringPlace r k at → (q : Requiring) × Contains r.requiring q × IsAtKey q
    from_place is = (
      is.requiring,
      is.listed,
      subst
          (λ (key : List ℕ).
          (slice_get (key_parts key) is.requiring.part ≡ Some k)
          × (at ≡ is.requiring.table ∷ key ∷ option_to_list is.requiring.field))
          (sym (ap second_or_first is.is)) (is.part, is.is),
    )

    requiring_told : Told (IsRequiringPlace r k at)
    requiring_told =
        like (λ h. record { requiring = h.0; listed = h.1; key = second_or_first at; part = h.2.0; is = h.2.1 })
        from_place
        (member_told IsAtKey at_key_told r.requiring)

  module _ (cur next : Config) where
    -- it requires the value, and changes
    abbrev Changes : Place → Type 0
    Changes at = IsRequiringPlace r k at × (part_at cur at ≢ part_at next at)

    change_told : (at : Place) → Told (Changes at)
    change_told at = both (requiring_told at) (not_told (same_option same_part (part_at cur at) (part_at next at)))

    -- something stands there before or afterwards
    stands : (at : Place) → part_at cur at ≢ part_at next at → IsStanding cur at ⊎ IsStanding next at
    stands at differs = by (part_at cur at) refl (part_at next at) refl
      where
        by : (o : Option Part) → part_at cur at ≡ o → (q : Option Part) → part_at next at ≡ q
            → IsStanding cur at ⊎ IsStanding next at
        by (Some x) e q f = inl (part_standing cur at x e)
        by None e (Some y) f = inr (part_standing next at y f)
        by None e None f = absurd (differs (e ∙ sym f))

    changes_told : Told (ChangesFor r k cur next)
    changes_told =
        like (λ h. record { at = h.0; requires = h.1.0; differs = h.1.1 }) (λ is. (is.at, (is.requires, is.differs)))
        (finite_told Changes change_told
        (finite_within Changes (λ at. IsStanding cur at ⊎ IsStanding next at) (λ at h. stands at h.1)
        (finite_either (IsStanding cur) (IsStanding next) (finite_standing cur) (finite_standing next))))

-- ---- the extender

module _ (ctx : Ctx) (c : Config) (m x : Move) where
  -- the rule asks it of the move at the key
  abbrev Asks : Required → List ℕ → Type 0
  Asks r k =
      IsModelled ctx.models r.table
      × (ChangesFor r k c (step c m)
      × ((HasPlace c (rule_entry r k) × HasPlace (step c m) (rule_entry r k))
      × ((¬ HasRequired r k c) × (x ≡ put_value c (rule_field r k) (required_part r)))))

  asks_told : (r : Required) (k : List ℕ) → Told (Asks r k)
  asks_told r k =
      both (told_true (is_some (table_named r.table ctx.models)))
      (both (changes_told r k c (step c m))
      (both (both (has_told c (rule_entry r k)) (has_told (step c m) (rule_entry r k)))
      (both
      (not_told
      (same_part (unwrap_or (part_at c (rule_field r k)) (part.Value (Text r.default))) (required_part r)))
      (moves_told x (put_value c (rule_field r k) (required_part r))))))

  keys : (r : Required) → IsFinite (Asks r)
  keys r =
      finite_within (Asks r) (λ k. (p : Place) × IsStanding c p × (k ≡ second_or_first p))
      (λ k h. (rule_entry r k, has_standing c (rule_entry r k) h.1.1.0.0, refl))
      (finite_image (IsStanding c) second_or_first (finite_standing c))

  abbrev AsksFor : Required → Type 0
  AsksFor r = (k : List ℕ) × Asks r k

  to_required : (r : Required) × Contains ctx.settings.required r × AsksFor r → IsRequired (rulebook ctx) c m x
  to_required (r, listed, (k, (modelled, (changes, ((before, after), (other, is)))))) = record {
    rule = r;
    listed = listed;
    key = k;
    modelled = modelled;
    changes = changes;
    before = before;
    after = after;
    other = other;
    move = is;
  }

  pub required_told : Told (IsRequired (rulebook ctx) c m x)
  required_told =
      like to_required
      (λ is. (is.rule, is.listed, (is.key, (is.modelled, (is.changes, ((is.before, is.after), (is.other, is.move)))))))
      (member_told AsksFor (λ r. finite_told (Asks r) (asks_told r) (keys r)) ctx.settings.required)
