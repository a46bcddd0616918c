-- From what single settings ask to the rules of create-only fields and of required values.
use Rattle.std.proofs.Common.{inl, inr, All, ◌↔◌, refl, subst, sym}
use Rattle.conf_doc.specs.declared.configuration.Config.{Config}
use Rattle.move_core.specs.Moves.{Agree}
use Rattle.move_core.specs.Rules.{KeepsCreateOnly, KeepsRequired}
use Rattle.move_core.specs.declared.settings.CreateOnly.{CreateOnly}
use Rattle.move_core.specs.declared.settings.Required.{Required}
use Rattle.move_core.specs.declared.settings.Requiring.{Requiring}
use Rattle.move_core.specs.declared.settings.Settings.{Settings}
use Rattle.plan_check.specs.Keeping.{KeepsField, KeepsFieldAt, KeepsKey, KeepsKeysOf, KeepsPlaces, KeepsRule, requiring_place}
use Rattle.plan_check.proofs.Each.{each_contained}
use Rattle.plan_check.proofs.PartsAt.{one_has}

module _ (cur next : Config) where
  pub fields_kept : (c : CreateOnly) → KeepsKeysOf next c.table (KeepsFieldAt cur next c) ↔ KeepsField cur next c
  fields_kept c = (λ keys k before after. keys k after before after, λ keeps k _. keeps k)

  pub create_only_kept : (settings : Settings) → All (KeepsField cur next) settings.create_only ↔ KeepsCreateOnly settings cur next
  create_only_kept settings =
      let each = each_contained (KeepsField cur next) settings.create_only in
      (λ all c k has before after. each.0 all c has k before after, λ keeps. each.1 (λ c has k before after. keeps c k has before after))

  pub places_kept : (r : Required) (q : Requiring) → KeepsKeysOf cur q.table (KeepsKey r cur next q) × KeepsKeysOf next q.table (KeepsKey r cur next q) ↔ KeepsPlaces r cur next q
  places_kept r q = (
    λ keeps. record {
      at = λ key k part changes. elim (one_has cur next q.table key q.field changes) [
        | inl before ↦ keeps.0 key before k part changes
        | inr after ↦ keeps.1 key after k part changes
      ];
    },
    λ keeps. (λ key _. keeps.at key, λ key _. keeps.at key),
  )

  pub rule_kept : (r : Required) → All (KeepsPlaces r cur next) r.requiring ↔ KeepsRule cur next r
  rule_kept r =
      let each = each_contained (KeepsPlaces r cur next) r.requiring in (
        λ all. record {
          at = λ k changes.
              let place = changes.requires in
              (each.0 all place.requiring place.listed).at place.key k place.part
              (λ agree. changes.differs (subst (λ p. Agree cur next p) (sym place.is) agree));
        },
        λ keeps.
            each.1
            (λ q has. record {
              at = λ key k part changes.
                  keeps.at k
                  (record {
                    at = requiring_place q key;
                    requires = record { requiring = q; listed = has; key = key; part = part; is = refl };
                    differs = changes;
                  });
            }),
      )

  pub required_kept : (settings : Settings) → All (KeepsRule cur next) settings.required ↔ KeepsRequired settings cur next
  required_kept settings =
      let each = each_contained (KeepsRule cur next) settings.required in
      (λ all r k has changes. (each.0 all r has).at k changes, λ keeps. each.1 (λ r has. record { at = λ k changes. keeps r k has changes }))
