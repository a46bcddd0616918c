-- Which moves are allowed by models with the flat forms of their types: those that are by the models.
use Rattle.std.proofs.Common.{◌≡◌, inl, inr, ◌↔◌, ℕ, zero, suc, List, [], ◌∷◌, Option, refl, subst}
use Rattle.std.specs.Prelude.{Contains, IsTrue, is_some}
use Rattle.conf_doc.specs.declared.configuration.Config.{Config}
use Rattle.conf_doc.specs.declared.configuration.Entry.{Entry}
use Rattle.yang_model.specs.FlatModels.{flat_models}
use Rattle.yang_model.specs.ModelSets.{ModelSet, table_named}
use Rattle.conf_check.specs.Acceptance.{IsSatisfied}
use Rattle.conf_check.specs.Wants.{Want}
use Rattle.conf_check.proofs.FlatBreaches.{valid_flat}
use Rattle.conf_check.proofs.FlatModels.{along, modelled_flat, satisfied_flat, turned, want_flat}
use Rattle.move_core.specs.Contexts.{HasWant, IsModelled, context, rulebook}
use Rattle.move_core.specs.Extensions.{IsExtension, IsReferrer, IsRequired}
use Rattle.move_core.specs.Generated.{HasNoWant, IsFromSeeds, IsGenerated, IsSeed}
use Rattle.move_core.specs.Listed.{IsListed, LeadsTo}
use Rattle.move_core.specs.Moves.{Place, step}
use Rattle.move_core.specs.Plans.{IsAllowed, IsReachable, IsWay, KeepsRules}
use Rattle.move_core.specs.Rules.{KeepsCreateOnly, KeepsRequired}
use Rattle.move_core.specs.declared.contexts.Ctx.{Ctx}
use Rattle.move_core.specs.declared.moves.Generated.{Generated}
use Rattle.move_core.specs.declared.moves.Move.{Move}
use Rattle.move_core.specs.declared.settings.Settings.{Settings}

-- two rulebooks of the same wants that say the same
module _ (a b : Ctx) (settings : a.settings ≡ b.settings)
    (modelled : (t : List ℕ) → IsModelled a.models t → IsModelled b.models t)
    (has : (c : Config) (p : Place) (i : Option ℕ) (w : Want) → HasWant a.models c p i w ↔ HasWant b.models c p i w)
    (satisfied : (c : Config) (w : Want) → IsSatisfied a.models c w.target w.text ↔ IsSatisfied b.models c w.target w.text)
    (valid : (c : Config) → (rulebook a).IsValid c → (rulebook b).IsValid c) where
  none_alike : (c : Config) (p : Place) → HasNoWant (rulebook a) c p ↔ HasNoWant (rulebook b) c p
  none_alike c p = (λ none i w h. none i w ((has c p i w).1 h), λ none i w h. none i w ((has c p i w).0 h))

  seed_alike : (goal : Config) (t k : List ℕ) (e new : Entry) → IsSeed (rulebook a) goal t k e new → IsSeed (rulebook b) goal t k e new
  seed_alike goal t k e new h = record {
    rising = h.rising;
    fields = λ f v.
        let both = h.fields f v in
        let none = none_alike goal (t ∷ k ∷ f ∷ []) in
        (λ at. ((both.0 at).0, none.0 (both.0 at).1), λ is. both.1 (is.0, none.1 is.1));
  }

  seeds_alike : (cur goal : Config) (g : Generated) → IsFromSeeds (rulebook a) cur goal g → IsFromSeeds (rulebook b) cur goal g
  seeds_alike cur goal g h =
      let adds = h.0 in (
        record {
          table = adds.table;
          key = adds.key;
          entry = adds.entry;
          new = adds.new;
          lacks = adds.lacks;
          there = adds.there;
          alike = seed_alike goal adds.table adds.key adds.entry adds.new adds.alike;
          move = adds.move;
          for = adds.for;
        },
        h.1,
      )

  generated_alike : (cur goal : Config) (kind : ℕ) (g : Generated) → IsGenerated (rulebook a) cur goal kind g → IsGenerated (rulebook b) cur goal kind g
  generated_alike cur goal kind g (inl h) = inl h
  generated_alike cur goal kind g (inr (inl h)) = inr (inl h)
  generated_alike cur goal kind g (inr (inr (inl h))) = inr (inr (inl h))
  generated_alike cur goal kind g (inr (inr (inr (inl h)))) = inr (inr (inr (inl (h.0, seeds_alike cur goal g h.1))))
  generated_alike cur goal kind g (inr (inr (inr (inr h)))) = inr (inr (inr (inr h)))

  referrer_alike : (cur : Config) (m x : Move) → IsReferrer (rulebook a) cur m x → IsReferrer (rulebook b) cur m x
  referrer_alike cur m x h = record {
    at = h.at;
    item = h.item;
    want = h.want;
    there = (has cur h.at h.item h.want).0 h.there;
    broken = λ s. h.broken ((satisfied (step cur m) h.want).1 s);
    move = h.move;
  }

  required_alike : (cur : Config) (m x : Move) → IsRequired (rulebook a) cur m x → IsRequired (rulebook b) cur m x
  required_alike cur m x h = record {
    rule = h.rule;
    listed = subst (λ (s : Settings). Contains s.required h.rule) settings h.listed;
    key = h.key;
    modelled = modelled h.rule.table h.modelled;
    changes = h.changes;
    before = h.before;
    after = h.after;
    other = h.other;
    move = h.move;
  }

  extension_alike : (cur goal : Config) (kind : ℕ) (m x : Move) → IsExtension (rulebook a) cur goal kind m x → IsExtension (rulebook b) cur goal kind m x
  extension_alike cur goal kind m x (inl h) = inl h
  extension_alike cur goal kind m x (inr (inl h)) = inr (inl h)
  extension_alike cur goal kind m x (inr (inr (inl h))) = inr (inr (inl (h.0, referrer_alike cur m x h.1)))
  extension_alike cur goal kind m x (inr (inr (inr h))) = inr (inr (inr (h.0, required_alike cur m x h.1)))

  leads_alike : (cur goal : Config) (m : Move) (n : ℕ) (x : Move) → LeadsTo (rulebook a) cur goal m n x → LeadsTo (rulebook b) cur goal m n x
  leads_alike cur goal m zero x h = h
  leads_alike cur goal m (suc n) x (y, leads, (kind, extends)) = (y, leads_alike cur goal m n y leads, (kind, extension_alike cur goal kind y x extends))

  listed_alike : (cur goal : Config) (m : Move) → IsListed (rulebook a) cur goal m → IsListed (rulebook b) cur goal m
  listed_alike cur goal m h = record {
    first = h.first;
    depth = h.depth;
    generated = (h.generated.0, generated_alike cur goal h.generated.0 h.first h.generated.1);
    leads = leads_alike cur goal h.first.mv h.depth m h.leads;
  }

  rules_alike : (cur next : Config) (m : Move) → KeepsRules (rulebook a) cur next m → KeepsRules (rulebook b) cur next m
  rules_alike cur next m h = record {
    full = valid next h.full;
    no_dependency = record {
      new = λ p item w at there. (satisfied cur w).0 (h.no_dependency.new p item w at ((has next p item w).1 there));
      old = λ p item w at there. (satisfied next w).0 (h.no_dependency.old p item w at ((has cur p item w).1 there));
    };
    no_empty = h.no_empty;
    create_only = subst (λ (s : Settings). KeepsCreateOnly s cur next) settings h.create_only;
    required = subst (λ (s : Settings). KeepsRequired s cur next) settings h.required;
  }

  allowed_alike : (goal cur : Config) (m : Move) → IsAllowed (rulebook a) goal cur m → IsAllowed (rulebook b) goal cur m
  allowed_alike goal cur m h = record {
    listed = listed_alike cur goal m h.listed;
    differs = h.differs;
    rules = rules_alike cur (step cur m) m h.rules;
  }

  way_alike : (goal c : Config) (ms : List Move) (x : Config) → IsWay (rulebook a) goal c ms x → IsWay (rulebook b) goal c ms x
  way_alike goal c [] x h = h
  way_alike goal c (m ∷ ms) x h = (allowed_alike goal c m h.0, way_alike goal (step c m) ms x h.1)

-- models, and those with the flat forms of their types
module _ (models : ModelSet) (settings : Settings) where
  abbrev as_written : Ctx
  as_written = context models settings

  abbrev as_stored : Ctx
  as_stored = context (flat_models models) settings

  modelled_same : (t : List ℕ) → IsModelled (flat_models models) t ↔ IsModelled models t
  modelled_same t = along IsTrue (is_some (table_named t (flat_models models))) (is_some (table_named t models)) (modelled_flat models t)

  has_same : (c : Config) (p : Place) (i : Option ℕ) (w : Want) → HasWant (flat_models models) c p i w ↔ HasWant models c p i w
  has_same c p i w = (
    λ h. record { at = h.at; wanted = (want_flat models c h.at w).0 h.wanted; names = h.names; index = h.index },
    λ h. record { at = h.at; wanted = (want_flat models c h.at w).1 h.wanted; names = h.names; index = h.index },
  )

  satisfied_same : (c : Config) (w : Want) → IsSatisfied (flat_models models) c w.target w.text ↔ IsSatisfied models c w.target w.text
  satisfied_same c w = satisfied_flat models c w.target w.text

  pub valid_same : (c : Config) → (rulebook as_stored).IsValid c ↔ (rulebook as_written).IsValid c
  valid_same c = valid_flat models c

  pub allowed_flat : (goal cur : Config) (m : Move) → IsAllowed (rulebook as_stored) goal cur m ↔ IsAllowed (rulebook as_written) goal cur m
  allowed_flat goal cur m = (
    allowed_alike as_stored as_written refl (λ t. (modelled_same t).0) has_same satisfied_same (λ c. (valid_same c).0) goal cur m,
    allowed_alike as_written as_stored refl (λ t. (modelled_same t).1) (λ c p i w. turned (has_same c p i w)) (λ c w. turned (satisfied_same c w)) (λ c. (valid_same c).1) goal cur m,
  )

  pub way_flat : (goal c : Config) (ms : List Move) (x : Config) → IsWay (rulebook as_stored) goal c ms x ↔ IsWay (rulebook as_written) goal c ms x
  way_flat goal c ms x = (
    way_alike as_stored as_written refl (λ t. (modelled_same t).0) has_same satisfied_same (λ c. (valid_same c).0) goal c ms x,
    way_alike as_written as_stored refl (λ t. (modelled_same t).1) (λ c p i w. turned (has_same c p i w)) (λ c w. turned (satisfied_same c w)) (λ c. (valid_same c).1) goal c ms x,
  )

  pub reachable_flat : (goal start x : Config) → IsReachable (rulebook as_stored) goal start x ↔ IsReachable (rulebook as_written) goal start x
  reachable_flat goal start x = (λ h. (h.0, (way_flat goal start h.0 x).0 h.1), λ h. (h.0, (way_flat goal start h.0 x).1 h.1))
