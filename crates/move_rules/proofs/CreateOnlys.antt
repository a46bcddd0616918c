-- The create-only rule, from the entries that it looks at to all.
use Rattle.std.proofs.Common.{◌≡◌, ℕ, List, [], ◌∷◌, Bool, Some, IsTrue, ◌↔◌, slice_get, ◌⊎◌, inl, inr, sym, subst}
use Rattle.conf_doc.specs.Changes.{entry_at, HasPlace}
use Rattle.conf_doc.specs.Pairs.{find}
use Rattle.conf_doc.specs.declared.configuration.Config.{Config}
use Rattle.move_core.specs.Moves.{Agree, place, step}
use Rattle.move_core.specs.Rules.{KeepsCreateOnly}
use Rattle.move_core.specs.Services.{table_of}
use Rattle.move_core.specs.declared.moves.Move.{Move}
use Rattle.move_core.specs.declared.settings.Settings.{Settings}
use Rattle.move_rules.specs.Entries.{AreKeys, KeepsField, KeepsFields, KeepsRuleField}
use Rattle.move_rules.proofs.AtKeys.{all_contained, at_key, by_key, by_table, contained_at, every_key, same_field, second_name, there}

module _ (settings : Settings) (cur next : Config) (m : Move) (t : List ℕ) (is : next ≡ step cur m) (at : t ≡ table_of (place m)) where
  at_any_key : KeepsCreateOnly settings cur next → (k : List ℕ) → KeepsFields settings.create_only cur next t k
  at_any_key keeps k i c e table before after =
      subst (λ u. Agree cur next (u ∷ k ∷ c.field ∷ [])) table
      (keeps c k (contained_at settings.create_only i c e) (subst (λ u. HasPlace cur (u ∷ k ∷ [])) (sym table) before)
      (subst (λ u. HasPlace next (u ∷ k ∷ [])) (sym table) after))

  from_keys : ((k : List ℕ) → HasPlace next (t ∷ k ∷ []) → (entry_at cur t k ≡ entry_at next t k) ⊎ KeepsFields settings.create_only cur next t k) → KeepsCreateOnly settings cur next
  from_keys looks c k has before after = elim (by_table cur next m t is at c.table k) as (λ _. Agree cur next (c.table ∷ k ∷ c.field ∷ [])) [
    | inl same ↦ same_field cur next c.table k c.field same
    | inr table ↦
        subst (λ u. Agree cur next (u ∷ k ∷ c.field ∷ [])) (sym table)
        (here (looks k (subst (λ u. HasPlace next (u ∷ k ∷ [])) table after)) table (subst (λ u. HasPlace cur (u ∷ k ∷ [])) table before)
        (subst (λ u. HasPlace next (u ∷ k ∷ [])) table after))
  ]
    where
      here : (entry_at cur t k ≡ entry_at next t k) ⊎ KeepsFields settings.create_only cur next t k → c.table ≡ t → KeepsField cur next t k c.field
      here (inl same) table first second = same_field cur next t k c.field same
      here (inr keeps) table first second = all_contained (KeepsRuleField cur next t k) settings.create_only c keeps has table first second

  pub create_only_at : (k : List ℕ) → slice_get (place m) 1 ≡ Some k → (b : Bool) → IsTrue b ↔ KeepsFields settings.create_only cur next t k → IsTrue b ↔ KeepsCreateOnly settings cur next
  create_only_at k named b says = (
    λ passes. from_keys (λ key _. elim (by_key cur next m t k is at (second_name (place m) k named) key) as (λ _. (entry_at cur t key ≡ entry_at next t key) ⊎ KeepsFields settings.create_only cur next t key) [
      | inl same ↦ inl same
      | inr same ↦ inr (subst (KeepsFields settings.create_only cur next t) (sym same) (says.0 passes))
    ]),
    λ keeps. says.1 (at_any_key keeps k),
  )

  pub create_only_in : (b : Bool) → IsTrue b ↔ AreKeys (KeepsFields settings.create_only cur next t) (find t next) → IsTrue b ↔ KeepsCreateOnly settings cur next
  create_only_in b says = (
    λ passes. from_keys (λ k after. inr (at_key (KeepsFields settings.create_only cur next t) (find t next) k (says.0 passes) (there next t k after))),
    λ keeps. says.1 (every_key (KeepsFields settings.create_only cur next t) (find t next) (at_any_key keeps)),
  )
