-- What stands at the place of an entry and of a field, against look-ups by names.
use Rattle.std.proofs.Common.{◌≡◌, ◌⊎◌, inl, inr, ℕ, List, [], ◌∷◌, Bool, Option, Some, None, option_map, option_and_then, IsSome, IsTrue, ◌↔◌, refl, sym, ap, ◌∙◌, subst}
use Rattle.std.specs.Option.{option_to_list}
use Rattle.conf_doc.specs.Changes.{HasPlace, entry_at, value_at}
use Rattle.conf_doc.specs.Pairs.{find}
use Rattle.conf_doc.specs.declared.configuration.Config.{Config}
use Rattle.conf_doc.specs.declared.configuration.Entry.{Entry}
use Rattle.conf_doc.specs.declared.configuration.Table.{Table}
use Rattle.conf_doc.specs.declared.configuration.Value.{Value}
use Rattle.conf_doc.specs.declared.parts.Part.TheVariants as part
use Rattle.move_core.specs.Moves.{Agree}

-- ---- a look-up is what stands there

entry_part : (k : List ℕ) (o : Option Table)
    → option_and_then (λ table. option_map part.Entry (find k table)) o ≡ option_map part.Entry (option_and_then (find k) o)
entry_part k None = refl
entry_part k (Some table) = refl

value_part : (f : List ℕ) (o : Option Entry)
    → option_and_then (λ entry. option_map part.Value (find f entry)) o ≡ option_map part.Value (option_and_then (find f) o)
value_part f None = refl
value_part f (Some entry) = refl

field_part : (k f : List ℕ) (o : Option Table)
    → option_and_then (λ table. option_and_then (λ entry. option_map part.Value (find f entry)) (find k table)) o
    ≡ option_map part.Value (option_and_then (find f) (option_and_then (find k) o))
field_part k f None = refl
field_part k f (Some table) = value_part f (find k table)

same_entries : (a b : Option Entry) → option_map part.Entry a ≡ option_map part.Entry b → a ≡ b
same_entries None None e = refl
same_entries None (Some y) e = absurd cc
same_entries (Some x) None e = absurd cc
same_entries (Some x) (Some y) e = cc

same_values : (a b : Option Value) → option_map part.Value a ≡ option_map part.Value b → a ≡ b
same_values None None e = refl
same_values None (Some y) e = absurd cc
same_values (Some x) None e = absurd cc
same_values (Some x) (Some y) e = cc

module _ (a b : Config) (t k : List ℕ) where
  pub entries_agree : (entry_at a t k ≡ entry_at b t k) ↔ Agree a b (t ∷ k ∷ [])
  entries_agree = (
    λ e. entry_part k (find t a) ∙ ap (option_map part.Entry) e ∙ sym (entry_part k (find t b)),
    λ e. same_entries (entry_at a t k) (entry_at b t k) (sym (entry_part k (find t a)) ∙ e ∙ entry_part k (find t b)),
  )

  pub values_agree : (f : List ℕ) → (value_at a t k f ≡ value_at b t k f) ↔ Agree a b (t ∷ k ∷ f ∷ [])
  values_agree f = (
    λ e. field_part k f (find t a) ∙ ap (option_map part.Value) e ∙ sym (field_part k f (find t b)),
    λ e. same_values (value_at a t k f) (value_at b t k f) (sym (field_part k f (find t a)) ∙ e ∙ field_part k f (find t b)),
  )

-- ---- a test says what another fact says

pub says : {P Q : Type 0} {r : Bool} → IsTrue r ↔ P → P ↔ Q → IsTrue r ↔ Q
says test same = (λ t. same.0 (test.0 t), λ q. test.1 (same.1 q))

-- ---- an entry that is in neither

lone : (a : Config) (t k : List ℕ) → HasPlace a (t ∷ k ∷ []) ⊎ (entry_at a t k ≡ None)
lone a t k = by (entry_at a t k) refl
  where
    by : (o : Option Entry) → entry_at a t k ≡ o → HasPlace a (t ∷ k ∷ []) ⊎ (entry_at a t k ≡ None)
    by None e = inr e
    by (Some entry) e = inl (subst IsSome (sym (entry_part k (find t a) ∙ ap (option_map part.Entry) e)) refl)

-- the place of an entry or of a field below it agrees where neither has the entry, so where it differs one has it
pub one_has : (a b : Config) (t k : List ℕ) (f : Option (List ℕ)) → ¬ Agree a b (t ∷ k ∷ option_to_list f) → HasPlace a (t ∷ k ∷ []) ⊎ HasPlace b (t ∷ k ∷ [])
one_has a b t k f differs = elim (lone a t k) [
  | inl there ↦ inl there
  | inr none ↦ elim (lone b t k) [
    | inl there ↦ inr there
    | inr gone ↦ absurd (differs (agree f (none ∙ sym gone)))
  ]
]
  where
    agree : (g : Option (List ℕ)) → entry_at a t k ≡ entry_at b t k → Agree a b (t ∷ k ∷ option_to_list g)
    agree None e = (entries_agree a b t k).0 e
    agree (Some g) e = (values_agree a b t k g).0 (ap (option_and_then (find g)) e)
