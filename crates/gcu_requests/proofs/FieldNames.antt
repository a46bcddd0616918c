-- The names of fields that are put at the end.
use Rattle.std.proofs.Common.{◌≡◌, ◌⊎◌, inl, inr, ◌≤◌, ℕ, List, [], ◌++◌, length, Option, Some, None, refl, sym, ap, ◌∙◌, append-nil, option_map, subst}
use Rattle.std.proofs.lemmas.Option.{none-some, slice_get_past}
use Rattle.std.specs.Option.{option_to_list}
use Rattle.conf_check.specs.Rows.{Row, HasShape}
use Rattle.conf_check.specs.declared.violations.RuleName.{RuleName}
use Rattle.conf_check.specs.declared.violations.RuleName.TheVariants.{UnknownField, WrongKind, BadValue, DuplicateItem, MissingField}
use Rattle.yang_model.specs.ModelSets.{ModelSet}
use Rattle.yang_model.specs.declared.shapes.Shape.{Shape}
use Rattle.gcu_requests.specs.Places.{AddsField, IsFieldOf, field_name, rule_name}

-- behind the last field there is no name
pub no_field_name : (names : List (List ℕ)) (row : Row) (n : ℕ) → length row.fields ≤ n
    → names ≡ names ++ field_name row n
no_field_name names row n past =
    sym (ap (λ o. names ++ option_to_list (option_map (λ f. f.0) o)) (slice_get_past row.fields n past)
    ∙ append-nil names)

-- nor behind that of a shape
pub no_rule_name : (names : List (List ℕ)) (shape : Shape) (n : ℕ) → length shape.fields ≤ n
    → names ≡ names ++ rule_name shape n
no_rule_name names shape n past =
    sym (ap (λ o. names ++ option_to_list (option_map (λ f. f.name) o)) (slice_get_past shape.fields n past)
    ∙ append-nil names)

-- a rule of a field
pub is_field : (models : ModelSet) (row : Row) (rule : RuleName) (n : ℕ)
    → (rule ≡ UnknownField) ⊎ ((rule ≡ WrongKind) ⊎ ((rule ≡ BadValue) ⊎ (rule ≡ DuplicateItem)))
    → IsFieldOf models row rule n (field_name row n)
is_field models row rule n (inl is) = subst (λ r. IsFieldOf models row r n (field_name row n)) (sym is) refl
is_field models row rule n (inr (inl is)) = subst (λ r. IsFieldOf models row r n (field_name row n)) (sym is) refl
is_field models row rule n (inr (inr (inl is))) = subst (λ r. IsFieldOf models row r n (field_name row n)) (sym is) refl
is_field models row rule n (inr (inr (inr is))) = subst (λ r. IsFieldOf models row r n (field_name row n)) (sym is) refl

-- a field that is missing, of the shape that the entry has
pub is_missing : (models : ModelSet) (row : Row) (rule : RuleName) (n : ℕ) (shape : Shape) → rule ≡ MissingField
    → ((s : Shape) → HasShape models row s → Some shape ≡ Some s) → IsFieldOf models row rule n (rule_name shape n)
is_missing models row rule n shape is one =
    subst (λ r. IsFieldOf models row r n (rule_name shape n)) (sym is)
    (λ s has. let h = one s has in let same : shape ≡ s = cc in ap (λ t. rule_name t n) same)

-- an entry of no shape
pub is_of_none : (models : ModelSet) (row : Row) (rule : RuleName) (n : ℕ) (names : List (List ℕ)) → rule ≡ MissingField
    → ((s : Shape) → HasShape models row s → ◌≡◌ {A = Option Shape} None (Some s))
    → AddsField models row rule n names names
is_of_none models row rule n names is none = (
  [],
  sym (append-nil names),
  subst (λ r. IsFieldOf models row r n []) (sym is) (λ s has. absurd (none-some s (none s has))),
)
