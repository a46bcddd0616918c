-- The names of the place of a violation.
use Rattle.std.proofs.Common.{◌≡◌, ℕ, zero, suc, Bool, true, false, cond, is_some, option_and_then, option_map, List, [], ◌∷◌, ◌++◌, map, Option, Some, None, slice_get, refl, sym, ap, ◌∙◌, subst}
use Rattle.std.proofs.lemmas.List.{append_assoc}
use Rattle.std.proofs.lemmas.Option.{none-some}
use Rattle.conf_doc.specs.declared.configuration.Config.{Config}
use Rattle.conf_doc.specs.declared.configuration.Entry.{Entry}
use Rattle.conf_doc.specs.declared.configuration.Table.{Table}
use Rattle.conf_check.specs.Rows.{Row, if_modelled, row_at, row_of}
use Rattle.conf_check.specs.Validity.{Breach, rule_number, violation_of}
use Rattle.conf_check.specs.declared.violations.RuleName.{RuleName}
use Rattle.conf_check.specs.declared.violations.RuleName.TheVariants.{KeyShape, KeyReference, UnknownField, WrongKind, BadValue, DuplicateItem, MissingField, Must}
use Rattle.conf_check.specs.declared.violations.Violation.{Violation}
use Rattle.yang_model.specs.ModelSets.{ModelSet, table_named}
use Rattle.gcu_requests.specs.Places.{AddsField, AddsNames, IsFieldOf, rule_from}

-- a pair by its two parts
pub pair_at : {A B : Type 0} (xs : List (A × B)) (i : ℕ) (a : A) (b : B) → slice_get (map (λ p. p.0) xs) i ≡ Some a
    → slice_get (map (λ p. p.1) xs) i ≡ Some b → slice_get xs i ≡ Some (a, b)
pair_at [] i a b h k = absurd (none-some a h)
pair_at (x ∷ xs) zero a b h k = let e : x.0 ≡ a = cc in let f : x.1 ≡ b = cc in λ j. Some (e j, f j)
pair_at (x ∷ xs) (suc i) a b h k = pair_at xs i a b h k

abbrev made_of : List ℕ × Table → List ℕ × Entry → Row
made_of t e = row_of t.0 e.0 e.1

-- the entry that stands there, of a table that has a model or not
chosen : (k : ℕ) (t : List ℕ × Table) (e : List ℕ × Entry) (row : Row) (b : Bool) → slice_get t.1 k ≡ Some e
    → option_and_then (λ u. option_map (made_of u) (slice_get u.1 k)) (cond b (Some t) None) ≡ Some row
    → made_of t e ≡ row
chosen k t e row true at is =
    let two : Some (made_of t e) ≡ Some row = sym (ap (option_map (made_of t)) at) ∙ is in
    let one : made_of t e ≡ row = cc in one
chosen k t e row false at is = absurd (none-some row is)

-- it is the row
pub entry_at : (models : ModelSet) (config : Config) (t k : ℕ) (table key : List ℕ) (entries : Table) (fields : Entry)
    (row : Row)
    → slice_get config t ≡ Some (table, entries) → slice_get entries k ≡ Some (key, fields)
    → row_at models config t k ≡ Some row
    → row_of table key fields ≡ row
entry_at models config t k table key entries fields row at at_key is =
    chosen k (table, entries) (key, fields) row (is_some (table_named table models)) at_key
    (sym (ap (λ o. option_and_then (λ u. option_map (made_of u) (slice_get u.1 k))
    (option_and_then (if_modelled models) o)) at) ∙ is)

numbered : (r : RuleName) → rule_from (rule_number r) ≡ Some r
numbered KeyShape = refl
numbered KeyReference = refl
numbered UnknownField = refl
numbered WrongKind = refl
numbered BadValue = refl
numbered DuplicateItem = refl
numbered MissingField = refl
numbered Must = refl

-- a number is that of one rule
pub rule_is : (b : Breach) (v : Violation) (o : Option RuleName) (rule : RuleName) → v ≡ violation_of b
    → o ≡ rule_from v.rule → o ≡ Some rule → rule ≡ b.rule
rule_is b v o rule same from is =
    let two : Some rule ≡ Some b.rule = sym is ∙ from ∙ ap (λ w. rule_from w.rule) same ∙ numbered b.rule in
    let one : rule ≡ b.rule = cc in one

-- the names of the table, of the key and of the field, put at the end one after the other
pub names_added : (models : ModelSet) (config : Config) (b : Breach) (row : Row) (table key : List ℕ) (fields : Entry)
    (rule : RuleName) (n : ℕ) (old one two new : List (List ℕ))
    → row_at models config b.table b.key ≡ Some row → row_of table key fields ≡ row → rule ≡ b.rule → n ≡ b.field
    → one ≡ old ++ table ∷ [] → two ≡ one ++ key ∷ [] → AddsField models (row_of table key fields) rule n two new
    → AddsNames models config b old new
names_added models config b row table key fields rule n old one two new at is same at_field first second
    (field, follows, named) = record {
      row = row;
      at = at;
      field = field;
      named =
          subst (λ r. IsFieldOf models r b.rule b.field field) is
          (subst (λ r. IsFieldOf models (row_of table key fields) r b.field field) same
          (subst (λ m. IsFieldOf models (row_of table key fields) rule m field) at_field named));
      follows =
          follows
          ∙ ap (λ names. names ++ field) (second ∙ ap (λ names. names ++ key ∷ []) first)
          ∙ append_assoc (old ++ table ∷ []) (key ∷ []) field
          ∙ append_assoc old (table ∷ []) (key ∷ field)
          ∙ ap (λ r. old ++ r.table ∷ r.key ∷ field) is;
    }
