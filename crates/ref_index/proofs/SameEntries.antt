-- An entry that is the same in two configurations has the same wants, where they satisfy the same.
use Rattle.std.proofs.Common.{◌≡◌, inl, inr, ℕ, Bool, true, false, cond, List, Option, Some, None, option_map, option_and_then, slice_get, is_some, refl, sym, ap, ◌∙◌, subst}
use Rattle.conf_doc.specs.declared.configuration.Config.{Config}
use Rattle.conf_doc.specs.declared.configuration.Entry.{Entry}
use Rattle.conf_doc.specs.declared.configuration.Table.{Table}
use Rattle.conf_doc.proofs.Edits.{same_Some}
use Rattle.yang_model.specs.ModelSets.{ModelSet, table_named}
use Rattle.yang_types.specs.DataType.{DataType, text, number, length_within, value_within, matching, one_of, truth, builtin, leafref, union, DataTypes, no_types, type_and}
use Rattle.yang_types.specs.declared.types.Target.{Target}
use Rattle.conf_check.specs.Acceptance.{AcceptsAnyIn, AcceptsIn, IsFirstWanted, IsSatisfied, IsWanted}
use Rattle.conf_check.specs.Rows.{Row, IsEntryAt, if_modelled, row_at, row_of, typed_text}
use Rattle.conf_check.specs.Wants.{Want, IsWantAt, IsWantedText, field_name}
use Rattle.conf_check.specs.declared.want_iter.WantPlace.{WantPlace}
use Rattle.ref_index.specs.Referrers.{HasWant, IsPlaceAt}
use Rattle.ref_index.specs.Texts.{HasText}
use Rattle.ref_index.specs.declared.places.Place.{Place}
use Rattle.ref_index.proofs.EntryTexts.{wanted_text}

-- the row of an entry, where its table has a model
row_cond : (m : Bool) (table : List ℕ) (entries : Table) (k : ℕ)
    → option_and_then (λ (u : List ℕ × Table). option_map (λ (e : List ℕ × Entry). row_of u.0 e.0 e.1) (slice_get u.1 k)) (cond m (Some (table, entries)) None)
    ≡ cond m (option_map (λ (e : List ℕ × Entry). row_of table e.0 e.1) (slice_get entries k)) None
row_cond true table entries k = refl
row_cond false table entries k = refl

at_entry : (models : ModelSet) (c : Config) (table key : List ℕ) (t k : ℕ) (is : IsEntryAt c table key t k)
    → row_at models c t k ≡ cond (is_some (table_named table models)) (Some (row_of table key is.fields)) None
at_entry models c table key t k is =
    ap (λ o. option_and_then (λ (u : List ℕ × Table). option_map (λ (e : List ℕ × Entry). row_of u.0 e.0 e.1) (slice_get u.1 k)) (option_and_then (if_modelled models) o)) is.at
    ∙ row_cond (is_some (table_named table models)) table is.entries k
    ∙ ap (λ o. cond (is_some (table_named table models)) (option_map (λ (e : List ℕ × Entry). row_of table e.0 e.1) o) None) is.at_key

-- what a text can want of a configuration, another one has too
abbrev pub Satisfies : ModelSet → List ℕ → Config → Config → Type 0
Satisfies models s a b = (r : Target) → IsSatisfied models a r s → IsSatisfied models b r s

module _ (models : ModelSet) (s : List ℕ) (a b : Config) (to : Satisfies models s a b) where
  mutual
    accepts : (t : DataType) → AcceptsIn models a t s → AcceptsIn models b t s
    accepts (leafref r t) h = (h.0, to r h.1)
    accepts (union ts) h = accepts_any ts h
    accepts text h = h
    accepts (number n) h = h
    accepts (length_within t bs) h = h
    accepts (value_within t bs) h = h
    accepts (matching t p) h = h
    accepts (one_of names) h = h
    accepts truth h = h
    accepts (builtin n) h = h

    accepts_any : (ts : DataTypes) → AcceptsAnyIn models a ts s → AcceptsAnyIn models b ts s
    accepts_any no_types h = h
    accepts_any (type_and t ts) (inl h) = inl (accepts t h)
    accepts_any (type_and t ts) (inr h) = inr (accepts_any ts h)

module _ (models : ModelSet) (a b : Config) where
  module _ (s : List ℕ) (to : Satisfies models s a b) (back : Satisfies models s b a) where
    mutual
      wanted : (t : DataType) (r : Target) → IsWanted models a t s r → IsWanted models b t s r
      wanted (leafref q t) r w = (w.0, accepts models s a b to (leafref q t) w.1)
      wanted (union ts) r w = first_wanted ts r w
      wanted text r w = absurd w
      wanted (number n) r w = absurd w
      wanted (length_within t bs) r w = absurd w
      wanted (value_within t bs) r w = absurd w
      wanted (matching t p) r w = absurd w
      wanted (one_of names) r w = absurd w
      wanted truth r w = absurd w
      wanted (builtin n) r w = absurd w

      first_wanted : (ts : DataTypes) (r : Target) → IsFirstWanted models a ts s r → IsFirstWanted models b ts s r
      first_wanted no_types r w = absurd w
      first_wanted (type_and t ts) r (inl w) = inl (wanted t r w)
      first_wanted (type_and t ts) r (inr w) = inr (λ h. w.0 (accepts models s b a back t h), first_wanted ts r w.1)

  wanted_there : (o : Option (DataType × List ℕ)) (w : Want) → Satisfies models w.text a b → Satisfies models w.text b a → IsWantedText models a o w → IsWantedText models b o w
  wanted_there None w to back h = h
  wanted_there (Some t) w to back h = (
    h.0,
    subst (λ s. IsWanted models b t.0 s w.target) (sym h.0) (wanted w.text to back t.0 w.target (subst (λ s. IsWanted models a t.0 s w.target) h.0 h.1)),
  )

  -- a want of an entry that is in both, where its text has it in the second too
  pub carried_want : (position : WantPlace) (w : Want) (p : Place) (at : IsPlaceAt a position p) (is : IsWantAt models a position w)
      → (i j : ℕ) (there : IsEntryAt b p.table p.key i j) → at.entry.fields ≡ there.fields
      → IsWantedText models b (typed_text is.shape is.row position.field position.item) w → HasWant models b w p
  carried_want position w p at is i j there fields carried = record {
    position = record { table = i; key = j; field = position.field; item = position.item };
    at = record { entry = there; field = ap (λ f. field_name f position.field) (sym fields) ∙ at.field; item = at.item };
    wanted = record { row = is.row; at = row_there; shape = is.shape; shaped = is.shaped; wanted = carried };
  }
    where
      row_there : row_at models b i j ≡ Some is.row
      row_there =
          at_entry models b p.table p.key i j there
          ∙ ap (λ f. cond (is_some (table_named p.table models)) (Some (row_of p.table p.key f)) None) (sym fields)
          ∙ sym (at_entry models a p.table p.key position.table position.key at.entry) ∙ is.at

  -- where both satisfy the same of the text it has
  pub same_want : (position : WantPlace) (w : Want) (p : Place) (at : IsPlaceAt a position p) → IsWantAt models a position w
      → (i j : ℕ) (there : IsEntryAt b p.table p.key i j) → at.entry.fields ≡ there.fields → Satisfies models w.text a b → Satisfies models w.text b a → HasWant models b w p
  same_want position w p at is i j there fields to back =
      carried_want position w p at is i j there fields (wanted_there (typed_text is.shape is.row position.field position.item) w to back is.wanted)

-- the row of a want is that of the entry at its place
pub row_of_want : (models : ModelSet) (a : Config) (position : WantPlace) (w : Want) (p : Place) (at : IsPlaceAt a position p) → (is : IsWantAt models a position w)
    → is.row ≡ row_of p.table p.key at.entry.fields
row_of_want models a position w p at is =
    row_is (is_some (table_named p.table models)) is.row (sym (at_entry models a p.table p.key position.table position.key at.entry) ∙ is.at)
  where
    row_is : (b : Bool) (r : Row) → cond b (Some (row_of p.table p.key at.entry.fields)) None ≡ Some r → r ≡ row_of p.table p.key at.entry.fields
    row_is true r e = sym (same_Some (row_of p.table p.key at.entry.fields) r e)
    row_is false r e = absurd cc

-- the text of a want is one of its entry's
pub text_of_want : (models : ModelSet) (a : Config) (position : WantPlace) (w : Want) (p : Place) (at : IsPlaceAt a position p) → IsWantAt models a position w
    → HasText p.key at.entry.fields w.text
text_of_want models a position w p at is =
    subst (λ r. HasText r.key r.fields w.text) (row_of_want models a position w p at is)
    (wanted_text models a w is.shape is.row position.field position.item is.wanted)
