-- The first want of the fields of an entry, and of the entry.
use Rattle.std.proofs.Common.{◌≡◌, ◌<◌, ◌≤◌, ◌+◌, ℕ, List, Option, Some, None, length, slice_get, option_map, refl, sym, subst, inl, inr, arith}
use Rattle.std.proofs.lemmas.Bool.{cases_lt}
use Rattle.std.proofs.lemmas.Option.{slice_get_past}
use denote.Ref.{Bor}
use Rattle.conf_doc.specs.declared.configuration.Config.{Config}
use Rattle.conf_doc.specs.declared.configuration.Entry.{Entry}
use Rattle.conf_doc.specs.declared.configuration.Value.{Value}
use Rattle.yang_model.specs.ModelSets.{ModelSet}
use Rattle.yang_model.specs.declared.shapes.Shape.{Shape}
use Rattle.yang_types.specs.DataType.{DataType}
use Rattle.conf_check.specs.FirstWants.{IsFirstFrom, IsWantedItemOf, IsWantedPart, IsWantedSlot, IsSlotFrom, IsFirstInFields, IsTextBefore, IsFirstText, IsWantedIn, item_of}
use Rattle.conf_check.specs.Rows.{Row, typed_item}
use Rattle.conf_check.specs.Wants.{Want, want_of, IsWantedText}
use Rattle.conf_check.specs.declared.first_wants.ItemWant.{ItemWant}
use Rattle.conf_check.specs.declared.first_wants.SlotWant.{SlotWant}

module _ (models : ModelSet) (config : Config) (shape : Shape) (fields : Entry) (from item : ℕ) where
  abbrev pub NoneBefore : ℕ → Type 0
  NoneBefore f = (g j : ℕ) (w : Want) → IsSlotFrom from item g j → g < f → ¬ IsWantedSlot models config shape fields g j w

  -- the items of a field that are looked at begin with that one
  pub record BeginsWith (f first : ℕ) : Type 0 where
    pub to : (j : ℕ) → IsSlotFrom from item f j → first ≤ j
    pub back : (j : ℕ) → first ≤ j → IsSlotFrom from item f j

  abbrev item_in : ℕ → DataType × List (List ℕ) → Option (DataType × List ℕ)
  item_in i ts = option_map (λ s. pair_of ts.0 s) (slice_get ts.1 i)
    where
      pair_of : DataType → List ℕ → DataType × List ℕ
      pair_of type s = (type, s)

  slot_is : (f : ℕ) (field : List ℕ × Value) (i : ℕ) → slice_get fields f ≡ Some field → typed_item shape fields f i ≡ item_of shape field i
  slot_is f field i at = rw at refl

  to_slot : (f : ℕ) (field : List ℕ × Value) (i : ℕ) (w : Want) → slice_get fields f ≡ Some field
      → IsWantedItemOf models config shape field.0 field.1 i w → IsWantedSlot models config shape fields f i w
  to_slot f field i w at wanted = subst (λ o. IsWantedText models config o w) (sym (slot_is f field i at)) wanted

  from_slot : (f : ℕ) (field : List ℕ × Value) (i : ℕ) (w : Want) → slice_get fields f ≡ Some field
      → IsWantedSlot models config shape fields f i w → IsWantedItemOf models config shape field.0 field.1 i w
  from_slot f field i w at wanted = subst (λ o. IsWantedText models config o w) (slot_is f field i at) wanted

  pub begin : BeginsWith from item
  begin = record {
    to = λ j h. elim h [ inl lt ↦ absurd (omega arith) | inr p ↦ p.1 ];
    back = λ j h. inr (refl, h);
  }

  pub begin_next : (f : ℕ) → from ≤ f → BeginsWith (f + 1) 0
  begin_next f ge = record { to = λ j h. omega arith; back = λ j h. inl (omega arith) }

  pub fields_here : (f first : ℕ) (field : List ℕ × Value) (name : Bor (List ℕ)) (a : ItemWant) → slice_get fields f ≡ Some field → NoneBefore f → BeginsWith f first
      → IsFirstFrom (IsWantedItemOf models config shape field.0 field.1) first (Some a)
      → IsFirstInFields models config shape fields from item (Some (record { field = f; name = name; item = a.item; want = a.want }))
  fields_here f first field name a at none begins found = (
    begins.back a.item found.0,
    to_slot f field a.item (want_of a.want) at found.1,
    λ g i w h before wanted.
        elim before [
          | inl less ↦ none g i w h less wanted
          | inr here ↦
              let h' : IsSlotFrom from item f i = subst (λ n. IsSlotFrom from item n i) here.0 h in
              found.2 i w (begins.to i h') here.1 (from_slot f field i w at (subst (λ n. IsWantedSlot models config shape fields n i w) here.0 wanted))
        ],
  )

  pub fields_more : (f first : ℕ) (field : List ℕ × Value) → slice_get fields f ≡ Some field → NoneBefore f → BeginsWith f first
      → IsFirstFrom (IsWantedItemOf models config shape field.0 field.1) first None → NoneBefore (f + 1)
  fields_more f first field at none begins found g j w h lt wanted =
      elim (cases_lt g f) [
        | inl less ↦ none g j w h less wanted
        | inr more ↦
            let same : g ≡ f = omega arith in
            found j w (begins.to j (subst (λ n. IsSlotFrom from item n j) same h))
            (from_slot f field j w at (subst (λ n. IsWantedSlot models config shape fields n j w) same wanted))
      ]

  no_slot : (f i : ℕ) (w : Want) → length fields ≤ f → ¬ IsWantedSlot models config shape fields f i w
  no_slot f i w past wanted =
      let none : slice_get fields f ≡ None = slice_get_past fields f past in
      let e : typed_item shape fields f i ≡ None = rw none refl in
      subst (λ o. IsWantedText models config o w) e wanted

  pub fields_end : (f : ℕ) → length fields ≤ f → NoneBefore f → IsFirstInFields models config shape fields from item None
  fields_end f past none g j w h wanted =
      elim (cases_lt g f) [
        | inl less ↦ none g j w h less wanted
        | inr more ↦ no_slot g j w (omega arith) wanted
      ]

some_same : (a b : ℕ) → Some a ≡ Some b → a ≡ b
some_same a b e = cc

not_first : (g i : ℕ) → ¬ IsTextBefore (Some g) i (Some 0) 0
not_first g i (inl lt) = omega arith
not_first g i (inr p) = omega (arith, p.1)

field_behind : (f : Option ℕ) (i item : ℕ) → ¬ IsTextBefore f i (Some 0) 0 → ¬ IsTextBefore f i None item
field_behind None i item not lt = not (inl tt)
field_behind (Some f) i item not (inl h) = h
field_behind (Some f) i item not (inr p) = let e = p.0 in cc

module _ (models : ModelSet) (config : Config) (shape : Shape) (row : Row) where
  abbrev W : Option ℕ → ℕ → Want → Type 0
  W = IsWantedIn models config shape row

  -- no part of the key, then the fields
  no_part : (item : ℕ) → IsFirstFrom (IsWantedPart models config shape row.key) item None → (g : Option ℕ) (i : ℕ) (w : Want)
      → ((f : ℕ) → W (Some f) i w → ⊥) → ¬ IsTextBefore g i None item → ¬ W g i w
  no_part item parts None i w fields not wanted =
      elim (cases_lt i item) [ inl less ↦ not (inr (refl, less)) | inr ge ↦ parts i w ge wanted ]
  no_part item parts (Some g) i w fields not wanted = fields g wanted

  before_by : (item : ℕ) (a : SlotWant) → IsFirstFrom (IsWantedPart models config shape row.key) item None
      → ((g : Option ℕ) (i : ℕ) (w : Want) → ¬ IsTextBefore g i (Some 0) 0 → IsTextBefore g i a.field a.item → ¬ W g i w)
      → (g : Option ℕ) (i : ℕ) (w : Want) → ¬ IsTextBefore g i None item → IsTextBefore g i a.field a.item → ¬ W g i w
  before_by item a parts first None i w not lt wanted =
      elim (cases_lt i item) [ inl less ↦ not (inr (refl, less)) | inr ge ↦ parts i w ge wanted ]
  before_by item a parts first (Some g) i w not lt wanted = first (Some g) i w (not_first g i) lt wanted

  pub past_parts : (item : ℕ) (o : Option SlotWant) → IsFirstFrom (IsWantedPart models config shape row.key) item None
      → IsFirstText W (Some 0) 0 o → IsFirstText W None item o
  past_parts item None parts none = λ g i w not wanted. no_part item parts g i w (λ f. none (Some f) i w (not_first f i)) not wanted
  past_parts item (Some a) parts first = (field_behind a.field a.item item first.0, first.1, before_by item a parts first.2)
