-- The first want of a configuration, from one entry or table to the next.
use Rattle.std.proofs.Common.{◌≡◌, ◌⊎◌, ◌<◌, ◌≤◌, ◌+◌, ℕ, List, Option, Some, None, length, slice_get, refl, sym, ap, ◌∙◌, subst, inl, inr, arith}
use Rattle.std.proofs.lemmas.Bool.{cases_lt}
use Rattle.conf_doc.specs.declared.configuration.Config.{Config}
use Rattle.conf_doc.specs.declared.configuration.Entry.{Entry}
use Rattle.conf_doc.specs.declared.configuration.Table.{Table}
use Rattle.yang_model.specs.ModelSets.{ModelSet}
use Rattle.yang_model.specs.declared.shapes.Shape.{Shape}
use Rattle.conf_check.specs.FirstWants.{AreOfOneEntry, IsFirstOfEntry, IsTextBefore, IsFirstText, IsWantedIn, IsWantedAt, IsFirstWant, start_of}
use Rattle.conf_check.specs.Rows.{Row, row_of, row_at, HasShape}
use Rattle.conf_check.specs.Wants.{Want, want_of, IsPlaceBefore, IsWantAt}
use Rattle.conf_check.specs.declared.first_wants.SlotWant.{SlotWant}
use Rattle.conf_check.specs.declared.want_iter.WantAt.{WantAt}
use Rattle.conf_check.specs.declared.want_iter.WantPlace.{WantPlace}
use Rattle.conf_check.proofs.RowPlaces.{past_keys, past_tables, row_only, row_there}
use Rattle.conf_check.proofs.TableShapes.{shape_once}

-- an entry wants what its texts want by its shape
module _ (models : ModelSet) (config : Config) (row : Row) where
  to_shape : (shape : Shape) → HasShape models row shape → (f : Option ℕ) (i : ℕ) (w : Want) → IsWantedAt models config row f i w → IsWantedIn models config shape row f i w
  to_shape shape has f i w wanted =
      subst (λ s. IsWantedIn models config s row f i w) (shape_once models row wanted.shape shape wanted.shaped has) wanted.wanted

  from_shape : (shape : Shape) → HasShape models row shape → (f : Option ℕ) (i : ℕ) (w : Want) → IsWantedIn models config shape row f i w → IsWantedAt models config row f i w
  from_shape shape has f i w wanted = record { shape = shape; shaped = has; wanted = wanted }

  pub at_shape : (shape : Shape) (field : Option ℕ) (item : ℕ) (o : Option SlotWant) → HasShape models row shape
      → IsFirstText (IsWantedIn models config shape row) field item o → IsFirstText (IsWantedAt models config row) field item o
  at_shape shape field item None has none = λ f i w not wanted. none f i w not (to_shape shape has f i w wanted)
  at_shape shape field item (Some a) has first = (
    first.0,
    from_shape shape has a.field a.item (want_of a.want) first.1,
    λ f i w not lt wanted. first.2 f i w not lt (to_shape shape has f i w wanted),
  )

-- nothing stands before the first part of a key
pub nothing_before : (f : Option ℕ) (i : ℕ) → ¬ IsTextBefore f i None 0
nothing_before None i (inl h) = h
nothing_before None i (inr p) = omega (arith, p.1)
nothing_before (Some f) i (inl h) = h
nothing_before (Some f) i (inr p) = omega (arith, p.1)

some_same : (a b : ℕ) → Some a ≡ Some b → a ≡ b
some_same a b e = cc

-- what doesn't stand before g and stands before h, has g before h
text_between : (f g h : Option ℕ) (i j m : ℕ) → ¬ IsTextBefore f i g j → IsTextBefore f i h m → IsTextBefore g j h m
text_between None None None i j m not (inl b) = absurd b
text_between None None None i j m not (inr p) =
    elim (cases_lt i j) [ inl less ↦ absurd (not (inr (refl, less))) | inr ge ↦ inr (refl, omega (arith, p.1)) ]
text_between None None (Some h) i j m not lt = inl tt
text_between None (Some g) h i j m not lt = absurd (not (inl tt))
text_between (Some f) None None i j m not (inl b) = absurd b
text_between (Some f) None None i j m not (inr p) = let e = p.0 in absurd (cc)
text_between (Some f) None (Some h) i j m not lt = inl tt
text_between (Some f) (Some g) None i j m not (inl b) = absurd b
text_between (Some f) (Some g) None i j m not (inr p) = let e = p.0 in absurd (cc)
text_between (Some f) (Some g) (Some h) i j m not lt =
    elim (cases_lt f g) [
      | inl less ↦ absurd (not (inl less))
      | inr more ↦ elim (cases_lt g h) [
        | inl before ↦ inl before
        | inr same ↦ elim lt [
          | inl less ↦ absurd (omega arith)
          | inr p ↦
              let fh : f ≡ h = some_same f h p.0 in
              let fg : f ≡ g = omega arith in
              let gh : g ≡ h = omega arith in
              elim (cases_lt i j) [
                | inl under ↦ absurd (not (inr (ap Some fg, under)))
                | inr ge ↦ inr (ap Some gh, omega (arith, p.1))
              ]
        ]
      ]
    ]

-- the wants of the entry at a place
module _ (models : ModelSet) (config : Config) (at : WantPlace) where
  module _ (table : List ℕ × Table) (entry : List ℕ × Entry) (is : slice_get config at.table ≡ Some table) (is_key : slice_get table.1 at.key ≡ Some entry) where
    abbrev row : Row
    row = row_of table.0 entry.0 entry.1

    here : (p : WantPlace) (w : Want) → AreOfOneEntry p at → IsWantAt models config p w → IsWantedAt models config row p.field p.item w
    here p w same wanted =
        let a = subst (λ n. row_at models config n p.key ≡ Some wanted.row) same.0 wanted.at in
        let b = subst (λ n. row_at models config at.table n ≡ Some wanted.row) same.1 a in
        let one : row ≡ wanted.row = row_only models config at.table at.key table entry is is_key wanted.row b in
        subst (λ r. IsWantedAt models config r p.field p.item w) (sym one)
        (record { shape = wanted.shape; shaped = wanted.shaped; wanted = wanted.wanted })

    behind_text : (p : WantPlace) → AreOfOneEntry p at → ¬ IsPlaceBefore p at → ¬ IsTextBefore p.field p.item at.field at.item
    behind_text p same not text = not (inr (same.0, inr (same.1, text)))

    -- none, where no text of the entry has one
    pub no_text : IsFirstText (IsWantedAt models config row) at.field at.item None → IsFirstOfEntry models config at None
    no_text first p w same not wanted = first p.field p.item w (behind_text p same not) (here p w same wanted)

    -- the first of its texts
    pub first_text : (a : SlotWant) (b : WantAt) → a.want ≡ b.want → IsFirstText (IsWantedAt models config row) at.field at.item (Some a)
        → IsFirstOfEntry models config at (Some (record { table = at.table; key = at.key; field = a.field; item = a.item }, b))
    first_text a b same_want first = ((refl, refl), not_behind, there, before)
      where
        not_behind : ¬ IsPlaceBefore (record { table = at.table; key = at.key; field = a.field; item = a.item }) at
        not_behind (inl lt) = omega arith
        not_behind (inr q) = elim q.1 [ inl lt ↦ omega arith | inr r ↦ first.0 r.1 ]

        there : IsWantAt models config (record { table = at.table; key = at.key; field = a.field; item = a.item }) (want_of b.want)
        there = subst (λ w. IsWantAt models config (record { table = at.table; key = at.key; field = a.field; item = a.item }) (want_of w)) same_want
            (record {
              row = row;
              at = row_there models config at.table at.key table entry is is_key first.1.shape first.1.shaped;
              shape = first.1.shape;
              shaped = first.1.shaped;
              wanted = first.1.wanted;
            })

        before : (p : WantPlace) (w : Want) → AreOfOneEntry p at → ¬ IsPlaceBefore p at
            → IsPlaceBefore p (record { table = at.table; key = at.key; field = a.field; item = a.item }) → ¬ IsWantAt models config p w
        before p w same not (inl lt) wanted = omega (arith, same.0)
        before p w same not (inr q) wanted = elim q.1 [
          | inl lt ↦ omega (arith, same.1)
          | inr r ↦ first.2 p.field p.item w (behind_text p same not) r.1 (here p w same wanted)
        ]

module _ (models : ModelSet) (config : Config) (from : WantPlace) where
  abbrev pub NoneUpTo : WantPlace → Type 0
  NoneUpTo at = (p : WantPlace) (w : Want) → ¬ IsPlaceBefore p from → IsPlaceBefore p at → ¬ IsWantAt models config p w

  abbrev pub UpTo : WantPlace → Type 0
  UpTo at = NoneUpTo at × (¬ IsPlaceBefore at from)

  module _ (at : WantPlace) (none : NoneUpTo at) (behind : ¬ IsPlaceBefore at from) where
    -- past the last key of a table
    pub none_past_keys : (table : List ℕ × Table) → slice_get config at.table ≡ Some table → length table.1 ≤ at.key
        → NoneUpTo (start_of (at.table + 1) 0)
    none_past_keys table is past p w not before wanted = by before
      where
        here : p.table ≡ at.table → ⊥
        here same =
            elim (cases_lt p.key at.key) [
              | inl less ↦ none p w not (inr (same, inl less)) wanted
              | inr ge ↦ past_keys models config p.table p.key table (subst (λ n. slice_get config n ≡ Some table) (sym same) is) (omega arith) wanted.row wanted.at
            ]

        by : IsPlaceBefore p (start_of (at.table + 1) 0) → ⊥
        by (inl lt) =
            elim (cases_lt p.table at.table) [ inl less ↦ none p w not (inl less) wanted | inr ge ↦ here (omega arith) ]
        by (inr q) = elim q.1 [ inl lt ↦ omega arith | inr r ↦ nothing_before p.field p.item r.1 ]

    pub behind_table : ¬ IsPlaceBefore (start_of (at.table + 1) 0) from
    behind_table (inl lt) = behind (inl (omega arith))
    behind_table (inr q) = behind (inl (omega (arith, q.0)))

    pub behind_key : ¬ IsPlaceBefore (start_of at.table (at.key + 1)) from
    behind_key (inl lt) = behind (inl lt)
    behind_key (inr q) =
        elim q.1 [ inl lt ↦ behind (inr (q.0, inl (omega arith))) | inr r ↦ behind (inr (q.0, inl (omega (arith, r.0)))) ]

    before_entry : (p : WantPlace) (w : Want) → ¬ IsPlaceBefore p from → IsWantAt models config p w → (p.table < at.table) ⊎ ((p.table ≡ at.table) × (p.key < at.key)) → ⊥
    before_entry p w not wanted (inl lt) = none p w not (inl lt) wanted
    before_entry p w not wanted (inr q) = none p w not (inr (q.0, inl q.1)) wanted

    -- past an entry that has no want behind the place
    pub none_past_entry : IsFirstOfEntry models config at None → NoneUpTo (start_of at.table (at.key + 1))
    none_past_entry first p w not before wanted = by before
      where
        by : IsPlaceBefore p (start_of at.table (at.key + 1)) → ⊥
        by (inl lt) = before_entry p w not wanted (inl lt)
        by (inr q) = elim q.1 [
          | inl lt ↦ elim (cases_lt p.key at.key) [
            | inl less ↦ before_entry p w not wanted (inr (q.0, less))
            | inr ge ↦
                let k : p.key ≡ at.key = omega arith in
                first p w (q.0, k) (λ earlier. none p w not earlier wanted) wanted
          ]
          | inr r ↦ nothing_before p.field p.item r.1
        ]

    -- the first want of the entry behind the place is the first of the configuration
    pub first_in_configuration : (a : WantPlace × WantAt) → IsFirstOfEntry models config at (Some a) → IsFirstWant models config from (Some a)
    first_in_configuration a first = (not_behind, first.2, before)
      where
        not_behind : ¬ IsPlaceBefore a.0 from
        not_behind (inl lt) = behind (inl (omega (arith, first.0.0)))
        not_behind (inr q) = elim q.1 [
          | inl lt ↦ behind (inr (sym first.0.0 ∙ q.0, inl (omega (arith, first.0.1))))
          | inr r ↦
              behind (inr (
                sym first.0.0 ∙ q.0,
                inr (
                  sym first.0.1 ∙ r.0,
                  text_between a.0.field at.field from.field a.0.item at.item from.item
                      (λ text. first.1 (inr (first.0.0, inr (first.0.1, text)))) r.1,
                ),
              ))
        ]

        here : (p : WantPlace) (w : Want) → ¬ IsPlaceBefore p from → AreOfOneEntry p at → IsPlaceBefore p a.0 → ¬ IsWantAt models config p w
        here p w not same lt wanted = first.3 p w same (λ earlier. none p w not earlier wanted) lt wanted

        before : (p : WantPlace) (w : Want) → ¬ IsPlaceBefore p from → IsPlaceBefore p a.0 → ¬ IsWantAt models config p w
        before p w not (inl lt) wanted = before_entry p w not wanted (inl (omega (arith, first.0.0)))
        before p w not (inr q) wanted = elim q.1 [
          | inl lt ↦ before_entry p w not wanted (inr (q.0 ∙ first.0.0, omega (arith, first.0.1)))
          | inr r ↦ here p w not (q.0 ∙ first.0.0, r.0 ∙ first.0.1) (inr (q.0, inr r)) wanted
        ]

    -- past the last table
    pub none_at_all : length config ≤ at.table → IsFirstWant models config from None
    none_at_all past p w not wanted =
        elim (cases_lt p.table at.table) [
          | inl less ↦ none p w not (inl less) wanted
          | inr ge ↦ past_tables models config p.table p.key (omega arith) wanted.row wanted.at
        ]
