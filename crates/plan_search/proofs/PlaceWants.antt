-- The wants of a configuration by their places: at each place it can be told, and the places are finitely many.
use Rattle.std.proofs.Common.{◌≡◌, ◌⊎◌, inl, inr, ℕ, zero, suc, ◌<◌, Bool, true, false, if◌then◌else◌, List, [], ◌∷◌, length, Option, Some, None, is_some, option_and_then, option_map, slice_get, refl, sym, ap, subst, ◌∙◌, arith}
use Rattle.std.proofs.lemmas.Option.{slice_get_within}
use Rattle.conf_doc.specs.declared.configuration.Config.{Config}
use Rattle.conf_doc.specs.declared.configuration.Entry.{Entry}
use Rattle.conf_doc.specs.declared.configuration.Table.{Table}
use Rattle.conf_doc.proofs.Edits.{same_Some}
use Rattle.key_split.specs.Key.{key_parts}
use Rattle.yang_pattern.proofs.Decisions.{Told, both, like}
use Rattle.yang_types.specs.DataType.{DataType}
use Rattle.yang_types.specs.DataTypes.{data_type}
use Rattle.yang_model.specs.Belongs.{Belongs, Belongs-once}
use Rattle.yang_model.specs.ModelSets.{ModelSet, shapes_of, table_named}
use Rattle.yang_model.specs.declared.shapes.KeyLeaf.{KeyLeaf}
use Rattle.yang_model.specs.declared.shapes.Shape.{Shape}
use Rattle.conf_check.specs.Acceptance.{IsSatisfied}
use Rattle.conf_check.specs.Rows.{HasShape, Row, if_modelled, row_at, row_of, texts_of, typed_text}
use Rattle.conf_check.specs.Wants.{IsWantAt, IsWantedText, Want}
use Rattle.conf_check.specs.declared.want_iter.WantPlace.{WantPlace}
use Rattle.move_core.specs.Contexts.{item_at, names_of, rulebook}
use Rattle.move_core.specs.Extensions.{IsReferrer, removal}
use Rattle.move_core.specs.Generated.{HasNoWant}
use Rattle.move_core.specs.Moves.{Place, step}
use Rattle.move_core.specs.declared.contexts.Ctx.{Ctx}
use Rattle.move_core.specs.declared.moves.Move.{Move}
use Rattle.move_core.proofs.DefinedMoves.{some_and}
use Rattle.move_lists.specs.Finite.{IsFinite}
use Rattle.move_lists.proofs.FiniteSets.{finite_each, finite_either, finite_found, finite_image, finite_within}
use Rattle.plan_search.specs.Kits.{moves_told}
use Rattle.plan_search.proofs.Telling.{finite_below, finite_told, not_told, same_place, some_told}
use Rattle.plan_search.proofs.TextWants.{belongs_to, satisfied_told, want_told}

-- one stands at an index within the list
at_index : {A : Type 0} (xs : List A) (i : ℕ) → i < length xs → (x : A) × (slice_get xs i ≡ Some x)
at_index [] i lt = absurd (omega (arith, lt))
at_index (x ∷ xs) zero lt = (x, refl)
at_index (x ∷ xs) (suc i) lt = at_index xs i (omega (arith, lt))

-- what is made of something is made of it
of_some : {A B : Type 0} (f : A → B) (o : Option A) (b : B) → option_map f o ≡ Some b
    → (a : A) × (o ≡ Some a) × (f a ≡ b)
of_some f None b e = absurd cc
of_some f (Some a) b e = (a, refl, same_Some (f a) b e)

then_some : {A B : Type 0} (f : A → Option B) (o : Option A) (b : B) → option_and_then f o ≡ Some b
    → (a : A) × (o ≡ Some a) × (f a ≡ Some b)
then_some f None b e = absurd cc
then_some f (Some a) b e = (a, refl, e)

abbrev with_type : DataType → List ℕ → DataType × List ℕ
with_type t s = (t, s)

abbrev place_of : (table key : ℕ) (field : Option ℕ) (item : ℕ) → WantPlace
place_of table key field item = record { table = table; key = key; field = field; item = item }

module _ (models : ModelSet) where
  -- an entry has one shape
  shape_once : (row : Row) (a b : Shape) → HasShape models row a → HasShape models row b → a ≡ b
  shape_once row a b p q =
      same_Some a b
      (sym p.is ∙ ap (slice_get (shapes_of row.table models))
      (same_Some p.place q.place
      (Belongs-once (shapes_of row.table models) row.key (Some p.place) (Some q.place) p.belongs q.belongs))
      ∙ q.is)

  -- the shape of a row, or none
  shape_told : (row : Row) → Told ((shape : Shape) × HasShape models row shape)
  shape_told row = by (belongs_to (shapes_of row.table models) row.key)
    where
      by : (o : Option ℕ) × Belongs (shapes_of row.table models) row.key o
          → Told ((shape : Shape) × HasShape models row shape)
      by (None, none) =
          inr (λ h.
          let e = Belongs-once (shapes_of row.table models) row.key None (Some h.1.place) none h.1.belongs in absurd cc)
      by (Some i, is) =
          let at = at_index (shapes_of row.table models) i is.0 in
          inl (at.0, record { place = i; belongs = is; is = at.1 })

  module _ (c : Config) where
    -- ---- the want at a place

    module _ (P : Want → Type 0) (told : (w : Want) → Told (P w)) (at : WantPlace) where
      -- the text there has a want that is as P says
      abbrev WantsAt : Type 0
      WantsAt = (w : Want) × IsWantAt models c at w × P w

      module _ (row : Row) (is : row_at models c at.table at.key ≡ Some row) where
        same_row : (w : Want) (want : IsWantAt models c at w) → want.row ≡ row
        same_row w want = same_Some want.row row (sym want.at ∙ is)

        of_shape : Told ((shape : Shape) × HasShape models row shape) → Told WantsAt
        of_shape (inr n) =
            inr (λ h. n (h.1.shape, subst (λ r. HasShape models r h.1.shape) (same_row h.0 h.1) h.1.shaped))
        of_shape (inl (shape, shaped)) =
            like (λ h. (h.0, record { row = row; at = is; shape = shape; shaped = shaped; wanted = h.1 }, h.2))
            (λ h. (h.0, back h.0 h.1, h.2))
            (want_told models c P told (typed_text shape row at.field at.item))
          where
            back : (w : Want) → IsWantAt models c at w → IsWantedText models c (typed_text shape row at.field at.item) w
            back w want =
                let rows = same_row w want in
                let has = subst (λ r. HasShape models r want.shape) rows want.shaped in
                subst (λ s. IsWantedText models c (typed_text s row at.field at.item) w)
                (shape_once row want.shape shape has shaped)
                (subst (λ r. IsWantedText models c (typed_text want.shape r at.field at.item) w) rows want.wanted)

      at_told : Told WantsAt
      at_told = by (row_at models c at.table at.key) refl
        where
          by : (o : Option Row) → row_at models c at.table at.key ≡ o → Told WantsAt
          by None e = inr (λ h. let f = sym e ∙ h.1.at in absurd cc)
          by (Some row) e = of_shape row e (shape_told row)

    -- ---- the places

    -- the texts of a field of a row
    abbrev texts_at : Shape → Row → ℕ → Option (DataType × List (List ℕ))
    texts_at shape row l = option_and_then (texts_of shape) (slice_get row.fields l)

    -- the place of a part of the key
    abbrev IsOfKey : ℕ → ℕ → Row → WantPlace → Type 0
    IsOfKey t k row at = (i : ℕ) × (i < length (key_parts row.key)) × (at ≡ place_of t k None i)

    -- the place of one of some texts of a field
    abbrev IsOfTexts : ℕ → ℕ → ℕ → List (List ℕ) → WantPlace → Type 0
    IsOfTexts t k l texts at = (i : ℕ) × (i < length texts) × (at ≡ place_of t k (Some l) i)

    -- the place of a text of a field
    abbrev IsOfField : ℕ → ℕ → Row → Shape → WantPlace → Type 0
    IsOfField t k row shape at =
        (l : ℕ) × (l < length row.fields)
        × ((ts : DataType × List (List ℕ)) × (texts_at shape row l ≡ Some ts) × IsOfTexts t k l ts.1 at)

    abbrev IsOfRow : ℕ → ℕ → Row → WantPlace → Type 0
    IsOfRow t k row at = (shape : Shape) × HasShape models row shape × (IsOfKey t k row at ⊎ IsOfField t k row shape at)

    -- the place of a text of the row there
    abbrev IsAtKey : ℕ → ℕ → WantPlace → Type 0
    IsAtKey t k at = (row : Row) × (row_at models c t k ≡ Some row) × IsOfRow t k row at

    -- the place of a text of the configuration
    abbrev IsPlaceIn : WantPlace → Type 0
    IsPlaceIn at =
        (t : ℕ) × (t < length c)
        × ((u : List ℕ × Table) × (slice_get c t ≡ Some u)
        × ((k : ℕ) × (k < length u.1) × IsAtKey t k at))

    -- ---- there are finitely many

    finite_of_row : (t k : ℕ) (row : Row) → IsFinite (IsOfRow t k row)
    finite_of_row t k row =
        finite_each (HasShape models row) (λ shape at. IsOfKey t k row at ⊎ IsOfField t k row shape at) shapes
        (λ shape. finite_either (IsOfKey t k row) (IsOfField t k row shape)
        (finite_image (λ i. i < length (key_parts row.key)) (place_of t k None)
        (finite_below (length (key_parts row.key))))
        (fields shape))
      where
        shapes : IsFinite (HasShape models row)
        shapes = by (shape_told row)
          where
            by : Told ((shape : Shape) × HasShape models row shape) → IsFinite (HasShape models row)
            by (inr n) = ([], λ shape has. absurd (n (shape, has)))
            by (inl (shape, has)) =
                finite_within (HasShape models row) (λ s. Some shape ≡ Some s)
                (λ s other. ap Some (shape_once row shape s has other)) (finite_found (Some shape))

        fields : (shape : Shape) → IsFinite (IsOfField t k row shape)
        fields shape =
            finite_each (λ l. l < length row.fields)
            (λ l at. (ts : DataType × List (List ℕ)) × (texts_at shape row l ≡ Some ts) × IsOfTexts t k l ts.1 at)
            (finite_below (length row.fields))
            (λ l. finite_each (λ ts. texts_at shape row l ≡ Some ts) (λ ts. IsOfTexts t k l ts.1)
            (finite_found (texts_at shape row l))
            (λ ts. finite_image (λ i. i < length ts.1) (place_of t k (Some l)) (finite_below (length ts.1))))

    finite_at_key : (t k : ℕ) → IsFinite (IsAtKey t k)
    finite_at_key t k =
        finite_each (λ row. row_at models c t k ≡ Some row) (IsOfRow t k) (finite_found (row_at models c t k))
        (finite_of_row t k)

    finite_in : IsFinite IsPlaceIn
    finite_in =
        finite_each (λ t. t < length c)
        (λ t at. (u : List ℕ × Table) × (slice_get c t ≡ Some u) × ((k : ℕ) × (k < length u.1) × IsAtKey t k at))
        (finite_below (length c))
        (λ t. finite_each (λ (u : List ℕ × Table). slice_get c t ≡ Some u)
        (λ u at. (k : ℕ) × (k < length u.1) × IsAtKey t k at) (finite_found (slice_get c t))
        (λ u. finite_each (λ k. k < length u.1) (IsAtKey t) (finite_below (length u.1)) (finite_at_key t)))

    -- the text of a row stands at one of its places
    text_place : (t k : ℕ) (row : Row) (shape : Shape) (field : Option ℕ) (i : ℕ) (x : DataType × List ℕ)
        → typed_text shape row field i ≡ Some x
        → IsOfKey t k row (place_of t k field i) ⊎ IsOfField t k row shape (place_of t k field i)
    text_place t k row shape None i x is =
        let leaf =
        then_some (λ (leaf : KeyLeaf). option_map (with_type (data_type leaf.ty)) (slice_get (key_parts row.key) i))
        (slice_get shape.keys i) x is in
        let part = of_some (with_type (data_type leaf.0.ty)) (slice_get (key_parts row.key) i) x leaf.2 in
        inl (i, slice_get_within (key_parts row.key) i part.0 part.1, refl)
    text_place t k row shape (Some l) i x is =
        let ts =
        then_some (λ (ts : DataType × List (List ℕ)). option_map (with_type ts.0) (slice_get ts.1 i))
        (texts_at shape row l) x is in
        let s = of_some (with_type ts.0.0) (slice_get ts.0.1 i) x ts.2 in
        let f = then_some (texts_of shape) (slice_get row.fields l) ts.0 ts.1 in
        inr (l, slice_get_within row.fields l f.0 f.1, (ts.0, ts.1, (i, slice_get_within ts.0.1 i s.0 s.1, refl)))

    same_table : (u v : List ℕ × Table) → if_modelled models u ≡ Some v → u ≡ v
    same_table u v e = by (is_some (table_named u.0 models)) e
      where
        by : (b : Bool) → (if b then Some u else None) ≡ Some v → u ≡ v
        by true e = same_Some u v e
        by false e = absurd cc

    -- a row stands in a table and at a key
    row_within : (t k : ℕ) (row : Row) → row_at models c t k ≡ Some row
        → (u : List ℕ × Table) × (slice_get c t ≡ Some u) × (k < length u.1)
    row_within t k row is =
        let u =
        then_some
        (λ (u : List ℕ × Table). option_map (λ (e : List ℕ × Entry). row_of u.0 e.0 e.1) (slice_get u.1 k))
        (option_and_then (if_modelled models) (slice_get c t)) row is in
        let e = of_some (λ (e : List ℕ × Entry). row_of u.0.0 e.0 e.1) (slice_get u.0.1 k) row u.2 in
        let v = then_some (if_modelled models) (slice_get c t) u.0 u.1 in (
          v.0,
          v.1,
          subst (λ (x : List ℕ × Table). k < length x.1) (sym (same_table v.0 u.0 v.2))
              (slice_get_within u.0.1 k e.0 e.1),
        )

    -- where a text has a want is such a place
    want_place : (at : WantPlace) (w : Want) → IsWantAt models c at w → IsPlaceIn at
    want_place at w want =
        let u = row_within at.table at.key want.row want.at in
        let typed = some_and (typed_text want.shape want.row at.field at.item) want.wanted in
        let text =
        text_place at.table at.key want.row want.shape at.field at.item typed.0 typed.1 in (
          at.table,
          slice_get_within c at.table u.0 u.1,
          (u.0, u.1, (at.key, u.2, (want.row, want.at, (want.shape, want.shaped, text)))),
        )

    -- a text with a want that is as P says, at its place
    module _ (P : WantPlace → Want → Type 0) (told : (at : WantPlace) (w : Want) → Told (P at w)) where
      pub wanted_told : Told ((at : WantPlace) × ((w : Want) × IsWantAt models c at w × P at w))
      wanted_told =
          finite_told (λ at. WantsAt (P at) (told at) at) (λ at. at_told (P at) (told at) at)
          (finite_within (λ at. WantsAt (P at) (told at) at) IsPlaceIn (λ at h. want_place at h.0 h.1) finite_in)

-- ---- places by their names

-- no text at a place has a want
pub no_want_told : (ctx : Ctx) (c : Config) (p : Place) → Told (HasNoWant (rulebook ctx) c p)
no_want_told ctx c p =
    like (λ n i w has. n (has.at, (w, has.wanted, has.names)))
    (λ none h. none (item_at c p h.0.item) h.1.0 (record { at = h.0; wanted = h.1.1; names = h.1.2; index = refl }))
    (not_told
    (wanted_told ctx.models c (λ at w. names_of c at ≡ Some p) (λ at w. some_told same_place (names_of c at) p)))

module _ (ctx : Ctx) (c : Config) (m x : Move) where
  -- what stands at the place is removed
  abbrev RemovesAt : WantPlace → Type 0
  RemovesAt at = (p : Place) × (names_of c at ≡ Some p) × (x ≡ removal p (item_at c p at.item))

  removes_told : (at : WantPlace) → Told (RemovesAt at)
  removes_told at = by (names_of c at) refl
    where
      by : (o : Option Place) → names_of c at ≡ o → Told (RemovesAt at)
      by None e = inr (λ h. let f = sym e ∙ h.1 in absurd cc)
      by (Some p) e =
          like (λ is. (p, e, is))
          (λ h. subst (λ q. x ≡ removal q (item_at c q at.item)) (same_Some h.0 p (sym h.1 ∙ e)) h.2)
          (moves_told x (removal p (item_at c p at.item)))

  -- the move leaves the want unsatisfied, and what has it is removed
  abbrev Refers : WantPlace → Want → Type 0
  Refers at w = (¬ IsSatisfied ctx.models (step c m) w.target w.text) × RemovesAt at

  refers_told : (at : WantPlace) (w : Want) → Told (Refers at w)
  refers_told at w = both (not_told (satisfied_told ctx.models (step c m) w.target w.text)) (removes_told at)

  to_referrer : (at : WantPlace) × ((w : Want) × IsWantAt ctx.models c at w × Refers at w)
      → IsReferrer (rulebook ctx) c m x
  to_referrer (at, (w, wanted, (broken, (p, names, is)))) = record {
    at = p;
    item = item_at c p at.item;
    want = w;
    there = record { at = at; wanted = wanted; names = names; index = refl };
    broken = broken;
    move = is;
  }

  from_referrer : IsReferrer (rulebook ctx) c m x
      → (at : WantPlace) × ((w : Want) × IsWantAt ctx.models c at w × Refers at w)
  from_referrer is = (
    is.there.at,
    (
      is.want,
      is.there.wanted,
      (
        is.broken,
        (is.at, is.there.names, subst (λ i. x ≡ removal is.at i) (sym is.there.index) is.move),
      ),
    ),
  )

  -- what has a want that the move leaves unsatisfied
  pub referrer_told : Told (IsReferrer (rulebook ctx) c m x)
  referrer_told = like to_referrer from_referrer (wanted_told ctx.models c Refers refers_told)
