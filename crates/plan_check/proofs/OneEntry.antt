-- Steps that leave each entry but one, and each key, as it was: the result is valid where that entry is.
use Rattle.std.proofs.Common.{◌≡◌, ◌⊎◌, ◌↔◌, ◌<◌, ◌≤◌, ◌+◌, ℕ, zero, suc, Bool, true, false, cond, List, [], ◌∷◌, Option, Some, None, option_map, option_and_then, is_some, IsSome, IsTrue, Contains, map, length, slice_get, inl, inr, refl, sym, ap, ◌∙◌, subst, arith}
use Rattle.std.specs.Prelude.{IsSomeAnd}
use Rattle.std.specs.Bool.{OnFalse}
use Rattle.std.specs.List.{Any}
use Rattle.std.specs.Option.{option_map_or}
use Rattle.std.specs.Ordering.{eq_by_cmp}
use Rattle.std.proofs.lemmas.Bool.{cases_lt}
use Rattle.std.proofs.lemmas.Option.{slice_get-map}
use Rattle.host_core.specs.Names.{name_cmp}
use Rattle.conf_doc.specs.Changes.{entry_at, with_part}
use Rattle.conf_doc.specs.Pairs.{find}
use Rattle.conf_doc.specs.WellFormed.{Each, IsConfig, IsTable}
use Rattle.conf_doc.specs.declared.configuration.Config.{Config}
use Rattle.conf_doc.specs.declared.configuration.Entry.{Entry}
use Rattle.conf_doc.specs.declared.configuration.Table.{Table}
use Rattle.conf_doc.specs.declared.configuration.Value.{Value}
use Rattle.yang_types.specs.DataType.{DataType, text, number, length_within, value_within, matching, one_of, truth, builtin, leafref, union, DataTypes, no_types, type_and}
use Rattle.yang_types.specs.declared.types.Target.{Target}
use Rattle.yang_model.specs.ModelSets.{ModelSet, TableModel, shape_of, shapes_of, table_named}
use Rattle.yang_model.specs.declared.shapes.MustRule.{MustRule}
use Rattle.yang_model.specs.declared.shapes.Shape.{Shape}
use Rattle.conf_check.specs.Acceptance.{AcceptsAnyIn, AcceptsIn, IsSatisfied}
use Rattle.conf_check.specs.Belongings.{AreBelongings, Belongings}
use Rattle.conf_check.specs.MustReads.{AgreeOn, HasOneTruth, IsRowAt}
use Rattle.conf_check.specs.Rows.{HasShape, IsEntryAt, Row, if_modelled, row_at, row_of, texts_of, typed_part}
use Rattle.conf_check.specs.Validity.{Breach, Breaks, BreaksShape, HasBadItem, IsBreach, IsFalse, IsRefused, IsValid, IsValidAt, no_shape, of_shape}
use Rattle.conf_check.specs.declared.violations.RuleName.{RuleName}
use Rattle.conf_check.specs.declared.violations.RuleName.TheVariants.{KeyShape, KeyReference, UnknownField, WrongKind, BadValue, DuplicateItem, MissingField, Must}
use Rattle.move_core.specs.Moves.{Place, new_part, part_after, place, step}
use Rattle.move_core.specs.Services.{table_of}
use Rattle.move_core.specs.declared.moves.Move.{Move}
use Rattle.move_core.specs.declared.moves.Move.TheVariants.{Add, Remove, Replace, AddItem, RemoveItem}
use Rattle.plan_check.specs.OneEntry.{HasReader, IsUnread, IsUnreadBy, KeepsKeys}
use Rattle.plan_check.proofs.AtKeys.{by_key, by_table, second_name}
use Rattle.plan_check.proofs.Loops.{there_at}
use Rattle.plan_check.proofs.NearPlaces.{entry_some, some_entry}
use Rattle.plan_check.proofs.PairSearches.{found_at, index_of}
use Rattle.plan_check.proofs.UntouchedPlaces.{apart_by, other_table, own_key, same_by}

same_one : {A : Type 0} (x y : A) → Some x ≡ Some y → x ≡ y
same_one x y e = cc

-- ---- what no key less leaves accepted

module _ (models : ModelSet) (a b : Config) (keys : (t k : List ℕ) → IsSome (entry_at a t k) → IsSome (entry_at b t k))
  where
    satisfied_on : (r : Target) (s : List ℕ) → IsSatisfied models a r s → IsSatisfied models b r s
    satisfied_on r s is = record {
      key = is.key;
      there = some_entry is.key (find r.table b) (keys r.table is.key (entry_some is.key (find r.table a) is.there));
      belongs = is.belongs;
      part = is.part;
    }

    mutual
      accepts_on : (t : DataType) (s : List ℕ) → AcceptsIn models a t s → AcceptsIn models b t s
      accepts_on text s is = is
      accepts_on (number r) s is = is
      accepts_on (length_within t bs) s is = is
      accepts_on (value_within t bs) s is = is
      accepts_on (matching t p) s is = is
      accepts_on (one_of ts) s is = is
      accepts_on truth s is = is
      accepts_on (builtin r) s is = is
      accepts_on (leafref target t) s is = (is.0, satisfied_on target s is.1)
      accepts_on (union ts) s is = accepts_any ts s is

      accepts_any : (ts : DataTypes) (s : List ℕ) → AcceptsAnyIn models a ts s → AcceptsAnyIn models b ts s
      accepts_any no_types s is = is
      accepts_any (type_and t ts) s (inl is) = inl (accepts_on t s is)
      accepts_any (type_and t ts) s (inr is) = inr (accepts_any ts s is)

    refused_back : (o : Option (DataType × List ℕ)) → IsSomeAnd o (IsRefused models b) → IsSomeAnd o (IsRefused models a)
    refused_back None refused = absurd refused
    refused_back (Some p) refused = λ is. refused (accepts_on p.0 p.1 is)

    bad_texts : (o : Option (DataType × List (List ℕ))) → IsSomeAnd o (λ ts. Any (λ s. IsRefused models b (ts.0, s)) ts.1)
        → IsSomeAnd o (λ ts. Any (λ s. IsRefused models a (ts.0, s)) ts.1)
    bad_texts None bad = absurd bad
    bad_texts (Some ts) bad = (bad.0, bad.1, bad.2, bad.3, λ is. bad.4 (accepts_on ts.0 bad.1 is))

    bad_item : (shape : Shape) (o : Option (List ℕ × Value)) → IsSomeAnd o (HasBadItem models b shape)
        → IsSomeAnd o (HasBadItem models a shape)
    bad_item shape None bad = absurd bad
    bad_item shape (Some f) bad = bad_texts (texts_of shape f) bad

    -- what an entry breaks in the second it breaks in the first, if its musts are false there too
    module _ (row : Row) (t k u l : ℕ)
        (musts : (shape : Shape) → HasShape models row shape → (n : ℕ) → IsSomeAnd (slice_get shape.musts n)
        (IsFalse models b u l) → IsSomeAnd (slice_get shape.musts n) (IsFalse models a t k)) where
      shape_back : (shape : Shape) → HasShape models row shape → (rule : RuleName) (n : ℕ) → BreaksShape models b u l row
          shape rule n → BreaksShape models a t k row shape rule n
      shape_back shape has KeyShape n breaks = absurd breaks
      shape_back shape has KeyReference n breaks = refused_back (typed_part shape row.key n) breaks
      shape_back shape has UnknownField n breaks = breaks
      shape_back shape has WrongKind n breaks = breaks
      shape_back shape has BadValue n breaks = bad_item shape (slice_get row.fields n) breaks
      shape_back shape has DuplicateItem n breaks = breaks
      shape_back shape has MissingField n breaks = breaks
      shape_back shape has Must n breaks = musts shape has n breaks

      breaks_back : (rule : RuleName) (n : ℕ) → Breaks models b u l row rule n → Breaks models a t k row rule n
      breaks_back rule n (no_shape none is at) = no_shape none is at
      breaks_back rule n (of_shape shape has breaks) = of_shape shape has (shape_back shape has rule n breaks)

-- ---- rows, by positions and by names

abbrev made_of : List ℕ × Table → List ℕ × Entry → Row
made_of u e = row_of u.0 e.0 e.1

module _ (models : ModelSet) (c : Config) (t k : ℕ) where
  abbrev InTable : Option (List ℕ × Table) → Option Row
  InTable o = option_and_then (λ (w : List ℕ × Table). option_map (made_of w) (slice_get w.1 k)) o

  abbrev Stands : Row → Type 0
  Stands r = IsRowAt c r t k × (is_some (table_named r.table models) ≡ true)

  by_entry : (u : List ℕ × Table) (o : Option (List ℕ × Entry)) (r : Row) → slice_get c t ≡ Some u → slice_get u.1 k
      ≡ o → is_some (table_named u.0 models) ≡ true
      → option_map (made_of u) o ≡ Some r → Stands r
  by_entry u None r at at_key modelled is = cc
  by_entry u (Some e) r at at_key modelled is =
      subst Stands (same_one (made_of u e) r is)
      (record { entry = record { entries = u.1; at = at; fields = e.1; at_key = at_key }; fields = refl }, modelled)

  by_model : (u : List ℕ × Table) (b : Bool) (r : Row) → is_some (table_named u.0 models) ≡ b → slice_get c t ≡ Some u
      → InTable (cond b (Some u) None) ≡ Some r → Stands r
  by_model u true r modelled at is = by_entry u (slice_get u.1 k) r at refl modelled is
  by_model u false r modelled at is = cc

  -- a row has a model, and stands there by its names
  named_row : (r : Row) → row_at models c t k ≡ Some r → Stands r
  named_row r is = by (slice_get c t) refl is
    where
      by : (o : Option (List ℕ × Table)) → slice_get c t ≡ o → InTable (option_and_then (if_modelled models) o)
          ≡ Some r → Stands r
      by None at is = cc
      by (Some u) at is = by_model u (is_some (table_named u.0 models)) r refl at is

  -- and the other way round
  row_named : (r : Row) → Stands r → row_at models c t k ≡ Some r
  row_named r is =
      ap (λ (o : Option (List ℕ × Table)). InTable (option_and_then (if_modelled models) o)) is.0.entry.at
      ∙ ap (λ (b : Bool). InTable (cond b (Some (r.table, is.0.entry.entries)) None)) is.1
      ∙ ap (option_map (made_of (r.table, is.0.entry.entries))) is.0.entry.at_key
      ∙ ap (λ (f : Entry). Some (row_of r.table r.key f)) is.0.fields

table_formed : (c : Config) (t : ℕ) (u : List ℕ × Table) → Each IsTable c → slice_get c t ≡ Some u → IsTable u.1
table_formed [] t u each at = absurd cc
table_formed (p ∷ c) zero u each at = subst (λ (q : List ℕ × Table). IsTable q.1) (same_one p u at) each.0
table_formed (p ∷ c) (suc t) u each at = table_formed c t u each.1 at

module _ (c : Config) (table key : List ℕ) where
  entry_found : (t k : ℕ) → IsConfig c → (is : IsEntryAt c table key t k) → entry_at c table key ≡ Some is.fields
  entry_found t k formed is =
      ap (option_and_then (find key)) (found_at c t table is.entries formed.shaped.rising is.at)
      ∙ found_at is.entries k key is.fields (table_formed c t (table, is.entries) formed.parts is.at).shaped.rising
      is.at_key

  entry_placed : (e : Entry) → entry_at c table key ≡ Some e → (t : ℕ) × (k : ℕ) × (is : IsEntryAt c table key t k)
      × (is.fields ≡ e)
  entry_placed e found = by (find table c) refl found
    where
      by : (o : Option Table) → find table c ≡ o → option_and_then (find key) o ≡ Some e → (t : ℕ) × (k : ℕ)
          × (is : IsEntryAt c table key t k) × (is.fields ≡ e)
      by None is found = cc
      by (Some entries) is found =
          let at = index_of c table entries is in
          let at_key = index_of entries key e found in
          (at.0, at_key.0, record { entries = entries; at = at.1; fields = e; at_key = at_key.1 }, refl)

-- ---- one entry that may differ

some_at : {A : Type 0} (P : A → Type 0) (o : Option A) → IsSomeAnd o P → (x : A) × (o ≡ Some x)
some_at P None is = absurd is
some_at P (Some x) is = (x, refl)

module _ (models : ModelSet) (cur next : Config) (table key : List ℕ) (formed : IsConfig cur) (well : IsConfig next)
    (one : HasOneTruth models)
    (known : (p : Belongings) × AreBelongings models cur p) (also : (p : Belongings) × AreBelongings models next p)
    (entries : (t k : List ℕ) → (entry_at cur t k ≡ entry_at next t k) ⊎ ((t ≡ table) × (k ≡ key)))
    (tables : (t : List ℕ) → (find t cur ≡ find t next) ⊎ (t ≡ table))
    (keys : (t k : List ℕ) → IsSome (entry_at cur t k) → IsSome (entry_at next t k))
    (unread : IsUnread models next table) where
  module _ (b : Breach) (broken : IsBreach models next b) where
    abbrev row : Row
    row = broken.row

    stands : IsRowAt next row b.table b.key × (is_some (table_named row.table models) ≡ true)
    stands = named_row models next b.table b.key row broken.at

    -- an entry that breaks a rule in the second, and is the same in the first, breaks it there
    module _ (same : entry_at cur row.table row.key ≡ entry_at next row.table row.key) where
      before : (t : ℕ) × (k : ℕ) × (is : IsEntryAt cur row.table row.key t k) × (is.fields ≡ row.fields)
      before = entry_placed cur row.table row.key row.fields (same ∙ entry_found next
          row.table row.key b.table b.key well stands.0.entry ∙
          ap Some stands.0.fields)

      stood : IsRowAt cur row before.0 before.1
      stood = record { entry = before.2; fields = before.3 }

      reader : (shape : Shape) (must : MustRule) → Contains shape.musts must → Contains must.reads table
          → HasReader table shape
      reader shape must of is = (of.0, must, of.1, of.2, is)

      named : slice_get (map (λ t. t.0) next) b.table ≡ Some row.table
      named = slice_get-map (λ (t : List ℕ × Table). t.0) next b.table ∙ ap (option_map (λ (t : List ℕ × Table). t.0))
          stands.0.entry.at

      agree : (shape : Shape) → HasShape models row shape → (must : MustRule) → Contains shape.musts must
          → AgreeOn cur next must.reads
      agree shape shaped must of name reads = elim (tables name) [
        | inl is ↦ is
        | inr is ↦ absurd (unread b.table row.table named shaped.place shape shaped.is (reader shape must of (subst
            (Contains must.reads) is reads)))
      ]

      musts_back : (shape : Shape) → HasShape models row shape → (n : ℕ) → IsSomeAnd (slice_get shape.musts n)
          (IsFalse models next b.table b.key)
          → IsSomeAnd (slice_get shape.musts n) (IsFalse models cur before.0 before.1)
      musts_back shape shaped n is =
          let must = some_at (IsFalse models next b.table b.key) (slice_get shape.musts n) is in
          let of : Contains shape.musts must.0 = there_at shape.musts n must.0 must.1 in
          let truths =
          one cur next row shape before.0 before.1 b.table b.key must.0
          (record {
            formed_a = formed;
            formed_b = well;
            shaped = shaped;
            at_a = stood;
            at_b = stands.0;
            known_a
                = known;
            known_b = also;
          })
          of (agree shape shaped must.0 of) in
          subst (λ o. IsSomeAnd o (IsFalse models cur before.0 before.1)) (sym must.1)
          (truths.1 (subst (λ o. IsSomeAnd o (IsFalse models next b.table b.key)) must.1 is))

      broke : IsBreach models cur (record { table = before.0; key = before.1; rule = b.rule; field = b.field })
      broke = record {
        row = row;
        at = row_named models cur before.0 before.1 row (stood, stands.1);
        breaks = breaks_back models cur next keys row before.0 before.1 b.table b.key musts_back
            b.rule b.field broken.breaks;
      }

  only_one : IsValid models cur → IsValidAt models next table key → IsValid models next
  only_one valid here b broken = elim (entries broken.row.table broken.row.key) [
    | inl same ↦
        let at = before b broken same in
        valid (record { table = at.0; key = at.1; rule = b.rule; field = b.field }) (broke b broken same)
    | inr is ↦
        here b (record {
          entry = subst (λ t. IsEntryAt next t key b.table b.key) is.0
              (subst (λ k. IsEntryAt next broken.row.table k b.table b.key) is.1 (stands b broken).0.entry);
          broken = broken;
        })
  ]

  one_tells : (r : Bool) → (IsTrue r ↔ IsValidAt models next table key) → IsValid models cur
      → IsTrue r ↔ IsValid models next
  one_tells r says valid = (λ yes. only_one valid (says.0 yes), λ all. says.1 (λ c is. all c is.broken))

-- ---- the entry of a move

put_part : (cur : Config) (m : Move) → IsSome (new_part m) → IsSome (part_after cur m)
put_part cur (Add p x) is = refl
put_part cur (Remove p) is = absurd cc
put_part cur (Replace p x) is = refl
put_part cur (AddItem p i x) is = refl
put_part cur (RemoveItem p i) is = refl

module _ (cur next : Config) (m : Move) (made : next ≡ step cur m) (keeps : KeepsKeys m) (t k : List ℕ) (rest : Place)
    (at : place m ≡ t ∷ k ∷ rest) where
  first : t ≡ table_of (place m)
  first = sym (ap table_of at)

  others : (u j : List ℕ) → (entry_at cur u j ≡ entry_at next u j) ⊎ ((u ≡ t) × (j ≡ k))
  others u j = elim (by_table cur next m t made first u j) [
    | inl same ↦ inl same
    | inr table ↦ elim (by_key cur next m t k made first (t, rest, at) j) [
      | inl same ↦ inl (subst (λ v. entry_at cur v j ≡ entry_at next v j) (sym table) same)
      | inr key ↦ inr (table, key)
    ]
  ]

  others_too : (u : List ℕ) → (find u cur ≡ find u next) ⊎ (u ≡ t)
  others_too u =
      elim (eq_by_cmp name_cmp u t) as (λ b. eq_by_cmp name_cmp u t ≡ b → (find u cur ≡ find u next) ⊎ (u ≡ t)) [
        | true ↦ λ e. inr (same_by u t e)
        | false ↦ λ e. inl (sym (ap (find u) made ∙ other_table cur (place m) (part_after cur m) u
            (λ same. apart_by u t e (same ∙ sym first))))
      ] refl

  put : length rest ≡ 0 → IsSome (part_after cur m)
  put none = let long : length (place m) ≡ length (t ∷ k ∷ rest)
      = ap length at in put_part cur m (keeps.1 (omega arith))

  own : IsSome (entry_at cur t k) → IsSome (entry_at next t k)
  own has =
      subst (λ (c : Config). IsSome (entry_at c t k)) (sym made)
      (subst (λ (p : Place). IsSome (entry_at (with_part cur p (part_after cur m)) t k)) (sym at)
      (own_key cur t k rest (part_after cur m) put has))

  stay : (u j : List ℕ) → IsSome (entry_at cur u j) → IsSome (entry_at next u j)
  stay u j has = elim (others u j) [
    | inl same ↦ subst IsSome same has
    | inr is ↦
        let here : IsSome (entry_at cur t k)
        = subst (λ v. IsSome (entry_at cur v k)) is.0 (subst (λ i. IsSome (entry_at cur u i)) is.1 has) in
        subst (λ v. IsSome (entry_at next v j)) (sym is.0) (subst (λ i. IsSome (entry_at next t i)) (sym is.1)
        (own here))
  ]

-- what the move leads to is valid where its entry is
pub entry_tells : (models : ModelSet) (cur next : Config) (m : Move) → next ≡ step cur m → KeepsKeys m
    → (table key : List ℕ) → slice_get (place m) 0 ≡ Some table → slice_get (place m) 1 ≡ Some key
    → IsConfig cur → IsConfig next → HasOneTruth models → ((p : Belongings) × AreBelongings models cur p)
    → ((p : Belongings) × AreBelongings models next p)
    → IsUnread models next (table_of (place m)) → IsValid models cur → (r : Bool)
    → (IsTrue r ↔ IsValidAt models next table key) → IsTrue r ↔ IsValid models next
entry_tells models cur next m made keeps table key at_table at_key formed well one known also unread valid r says =
    let names = second_name (place m) key at_key in
    let is : names.0 ≡ table = same_one names.0 table (sym (ap (λ p. slice_get p 0) names.2) ∙ at_table) in
    let at : place m ≡ table ∷ key ∷ names.1 = names.2 ∙ ap (λ n. n ∷ key ∷ names.1) is in
    one_tells models cur next table key formed well one known also (others cur next m made keeps table key names.1 at)
    (others_too cur next m made keeps table key names.1 at)
    (stay cur next m made keeps table key names.1 at) (subst (IsUnread models next) (ap table_of at) unread) r says
    valid

-- ---- the shapes of a table, gone through

shape_there : (o : Option TableModel) (n : ℕ) → option_and_then (λ t. slice_get t.shapes n) o
    ≡ slice_get (option_map_or (λ t. t.shapes) o []) n
shape_there None n = refl
shape_there (Some t) n = refl

none_past : {A : Type 0} (xs : List A) (n i : ℕ) (x : A) → n ≤ i → slice_get xs i ≡ Some x → None ≡ slice_get xs n → ⊥
none_past [] n i x past at none = cc
none_past (y ∷ ys) zero i x past at none = cc
none_past (y ∷ ys) (suc n) zero x past at none = omega (arith, past)
none_past (y ∷ ys) (suc n) (suc i) x past at none = none_past ys n i x (omega (arith, past)) at none

module _ (models : ModelSet) (table name : List ℕ) where
  pub shape_at : (n : ℕ) (shape : Shape) → Some shape ≡ shape_of name n models → slice_get (shapes_of name models) n
      ≡ Some shape
  shape_at n shape is = sym (is ∙ shape_there (table_named name models) n)

  -- past the last shape none is left
  pub unread_by : (n : ℕ) → ((i : ℕ) (shape : Shape) → i < n → slice_get (shapes_of name models) i ≡ Some shape
      → ¬ HasReader table shape)
      → None ≡ shape_of name n models → IsUnreadBy models table name
  unread_by n before none i shape at = elim (cases_lt i n) [
    | inl less ↦ before i shape less at
    | inr more ↦ absurd (none_past (shapes_of name models) n i shape (omega arith) at
        (none ∙ shape_there (table_named name models) n))
  ]

-- what is so of each item before an index, and at it
pub each_more : {A : Type 0} (P : A → Type 0) (xs : List A) (i : ℕ) (x : A) → slice_get xs i ≡ Some x → P x
    → ((j : ℕ) (y : A) → j < i → slice_get xs j ≡ Some y → P y)
    → (j : ℕ) (y : A) → j < i + 1 → slice_get xs j ≡ Some y → P y
each_more {A = A} P xs i x at is before j y lt there = elim (cases_lt j i) [
  | inl old ↦ before j y old there
  | inr new ↦
      let same : j ≡ i = omega arith in
      subst P (same_one x y (sym at ∙ ap (slice_get xs) (sym same) ∙ there)) is
]

pub when_false : {P : Type 0} (b : Bool) → b ≡ false → OnFalse b P → P
when_false true e is = absurd cc
when_false false e is = is
