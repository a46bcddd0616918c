-- An entry that is the same in another configuration, and whose wants are met there, breaks no rule there
-- that it doesn't break in the first.
use Rattle.std.proofs.Common.{◌≡◌, ℕ, List, Option, Some, None, option_map, option_and_then, slice_get, refl, sym, subst, inl, inr}
use Rattle.std.specs.Prelude.{IsSomeAnd}
use Rattle.std.specs.List.{Any}
use Rattle.conf_doc.specs.declared.configuration.Config.{Config}
use Rattle.conf_doc.specs.declared.configuration.Value.{Value}
use Rattle.yang_types.specs.DataType.{DataType, text, number, length_within, value_within, matching, one_of, truth, builtin, leafref, union, DataTypes, no_types, type_and}
use Rattle.yang_types.specs.declared.types.Target.{Target}
use Rattle.yang_model.specs.ModelSets.{ModelSet}
use Rattle.yang_model.specs.declared.shapes.Shape.{Shape}
use Rattle.conf_check.specs.Acceptance.{AcceptsIn, AcceptsAnyIn, IsWanted, IsFirstWanted, IsSatisfied}
use Rattle.conf_check.specs.Rows.{Row, HasShape, typed_text, typed_part, texts_of}
use Rattle.conf_check.specs.Validity.{Breaks, no_shape, of_shape, BreaksShape, IsRefused, HasBadItem, IsFalse}
use Rattle.conf_check.specs.Wants.{Want, IsWantedText}
use Rattle.conf_check.specs.declared.violations.RuleName.{RuleName}
use Rattle.conf_check.specs.declared.violations.RuleName.TheVariants.{KeyShape, KeyReference, UnknownField, WrongKind, BadValue, DuplicateItem, MissingField, Must}
use Rattle.recheck.proofs.Pairs.{at_contained}

module _ (models : ModelSet) (a : Config) where
  mutual
    -- what a type wants of a text is satisfied
    pub wanted_satisfied : (t : DataType) (s : List ℕ) (w : Target) → IsWanted models a t s w → IsSatisfied models a w s
    wanted_satisfied text s w is = absurd is
    wanted_satisfied (number b) s w is = absurd is
    wanted_satisfied (length_within t bs) s w is = absurd is
    wanted_satisfied (value_within t bs) s w is = absurd is
    wanted_satisfied (matching t p) s w is = absurd is
    wanted_satisfied (one_of ts) s w is = absurd is
    wanted_satisfied truth s w is = absurd is
    wanted_satisfied (builtin b) s w is = absurd is
    wanted_satisfied (leafref target t) s w is = subst (λ x. IsSatisfied models a x s) (sym is.0) is.1.1
    wanted_satisfied (union ts) s w is = first_satisfied ts s w is

    first_satisfied : (ts : DataTypes) (s : List ℕ) (w : Target) → IsFirstWanted models a ts s w → IsSatisfied models a w s
    first_satisfied no_types s w is = absurd is
    first_satisfied (type_and t ts) s w (inl here) = wanted_satisfied t s w here
    first_satisfied (type_and t ts) s w (inr later) = first_satisfied ts s w later.1

  pub text_satisfied : (o : Option (DataType × List ℕ)) (w : Want) → IsWantedText models a o w → IsSatisfied models a w.target w.text
  text_satisfied None w is = absurd is
  text_satisfied (Some p) w is = subst (λ s. IsSatisfied models a w.target s) is.0 (wanted_satisfied p.0 p.1 w.target is.1)

module _ (models : ModelSet) (a b : Config) where
  mutual
    -- a text that a type accepts in the first, with what it wants there satisfied in the second, isn't
    -- refused in the second
    accepts_on : (t : DataType) (s : List ℕ) → ((w : Target) → IsWanted models a t s w → IsSatisfied models b w s)
        → AcceptsIn models a t s → ¬ ¬ AcceptsIn models b t s
    accepts_on text s met is not = not is
    accepts_on (number r) s met is not = not is
    accepts_on (length_within t bs) s met is not = not is
    accepts_on (value_within t bs) s met is not = not is
    accepts_on (matching t p) s met is not = not is
    accepts_on (one_of ts) s met is not = not is
    accepts_on truth s met is not = not is
    accepts_on (builtin r) s met is not = not is
    accepts_on (leafref target t) s met is not = not (is.0, met target (refl, is))
    accepts_on (union ts) s met is not = accepts_any ts s met is not

    -- where an earlier member that refuses in the first accepts in the second, the union accepts too
    accepts_any : (ts : DataTypes) (s : List ℕ) → ((w : Target) → IsFirstWanted models a ts s w → IsSatisfied models b w s)
        → AcceptsAnyIn models a ts s → ¬ ¬ AcceptsAnyIn models b ts s
    accepts_any no_types s met is not = is
    accepts_any (type_and t ts) s met (inl here) not = accepts_on t s (λ w wanted. met w (inl wanted)) here (λ on. not (inl on))
    accepts_any (type_and t ts) s met (inr later) not =
        let refuses : ¬ AcceptsIn models a t s = λ here. accepts_on t s (λ w wanted. met w (inl wanted)) here (λ on. not (inl on)) in
        accepts_any ts s (λ w first. met w (inr (refuses, first))) later (λ on. not (inr on))

  -- a text that is refused in the second is refused in the first
  refused_back : (o : Option (DataType × List ℕ)) → ((w : Want) → IsWantedText models a o w → IsSatisfied models b w.target w.text)
      → IsSomeAnd o (IsRefused models b) → IsSomeAnd o (IsRefused models a)
  refused_back None met refused = absurd refused
  refused_back (Some p) met refused = λ is. accepts_on p.0 p.1 (λ w wanted. met (record { target = w; text = p.1 }) (refl, wanted)) is refused

  item_text : (ts : DataType × List (List ℕ)) (i : ℕ) (s : List ℕ) (w : Target) → slice_get ts.1 i ≡ Some s → IsWanted models a ts.0 s w
      → IsWantedText models a (option_map (λ s. (ts.0, s)) (slice_get ts.1 i)) (record { target = w; text = s })
  item_text ts i s w at wanted =
      let P : Option (List ℕ) → Type 0 = λ o. IsWantedText models a (option_map (λ s. (ts.0, s)) o) (record { target = w; text = s }) in
      subst P (sym at) (refl, wanted)

  bad_texts : (p : Option (DataType × List (List ℕ)))
      → ((i : ℕ) (w : Want) → IsWantedText models a (option_and_then (λ ts. option_map (λ s. (ts.0, s)) (slice_get ts.1 i)) p) w → IsSatisfied models b w.target w.text)
      → IsSomeAnd p (λ ts. Any (λ s. IsRefused models b (ts.0, s)) ts.1) → IsSomeAnd p (λ ts. Any (λ s. IsRefused models a (ts.0, s)) ts.1)
  bad_texts None met bad = absurd bad
  bad_texts (Some ts) met bad =
      let at : slice_get ts.1 bad.0 ≡ Some bad.1 = at_contained ts.1 bad.1 (bad.0, bad.2, bad.3) in (
        bad.0,
        bad.1,
        bad.2,
        bad.3,
        λ is. accepts_on ts.0 bad.1 (λ w wanted. met bad.0 (record { target = w; text = bad.1 }) (item_text ts bad.0 bad.1 w at wanted)) is bad.4,
      )

  bad_item : (shape : Shape) (o : Option (List ℕ × Value))
      → ((i : ℕ) (w : Want) → IsWantedText models a (option_and_then (λ ts. option_map (λ s. (ts.0, s)) (slice_get ts.1 i)) (option_and_then (texts_of shape) o)) w
      → IsSatisfied models b w.target w.text)
      → IsSomeAnd o (HasBadItem models b shape) → IsSomeAnd o (HasBadItem models a shape)
  bad_item shape None met bad = absurd bad
  bad_item shape (Some f) met bad = bad_texts (texts_of shape f) met bad

  -- what the entry of a row wants in the first is satisfied in the second
  abbrev pub AreMet : Row → Type 0
  AreMet row =
      (shape : Shape) → HasShape models row shape → (field : Option ℕ) (i : ℕ) (w : Want)
      → IsWantedText models a (typed_text shape row field i) w → IsSatisfied models b w.target w.text

  module _ (row : Row) (t k u l : ℕ) (met : AreMet row) where
    -- a must of its shape that is false in the second is false in the first
    abbrev pub AreFalseBack : Type 0
    AreFalseBack =
        (shape : Shape) → HasShape models row shape → (n : ℕ)
        → IsSomeAnd (slice_get shape.musts n) (IsFalse models b u l) → IsSomeAnd (slice_get shape.musts n) (IsFalse models a t k)

    shape_back : AreFalseBack → (shape : Shape) → HasShape models row shape → (rule : RuleName) (n : ℕ)
        → BreaksShape models b u l row shape rule n → BreaksShape models a t k row shape rule n
    shape_back musts shape has KeyShape n breaks = absurd breaks
    shape_back musts shape has KeyReference n breaks = refused_back (typed_part shape row.key n) (λ w. met shape has None n w) breaks
    shape_back musts shape has UnknownField n breaks = breaks
    shape_back musts shape has WrongKind n breaks = breaks
    shape_back musts shape has BadValue n breaks = bad_item shape (slice_get row.fields n) (λ i w. met shape has (Some n) i w) breaks
    shape_back musts shape has DuplicateItem n breaks = breaks
    shape_back musts shape has MissingField n breaks = breaks
    shape_back musts shape has Must n breaks = musts shape has n breaks

    -- what the entry breaks in the second it breaks in the first
    pub breaks_back : AreFalseBack → (rule : RuleName) (n : ℕ) → Breaks models b u l row rule n → Breaks models a t k row rule n
    breaks_back musts rule n (no_shape none is at) = no_shape none is at
    breaks_back musts rule n (of_shape shape has breaks) = of_shape shape has (shape_back musts shape has rule n breaks)
