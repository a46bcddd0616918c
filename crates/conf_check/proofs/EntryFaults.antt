-- What is first among what an entry breaks, from what is first of each stage.
use Rattle.std.proofs.Common.{◌≡◌, ◌⊎◌, ◌<◌, ◌≤◌, ℕ, [], Option, Some, None, slice_get, IsSomeAnd, refl, sym, subst, inl, inr, arith}
use Rattle.conf_doc.specs.declared.configuration.Config.{Config}
use Rattle.yang_model.specs.ModelSets.{ModelSet}
use Rattle.yang_model.specs.declared.shapes.Shape.{Shape}
use Rattle.conf_check.specs.Faults.{IsFirstNumber, IsFirstBesideMusts, IsFirstFault, IsRefusedPart, IsMissingAt, FieldsBreak}
use Rattle.conf_check.specs.Rows.{Row, HasShape, HasNoShape}
use Rattle.conf_check.specs.Validity.{Breaks, no_shape, of_shape, BreaksShape, IsFalse, IsRuleBefore, stage, rule_number}
use Rattle.conf_check.specs.declared.faults.Fault.{Fault}
use Rattle.conf_check.specs.declared.violations.RuleName.{RuleName}
use Rattle.conf_check.specs.declared.violations.RuleName.TheVariants.{KeyShape, KeyReference, UnknownField, WrongKind, BadValue, DuplicateItem, MissingField, Must}
use Rattle.conf_check.proofs.FirstFaults.{fields_stage}
use Rattle.conf_check.proofs.TableShapes.{shape_once, not_both}

later : (m n : ℕ) (X : Type 0) → n < m → (m < n) ⊎ ((m ≡ n) × X) → ⊥
later m n X lt (inl h) = omega arith
later m n X lt (inr p) = omega (arith, p.0)

same_stage : (m : ℕ) (X : Type 0) → (m < m) ⊎ ((m ≡ m) × X) → X
same_stage m X (inl h) = absurd (omega arith)
same_stage m X (inr p) = p.1

-- of one rule, at a number that isn't less
later_number : (r s m n : ℕ) → (n ≤ m) × (s ≤ r) → (m < n) ⊎ ((m ≡ n) × (r < s)) → ⊥
later_number r s m n le (inl h) = omega (arith, le.0)
later_number r s m n le (inr p) = omega (arith, le.1, p.1)

-- of one rule, at a lesser number
lesser_number : (r m n : ℕ) → (m < n) ⊎ ((m ≡ n) × (r < r)) → m < n
lesser_number r m n (inl h) = h
lesser_number r m n (inr p) = absurd (omega (arith, p.1))

module _ (models : ModelSet) (config : Config) (t k : ℕ) (row : Row) where
  -- an entry of no shape breaks that rule first
  pub no_shape_first : HasNoShape models row → IsFirstFault (Breaks models config t k row) (Some (record { rule = KeyShape; field = 0 }))
  no_shape_first none = (no_shape none refl refl, none_before)
    where
      none_before : (r : RuleName) (n : ℕ) → IsRuleBefore r n KeyShape 0 → ¬ Breaks models config t k row r n
      none_before KeyShape n e b = later_number 1 1 n 0 (omega arith, omega arith) (same_stage 0 _ e)
      none_before KeyReference n e b = later 1 0 _ (omega arith) e
      none_before UnknownField n e b = later 2 0 _ (omega arith) e
      none_before WrongKind n e b = later 2 0 _ (omega arith) e
      none_before BadValue n e b = later 2 0 _ (omega arith) e
      none_before DuplicateItem n e b = later 2 0 _ (omega arith) e
      none_before MissingField n e b = later 3 0 _ (omega arith) e
      none_before Must n e b = later 4 0 _ (omega arith) e

  module _ (shape : Shape) (has : HasShape models row shape) where
    to_breaks : (r : RuleName) (n : ℕ) → BreaksShape models config t k row shape r n → Breaks models config t k row r n
    to_breaks r n b = of_shape shape has b

    from_breaks : (r : RuleName) (n : ℕ) → Breaks models config t k row r n → BreaksShape models config t k row shape r n
    from_breaks r n (no_shape none is zero) = absurd (not_both models row shape has none)
    from_breaks r n (of_shape other has' b) =
        let P : Shape → Type 0 = λ s. BreaksShape models config t k row s r n in
        subst P (shape_once models row other shape has' has) b

    -- what is first by the rules of the shape is first
    pub shape_first : (a : Option Fault) → IsFirstFault (BreaksShape models config t k row shape) a → IsFirstFault (Breaks models config t k row) a
    shape_first None none = λ r n b. none r n (from_breaks r n b)
    shape_first (Some f) first = (to_breaks f.rule f.field first.0, λ r n lt b. first.1 r n lt (from_breaks r n b))

  module _ (shape : Shape) where
    abbrev P : RuleName → ℕ → Type 0
    P r n = BreaksShape models config t k row shape r n

    from_fields : (r : RuleName) (n : ℕ) → stage r ≡ 2 → FieldsBreak models config shape row.fields r n → P r n
    from_fields KeyShape n s b = absurd (omega arith)
    from_fields KeyReference n s b = absurd (omega arith)
    from_fields UnknownField n s b = b
    from_fields WrongKind n s b = b
    from_fields BadValue n s b = b
    from_fields DuplicateItem n s b = b
    from_fields MissingField n s b = absurd (omega arith)
    from_fields Must n s b = absurd (omega arith)

    -- a part that is refused is first
    pub part_first : (i : ℕ) → IsFirstNumber (IsRefusedPart models config shape row.key) (Some i)
        → IsFirstFault P (Some (record { rule = KeyReference; field = i }))
    part_first i first = (first.0, before)
      where
        before : (r : RuleName) (n : ℕ) → IsRuleBefore r n KeyReference i → ¬ P r n
        before KeyShape n e b = b
        before KeyReference n e b = first.1 n (lesser_number 2 n i (same_stage 1 _ e)) b
        before UnknownField n e b = later 2 1 _ (omega arith) e
        before WrongKind n e b = later 2 1 _ (omega arith) e
        before BadValue n e b = later 2 1 _ (omega arith) e
        before DuplicateItem n e b = later 2 1 _ (omega arith) e
        before MissingField n e b = later 3 1 _ (omega arith) e
        before Must n e b = later 4 1 _ (omega arith) e

    field_before : (f : Fault) (parts : (i : ℕ) → ¬ IsRefusedPart models config shape row.key i)
        (first : (r : RuleName) (n : ℕ) → IsRuleBefore r n f.rule f.field → ¬ FieldsBreak models config shape row.fields r n)
        (s : ℕ) → s ≡ 2 → (r : RuleName) (n : ℕ)
        → (stage r < s) ⊎ ((stage r ≡ s) × ((n < f.field) ⊎ ((n ≡ f.field) × (rule_number r < rule_number f.rule))))
        → (IsRuleBefore r n f.rule f.field) → ¬ P r n
    field_before f parts first s is KeyShape n e e' b = b
    field_before f parts first s is KeyReference n e e' b = parts n b
    field_before f parts first s is UnknownField n e e' b = first UnknownField n e' b
    field_before f parts first s is WrongKind n e e' b = first WrongKind n e' b
    field_before f parts first s is BadValue n e e' b = first BadValue n e' b
    field_before f parts first s is DuplicateItem n e e' b = first DuplicateItem n e' b
    field_before f parts first s is MissingField n e e' b = later 3 s _ (omega arith) e
    field_before f parts first s is Must n e e' b = later 4 s _ (omega arith) e

    -- where no part is refused, what a field breaks is
    pub field_is_first : (f : Fault) → IsFirstNumber (IsRefusedPart models config shape row.key) None
        → IsFirstFault (FieldsBreak models config shape row.fields) (Some f) → IsFirstFault P (Some f)
    field_is_first f parts first =
        let s : stage f.rule ≡ 2 = fields_stage models config shape row.fields f.rule f.field first.0 in (
          from_fields f.rule f.field s first.0,
          λ r n e. field_before f parts first.1 (stage f.rule) s r n e e,
        )

    -- where no field breaks anything, what is missing is
    pub missing_is_first : (i : ℕ) → IsFirstNumber (IsRefusedPart models config shape row.key) None
        → IsFirstFault (FieldsBreak models config shape row.fields) None
        → IsFirstNumber (IsMissingAt shape row.fields) (Some i)
        → IsFirstFault P (Some (record { rule = MissingField; field = i }))
    missing_is_first i parts none first = (first.0, before)
      where
        before : (r : RuleName) (n : ℕ) → IsRuleBefore r n MissingField i → ¬ P r n
        before KeyShape n e b = b
        before KeyReference n e b = parts n b
        before UnknownField n e b = none UnknownField n b
        before WrongKind n e b = none WrongKind n b
        before BadValue n e b = none BadValue n b
        before DuplicateItem n e b = none DuplicateItem n b
        before MissingField n e b = first.1 n (lesser_number 7 n i (same_stage 3 _ e)) b
        before Must n e b = later 4 3 _ (omega arith) e

    abbrev IsFalseAt : ℕ → Type 0
    IsFalseAt i = IsSomeAnd (slice_get shape.musts i) (IsFalse models config t k)

    abbrev NonePlain : Type 0
    NonePlain = (r : RuleName) (n : ℕ) → stage r < 4 → ¬ P r n

    -- where nothing is missing, nothing is broken but musts
    pub none_plain : IsFirstNumber (IsRefusedPart models config shape row.key) None
        → IsFirstFault (FieldsBreak models config shape row.fields) None
        → IsFirstNumber (IsMissingAt shape row.fields) None → NonePlain
    none_plain parts none missing KeyShape n lt b = b
    none_plain parts none missing KeyReference n lt b = parts n b
    none_plain parts none missing UnknownField n lt b = none UnknownField n b
    none_plain parts none missing WrongKind n lt b = none WrongKind n b
    none_plain parts none missing BadValue n lt b = none BadValue n b
    none_plain parts none missing DuplicateItem n lt b = none DuplicateItem n b
    none_plain parts none missing MissingField n lt b = missing n b
    none_plain parts none missing Must n lt b = omega arith

    -- then a false must is first
    pub must_is_first : (i : ℕ) → NonePlain → IsFirstNumber IsFalseAt (Some i)
        → IsFirstFault P (Some (record { rule = Must; field = i }))
    must_is_first i plain first = (first.0, before)
      where
        before : (r : RuleName) (n : ℕ) → IsRuleBefore r n Must i → ¬ P r n
        before KeyShape n e b = b
        before KeyReference n e b = plain KeyReference n (omega arith) b
        before UnknownField n e b = plain UnknownField n (omega arith) b
        before WrongKind n e b = plain WrongKind n (omega arith) b
        before BadValue n e b = plain BadValue n (omega arith) b
        before DuplicateItem n e b = plain DuplicateItem n (omega arith) b
        before MissingField n e b = plain MissingField n (omega arith) b
        before Must n e b = first.1 n (lesser_number 8 n i (same_stage 4 _ e)) b

    -- and else nothing is broken
    pub nothing_first : NonePlain → IsFirstNumber IsFalseAt None → IsFirstFault P None
    nothing_first plain musts KeyShape n b = b
    nothing_first plain musts KeyReference n b = plain KeyReference n (omega arith) b
    nothing_first plain musts UnknownField n b = plain UnknownField n (omega arith) b
    nothing_first plain musts WrongKind n b = plain WrongKind n (omega arith) b
    nothing_first plain musts BadValue n b = plain BadValue n (omega arith) b
    nothing_first plain musts DuplicateItem n b = plain DuplicateItem n (omega arith) b
    nothing_first plain musts MissingField n b = plain MissingField n (omega arith) b
    nothing_first plain musts Must n b = musts n b

    -- with no musts what is broken is not one
    pub without_musts : (o : Option Fault) → shape.musts ≡ [] → IsFirstBesideMusts P o → IsFirstFault P o
    without_musts None none plain = nothing_first plain (λ i. subst (λ ms. ¬ IsSomeAnd (slice_get ms i) (IsFalse models config t k)) (sym none) (λ h. h))
    without_musts (Some f) none first = first

-- what an entry of a shape breaks, for equal models and configurations
pub broken_as : (m n : ModelSet) (c d : Config) (t k : ℕ) (row : Row) (shape : Shape) (o : Option Fault) → m ≡ n → c ≡ d
    → IsFirstFault (BreaksShape m c t k row shape) o → IsFirstFault (BreaksShape n d t k row shape) o
broken_as m n c d t k row shape o models configs first =
    subst (λ z. IsFirstFault (BreaksShape n z t k row shape) o) configs (subst (λ z. IsFirstFault (BreaksShape z c t k row shape) o) models first)
