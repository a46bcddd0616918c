-- What is first among what an entry breaks.
use Rattle.std.specs.Prelude.{◌≡◌, ◌<◌, ℕ, Bool, List, Option, Some, None, MatchOption, option_map, slice_get, IsSomeAnd, Any}
use Rattle.conf_doc.specs.declared.configuration.Config.{Config}
use Rattle.conf_doc.specs.declared.configuration.Entry.{Entry}
use Rattle.conf_doc.specs.declared.configuration.Value.{Value}
use Rattle.yang_model.specs.ModelSets.{ModelSet}
use Rattle.yang_model.specs.declared.shapes.Shape.{Shape}
use Rattle.yang_types.specs.DataType.{DataType}
use Rattle.conf_check.specs.Rows.{Row, row_at, typed_part, texts_by_kind}
use Rattle.conf_check.specs.Validity.{IsRefused, IsUnknownField, IsOfWrongKind, HasBadItem, HasEqualItems, AreSomeEqual, IsMissing, IsFalse, IsRuleBefore, IsBreachBefore, IsBreach, Breach, Breaks, stage, violation_of, rule_number}
use Rattle.conf_check.specs.declared.violations.RuleName.{RuleName}
use Rattle.conf_check.specs.declared.violations.RuleName.TheVariants.{KeyShape, KeyReference, UnknownField, WrongKind, BadValue, DuplicateItem, MissingField, Must}
use Rattle.conf_check.specs.declared.violations.Violation.{Violation}
use Rattle.conf_check.specs.declared.faults.Fault.{Fault}

-- the answer is the first number of which P holds, or None where it holds of none
abbrev pub IsFirstNumber : (ℕ → Type 0) → Option ℕ → Type 0
IsFirstNumber P answer =
    MatchOption answer ((i : ℕ) → ¬ P i) (λ i. P i × ((j : ℕ) → j < i → ¬ P j))

-- the answer is the rule of the least number of which P holds, or None where it holds of none
abbrev pub IsFirstRule : (RuleName → Type 0) → Option RuleName → Type 0
IsFirstRule P answer =
    MatchOption answer ((r : RuleName) → ¬ P r)
    (λ r. P r × ((q : RuleName) → rule_number q < rule_number r → ¬ P q))

-- the answer is what comes before all else that is broken, or None where nothing is
abbrev pub IsFirstFault : (RuleName → ℕ → Type 0) → Option Fault → Type 0
IsFirstFault P answer =
    MatchOption answer ((r : RuleName) (n : ℕ) → ¬ P r n)
    (λ f. P f.rule f.field × ((r : RuleName) (n : ℕ) → IsRuleBefore r n f.rule f.field → ¬ P r n))

-- the answer is what comes before all else that is broken, or None where nothing but musts is
abbrev pub IsFirstBesideMusts : (RuleName → ℕ → Type 0) → Option Fault → Type 0
IsFirstBesideMusts P answer =
    MatchOption answer
    ((r : RuleName) (n : ℕ) → stage r < stage Must → ¬ P r n)
    (λ f. IsFirstFault P (Some f))

-- a part of the key that its leaf refuses
abbrev pub IsRefusedPart : ModelSet → Config → Shape → List ℕ → ℕ → Type 0
IsRefusedPart models config shape key i =
    IsSomeAnd (typed_part shape key i) (IsRefused models config)

-- a mandatory leaf that is absent, by its number
abbrev pub IsMissingAt : Shape → Entry → ℕ → Type 0
IsMissingAt shape fields i = IsSomeAnd (slice_get shape.fields i) (IsMissing fields)

-- the rules of a field that a field breaks
abbrev pub FieldBreaks : ModelSet → Config → Shape → List ℕ × Value → RuleName → Type 0
FieldBreaks models config shape field KeyShape = ⊥
FieldBreaks models config shape field KeyReference = ⊥
FieldBreaks models config shape field UnknownField = IsUnknownField shape field
FieldBreaks models config shape field WrongKind = IsOfWrongKind shape field
FieldBreaks models config shape field BadValue = HasBadItem models config shape field
FieldBreaks models config shape field DuplicateItem = HasEqualItems shape field
FieldBreaks models config shape field MissingField = ⊥
FieldBreaks models config shape field Must = ⊥

-- the texts of a value with their type, where it is of the right kind
abbrev pub texts_of_kind : DataType → Bool → Value → Option (DataType × List (List ℕ))
texts_of_kind type list value = option_map (λ ts. (type, ts)) (texts_by_kind list value)

-- the rules that a value of a leaf, or of a leaf-list, of a type breaks
abbrev pub ValueBreaks : ModelSet → Config → DataType → Bool → Value → RuleName → Type 0
ValueBreaks models config type list value KeyShape = ⊥
ValueBreaks models config type list value KeyReference = ⊥
ValueBreaks models config type list value UnknownField = ⊥
ValueBreaks models config type list value WrongKind = texts_by_kind list value ≡ None
ValueBreaks models config type list value BadValue =
    IsSomeAnd (texts_of_kind type list value)
    (λ ts. Any (λ s. IsRefused models config (ts.0, s)) ts.1)
ValueBreaks models config type list value DuplicateItem =
    IsSomeAnd (texts_of_kind type list value) (λ ts. AreSomeEqual ts.1)
ValueBreaks models config type list value MissingField = ⊥
ValueBreaks models config type list value Must = ⊥

-- those that texts of the right kind break
abbrev pub TextsBreak : ModelSet → Config → DataType → List (List ℕ) → RuleName → Type 0
TextsBreak models config type texts KeyShape = ⊥
TextsBreak models config type texts KeyReference = ⊥
TextsBreak models config type texts UnknownField = ⊥
TextsBreak models config type texts WrongKind = ⊥
TextsBreak models config type texts BadValue = Any (λ s. IsRefused models config (type, s)) texts
TextsBreak models config type texts DuplicateItem = AreSomeEqual texts
TextsBreak models config type texts MissingField = ⊥
TextsBreak models config type texts Must = ⊥

-- those that the fields of an entry break, each at its field
abbrev pub FieldsBreak : ModelSet → Config → Shape → Entry → RuleName → ℕ → Type 0
FieldsBreak models config shape fields rule n =
    IsSomeAnd (slice_get fields n) (λ f. FieldBreaks models config shape f rule)

-- a must that is false, by its number
abbrev pub IsFalseMust : ModelSet → Config → ℕ → ℕ → Shape → ℕ → Type 0
IsFalseMust models config table key shape i =
    IsSomeAnd (slice_get shape.musts i) (IsFalse models config table key)

-- the first breach in a table, as a violation
pub record IsFirstInTable (models : ModelSet) (config : Config) (table : ℕ)
    (v : Violation) : Type 0 where
  pub breach : Breach
  pub is : v ≡ violation_of breach
  pub here : breach.table ≡ table
  pub broken : IsBreach models config breach
  pub first :
      (a : Breach) → a.table ≡ table → IsBreachBefore a breach → ¬ IsBreach models config a

-- the answer is the first violation in a table, or None where there is none
abbrev pub IsFirstOfTable : ModelSet → Config → ℕ → Option Violation → Type 0
IsFirstOfTable models config table answer =
    MatchOption answer
    ((b : Breach) → b.table ≡ table → ¬ IsBreach models config b)
    (IsFirstInTable models config table)

-- what an entry breaks, with its place
abbrev pub breach_at : ℕ → ℕ → Fault → Breach
breach_at table key f = record { table = table; key = key; rule = f.rule; field = f.field }

-- the answer is what the entry at a place breaks first, or None where it breaks nothing
abbrev pub IsFirstHere : ModelSet → Config → ℕ → ℕ → Option Fault → Type 0
IsFirstHere models config table key answer =
    (row : Row) → row_at models config table key ≡ Some row
    → IsFirstFault (Breaks models config table key row) answer
