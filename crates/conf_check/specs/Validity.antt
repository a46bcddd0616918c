-- Which rules a configuration breaks, and where (RFC 7950, section 8.1).
use Rattle.std.specs.Prelude.{◌≡◌, ◌⊎◌, ◌<◌, ℕ, true, false, List, [], ◌∷◌, Option, Some, None, slice_get, IsSomeAnd}
use Rattle.std.specs.List.{Any, Contains}
use Rattle.conf_doc.specs.Pairs.{find}
use Rattle.conf_doc.specs.declared.configuration.Config.{Config}
use Rattle.conf_doc.specs.declared.configuration.Entry.{Entry}
use Rattle.conf_doc.specs.declared.configuration.Value.{Value}
use Rattle.xpath_part.specs.Expressions.{expression}
use Rattle.xpath_part.specs.Nodes.{NodeTree}
use Rattle.xpath_part.specs.Truth.{truth}
use Rattle.xpath_part.specs.declared.nodes.Node.{Node}
use Rattle.yang_model.specs.ModelSets.{ModelSet}
use Rattle.yang_model.specs.declared.shapes.FieldRule.{FieldRule}
use Rattle.yang_model.specs.declared.shapes.MustRule.{MustRule}
use Rattle.yang_model.specs.declared.shapes.Shape.{Shape}
use Rattle.yang_types.specs.DataType.{DataType}
use Rattle.conf_check.specs.Acceptance.{AcceptsIn}
use Rattle.conf_check.specs.Belongings.{Belongings, AreBelongings}
use Rattle.conf_check.specs.ConfigTree.{node_tree, entry_node}
use Rattle.conf_check.specs.Rows.{Row, row_at, HasNoShape, HasShape, IsEntryAt, rule_of, texts_by_kind, typed_part, texts_of}
use Rattle.conf_check.specs.declared.violations.RuleName.{RuleName}
use Rattle.conf_check.specs.declared.violations.RuleName.TheVariants.{KeyShape, KeyReference, UnknownField, WrongKind, BadValue, DuplicateItem, MissingField, Must}
use Rattle.conf_check.specs.declared.violations.Violation.{Violation}

-- a text that its type doesn't accept in the configuration
abbrev pub IsRefused : ModelSet → Config → DataType × List ℕ → Type 0
IsRefused models config typed = ¬ AcceptsIn models config typed.0 typed.1

-- the field is no leaf or leaf-list of the shape, or is a key leaf
abbrev pub IsUnknownField : Shape → List ℕ × Value → Type 0
IsUnknownField shape field = rule_of field.0 shape ≡ None

-- a list for a leaf, or a text for a leaf-list
abbrev pub IsOfWrongKind : Shape → List ℕ × Value → Type 0
IsOfWrongKind shape field =
    IsSomeAnd (rule_of field.0 shape) (λ rule. texts_by_kind rule.list field.1 ≡ None)

-- a text that its type doesn't accept
abbrev pub HasBadItem : ModelSet → Config → Shape → List ℕ × Value → Type 0
HasBadItem models config shape field =
    IsSomeAnd (texts_of shape field) (λ ts. Any (λ s. IsRefused models config (ts.0, s)) ts.1)

-- a text and an equal one behind it
abbrev pub AreSomeEqual : List (List ℕ) → Type 0
AreSomeEqual [] = ⊥
AreSomeEqual (s ∷ ts) = Contains ts s ⊎ AreSomeEqual ts

-- two equal items
abbrev pub HasEqualItems : Shape → List ℕ × Value → Type 0
HasEqualItems shape field = IsSomeAnd (texts_of shape field) (λ ts. AreSomeEqual ts.1)

-- a mandatory leaf that the entry doesn't have
abbrev pub IsMissing : Entry → FieldRule → Type 0
IsMissing fields rule = (rule.mandatory ≡ true) × (find rule.name fields ≡ None)

-- where a must is tested: at the entry, or at its leaf where that is there, if by its default
abbrev pub context_of : NodeTree → Node → Option (List ℕ) → Option Node
context_of tree entry None = Some entry
context_of tree entry (Some leaf) = slice_get (tree.children entry leaf) 0

-- the must is false over the nodes of a tree, where it is tested
abbrev pub IsFalseIn : NodeTree → Node → MustRule → Type 0
IsFalseIn tree entry must =
    IsSomeAnd (context_of tree entry must.leaf) (λ n. truth tree (expression must.expr) n ≡ false)

-- the must is false over the nodes of the configuration
abbrev pub IsFalse : ModelSet → Config → ℕ → ℕ → MustRule → Type 0
IsFalse models config table key must =
    (belongings : Belongings) → AreBelongings models config belongings
    → IsFalseIn (node_tree models config belongings) (entry_node table key) must

-- the entry of that row, at its place, breaks a rule of its shape, at a part, a field or a number
abbrev pub BreaksShape : ModelSet → Config → ℕ → ℕ → Row → Shape → RuleName → ℕ → Type 0
BreaksShape models config t k row shape KeyShape n = ⊥
BreaksShape models config t k row shape KeyReference n =
    IsSomeAnd (typed_part shape row.key n) (IsRefused models config)
BreaksShape models config t k row shape UnknownField n =
    IsSomeAnd (slice_get row.fields n) (IsUnknownField shape)
BreaksShape models config t k row shape WrongKind n =
    IsSomeAnd (slice_get row.fields n) (IsOfWrongKind shape)
BreaksShape models config t k row shape BadValue n =
    IsSomeAnd (slice_get row.fields n) (HasBadItem models config shape)
BreaksShape models config t k row shape DuplicateItem n =
    IsSomeAnd (slice_get row.fields n) (HasEqualItems shape)
BreaksShape models config t k row shape MissingField n =
    IsSomeAnd (slice_get shape.fields n) (IsMissing row.fields)
BreaksShape models config t k row shape Must n =
    IsSomeAnd (slice_get shape.musts n) (IsFalse models config t k)

-- an entry of no shape breaks that rule alone, any other entry what rules of its shape it may
pub data Breaks (models : ModelSet) (config : Config) (t k : ℕ) (row : Row) (rule : RuleName)
    (n : ℕ) : Type 0 where
  no_shape : HasNoShape models row → rule ≡ KeyShape → n ≡ 0 → Breaks models config t k row rule n
  of_shape :
      (shape : Shape) → HasShape models row shape → BreaksShape models config t k row shape rule n
      → Breaks models config t k row rule n

-- the numbers of the rules
abbrev pub rule_number : RuleName → ℕ
rule_number KeyShape = 1
rule_number KeyReference = 2
rule_number UnknownField = 3
rule_number WrongKind = 4
rule_number BadValue = 5
rule_number DuplicateItem = 6
rule_number MissingField = 7
rule_number Must = 8

-- a rule that an entry breaks, and where
pub record Breach : Type 0 where
  pub table : ℕ
  pub key : ℕ
  pub rule : RuleName
  pub field : ℕ

-- as a violation, with the number of the rule
abbrev pub violation_of : Breach → Violation
violation_of b =
    record { table = b.table; key = b.key; field = b.field; rule = rule_number b.rule }

-- the configuration breaks the rule there; a table without a model breaks none
pub record IsBreach (models : ModelSet) (config : Config) (b : Breach) : Type 0 where
  pub row : Row
  pub at : row_at models config b.table b.key ≡ Some row
  pub breaks : Breaks models config b.table b.key row b.rule b.field

-- the rules of an entry are tried one after another, those of a field field by field
abbrev pub stage : RuleName → ℕ
stage KeyShape = 0
stage KeyReference = 1
stage UnknownField = 2
stage WrongKind = 2
stage BadValue = 2
stage DuplicateItem = 2
stage MissingField = 3
stage Must = 4

-- within an entry
abbrev pub IsRuleBefore : RuleName → ℕ → RuleName → ℕ → Type 0
IsRuleBefore r m s n =
    (stage r < stage s)
    ⊎ ((stage r ≡ stage s)
    × ((m < n)
    ⊎ ((m ≡ n) × (rule_number r < rule_number s))))

-- tables, then keys, then the rules
abbrev pub IsBreachBefore : Breach → Breach → Type 0
IsBreachBefore a b =
    (a.table < b.table)
    ⊎ ((a.table ≡ b.table)
    × ((a.key < b.key)
    ⊎ ((a.key ≡ b.key) × IsRuleBefore a.rule a.field b.rule b.field)))

-- a configuration with no violation
abbrev pub IsValid : ModelSet → Config → Type 0
IsValid models config = (b : Breach) → ¬ IsBreach models config b

-- the first violation of a configuration
pub record IsFirstViolation (models : ModelSet) (config : Config) (v : Violation) : Type 0 where
  pub breach : Breach
  pub is : v ≡ violation_of breach
  pub broken : IsBreach models config breach
  pub first : (a : Breach) → IsBreachBefore a breach → ¬ IsBreach models config a

-- the entry of that key of the table of that name breaks the rule
pub record IsBreachAt (models : ModelSet) (config : Config) (table key : List ℕ)
    (b : Breach) : Type 0 where
  pub entry : IsEntryAt config table key b.table b.key
  pub broken : IsBreach models config b

-- an entry with no violation
abbrev pub IsValidAt : ModelSet → Config → List ℕ → List ℕ → Type 0
IsValidAt models config table key = (b : Breach) → ¬ IsBreachAt models config table key b

-- the first violation of an entry
pub record IsFirstViolationAt (models : ModelSet) (config : Config) (table key : List ℕ)
    (v : Violation) : Type 0 where
  pub breach : Breach
  pub is : v ≡ violation_of breach
  pub broken : IsBreachAt models config table key breach
  pub first : (a : Breach) → IsBreachBefore a breach → ¬ IsBreachAt models config table key a
