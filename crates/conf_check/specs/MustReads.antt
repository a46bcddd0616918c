-- What the truth of a must depends on: its entry, and the tables that its paths read.
use Rattle.std.specs.Prelude.{◌≡◌, ◌↔◌, ℕ, List}
use Rattle.std.specs.List.{Contains}
use Rattle.conf_doc.specs.Pairs.{find}
use Rattle.conf_doc.specs.WellFormed.{IsConfig}
use Rattle.conf_doc.specs.declared.configuration.Config.{Config}
use Rattle.yang_model.specs.ModelSets.{ModelSet}
use Rattle.yang_model.specs.declared.shapes.MustRule.{MustRule}
use Rattle.yang_model.specs.declared.shapes.Shape.{Shape}
use Rattle.conf_check.specs.Belongings.{Belongings, AreBelongings}
use Rattle.conf_check.specs.Rows.{Row, HasShape, IsEntryAt}
use Rattle.conf_check.specs.Validity.{IsFalse}

-- the entry stands at those positions
pub record IsRowAt (config : Config) (row : Row) (t k : ℕ) : Type 0 where
  pub entry : IsEntryAt config row.table row.key t k
  pub fields : entry.fields ≡ row.fields

-- two configurations agree on the tables of those names
abbrev pub AgreeOn : Config → Config → List (List ℕ) → Type 0
AgreeOn a b names = (name : List ℕ) → Contains names name → find name a ≡ find name b

-- two configurations with an entry that has a shape
pub record HaveEntry (models : ModelSet) (a b : Config) (row : Row) (shape : Shape)
    (t k u l : ℕ) : Type 0 where
  pub formed_a : IsConfig a
  pub formed_b : IsConfig b
  pub shaped : HasShape models row shape
  pub at_a : IsRowAt a row t k
  pub at_b : IsRowAt b row u l
  pub known_a : (p : Belongings) × AreBelongings models a p
  pub known_b : (q : Belongings) × AreBelongings models b q

-- a must of the shape is false of the entry in both of two configurations that agree on the
-- tables that it reads, or in none
abbrev pub HasOneTruth : ModelSet → Type 0
HasOneTruth models =
    (a b : Config) (row : Row) (shape : Shape) (t k u l : ℕ) (must : MustRule)
    → HaveEntry models a b row shape t k u l → Contains shape.musts must
    → AgreeOn a b must.reads
    → IsFalse models a t k must ↔ IsFalse models b u l must
