-- Parts of a configuration, and their documents read back.
use Rattle.std.specs.Prelude.{◌≡◌, ◌≢◌, ℕ, List, [], ◌∷◌, codes, Option, Some, None, Ok, IfSome}
use Rattle.conf_doc.specs.Configuration.{part_tree}
use Rattle.conf_doc.specs.Document.{Document, object, members_of}
use Rattle.conf_doc.specs.Shaping.{configuration}
use Rattle.conf_doc.specs.WellFormed.{IsConfig}
use Rattle.conf_doc.specs.declared.configuration.Config.{Config}
use Rattle.conf_doc.specs.declared.parts.Part.{Part}
use Rattle.conf_doc.specs.declared.parts.Part.TheVariants as part
use Rattle.plan_texts.specs.PlanTexts.{IsPart}

-- a table for one name, an entry for two, a value for three
abbrev pub IsOfKind : ℕ → Part → Type 0
IsOfKind n (part.Table t) = n ≡ 1
IsOfKind n (part.Entry e) = n ≡ 2
IsOfKind n (part.Value v) = n ≡ 3

-- the part of that kind that a document is, where it is one
pub record Shapes (n : ℕ) (d : Document) (o : Option Part) : Type 0 where
  pub is : IfSome o (λ p. IsOfKind n p × IsPart p)
  pub all : (p : Part) → IsOfKind n p → IsPart p → d ≡ part_tree p → o ≡ Some p

-- the name of a table, of a key and of a field around a part that is read alone
abbrev pub name : List ℕ
name = codes "a"

-- the map in which the name names a document
abbrev pub wrap : Document → Document
wrap d = object (members_of ((name, d) ∷ []))

-- the configuration that a document is, where it is one
abbrev pub IsShapedAs : Document → Option Config → Type 0
IsShapedAs d None = (c : Config) → configuration d ≢ Ok c
IsShapedAs d (Some c) = (configuration d ≡ Ok c) × IsConfig c
