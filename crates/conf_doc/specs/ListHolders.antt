-- Entries that hold no lists.
use Rattle.std.specs.Prelude.{ℕ, List}
use Rattle.conf_doc.specs.WellFormed.{Each}
use Rattle.conf_doc.specs.declared.configuration.Entry.{Entry}
use Rattle.conf_doc.specs.declared.configuration.Value.{Value}
use Rattle.conf_doc.specs.declared.configuration.Value.TheVariants.{Text, List as Listed}

-- the value is a text
abbrev pub IsText : Value → Type 0
IsText (Text t) = Unit {0}
IsText (Listed ts) = ⊥

-- each value of an entry is
abbrev pub HasNoList : Entry → Type 0
HasNoList e = Each IsText e

-- so of each entry
abbrev pub HaveNoList : List (List ℕ × Entry) → Type 0
HaveNoList es = Each HasNoList es
