-- Two configurations that have the same but for one entry.
use Rattle.std.specs.Prelude.{◌≡◌, ◌≢◌, ℕ, List, Option, option_and_then}
use Rattle.conf_doc.specs.Pairs.{find}
use Rattle.conf_doc.specs.declared.configuration.Config.{Config}
use Rattle.conf_doc.specs.declared.configuration.Entry.{Entry}

-- the entry at a key of a table
abbrev pub entry_of : List ℕ → List ℕ → Config → Option Entry
entry_of table key config = option_and_then (find key) (find table config)

-- both have the same tables of other names, and in the table of that name the same entries of other keys
pub record AgreeBut (first second : Config) (table key : List ℕ) : Type 0 where
  pub tables : (t : List ℕ) → t ≢ table → find t first ≡ find t second
  pub entries : (k : List ℕ) → k ≢ key → entry_of table k first ≡ entry_of table k second
