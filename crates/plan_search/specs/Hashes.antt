-- A hash of a configuration that is made of those of its entries, so that a change of one entry changes it by
-- those of that entry alone.
use Rattle.std.specs.Prelude.{ℕ, List, [], ◌∷◌, bit_xor}
use Rattle.std.specs.Hash as fed
use Rattle.std.specs.Hash.{HashWrites}
use Rattle.std.specs.Hash.FoldHasher as folding
use Rattle.std.specs.List.{fold}
use Rattle.std.specs.Option.{option_map_or}
use Rattle.conf_doc.specs.Changes.{entry_at}
use Rattle.conf_doc.specs.Pairs.{find}
use Rattle.conf_doc.specs.declared.configuration.Config.{Config}
use Rattle.conf_doc.specs.declared.configuration.Entry.{Entry}
use Rattle.conf_doc.specs.declared.configuration.Table.{Table}

module _ {A : Type 0} (hash : List ℕ → A → ℕ) where
  -- the hashes of pairs of a name and what it names, joined by xor
  abbrev pub joined : List (List ℕ × A) → ℕ
  joined [] = 0
  joined (p ∷ ps) = bit_xor (hash p.0 p.1) (joined ps)

  -- the hash of what a name names, 0 where it names nothing
  abbrev pub hash_at : List ℕ → List (List ℕ × A) → ℕ
  hash_at name ps = option_map_or (hash name) (find name ps) 0

-- what a hasher is fed of the fields of an entry
abbrev pub Fed : Type 0
Fed = Entry → HashWrites

-- what a hasher makes of the name of a table, a key and the fields there
unfoldable pub entry_hash : Fed → List ℕ → List ℕ → Entry → ℕ
entry_hash F table key entry =
    let named = fold folding.write folding.initial (fed.str table) in
    folding.finish (fold folding.write (fold folding.write named (fed.str key)) (F entry))

-- the hashes of the entries of a table
abbrev pub table_hash : Fed → List ℕ → Table → ℕ
table_hash F name = joined (entry_hash F name)

-- those of all tables
abbrev pub config_hash : Fed → Config → ℕ
config_hash F = joined (table_hash F)

-- the hash of the entry of a table at a key, 0 where there is none
abbrev pub entry_hash_at : Fed → List ℕ → List ℕ → Config → ℕ
entry_hash_at F table key config =
    option_map_or (entry_hash F table key) (entry_at config table key) 0
