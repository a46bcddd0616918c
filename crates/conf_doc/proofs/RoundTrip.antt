-- The tree of a configuration is shaped as that configuration.
use Rattle.std.proofs.Common.{◌≡◌, ℕ, ◌+◌, true, not, ◌==◌, List, [], ◌∷◌, length, map, Result, Ok, refl, ap}
use Rattle.std.proofs.lemmas.Bool.{and_parts}
use Rattle.conf_doc.specs.WellFormed.{Each, IsEntry, IsTable, IsConfig}
use Rattle.conf_doc.specs.Configuration.{value_tree, entry_tree, table_tree, tree}
use Rattle.conf_doc.specs.Document.{Document, text, items_of, members_of}
use Rattle.conf_doc.specs.Pairs.{AreNamed}
use Rattle.host_core.specs.Answers.{map_ok, both}
use Rattle.conf_doc.specs.Reading.{Way, below}
use Rattle.conf_doc.specs.Shaping.{parts, named, texts_from, value_of, entry_of, table_of, configuration}
use Rattle.conf_doc.specs.declared.configuration.Value.{Value}
use Rattle.conf_doc.specs.declared.configuration.Value.TheVariants.{Text, List as Listed}
use Rattle.conf_doc.specs.declared.configuration.Entry.{Entry}
use Rattle.conf_doc.specs.declared.configuration.Table.{Table}
use Rattle.conf_doc.specs.declared.configuration.Config.{Config}

texts_back : (i : ℕ) (ts : List (List ℕ)) → texts_from i (items_of (map text ts)) ≡ Ok ts
texts_back i [] = refl
texts_back i (t ∷ ts) = ap (λ r. both (λ u us. u ∷ us) (Ok t) r) (texts_back (i + 1) ts)

value_back : (v : Value) → value_of (value_tree v) ≡ Ok v
value_back (Text t) = refl
value_back (Listed ts) = ap (map_ok Listed) (texts_back 0 ts)

named_back : {A : Type 0} (k : List ℕ) (r : Result A Way) (a : A) → not (length k == 0) ≡ true → r ≡ Ok a → below k (named k r) ≡ Ok a
named_back [] r a some e = cc
named_back (b ∷ bs) r a some e = ap (below (b ∷ bs)) e

parts_back : {A : Type 0} (f : Document → Result A Way) (g : A → Document) (P : A → Type 0) → ((a : A) → P a → f (g a) ≡ Ok a)
    → (ps : List (List ℕ × A)) → AreNamed ps → Each P ps → parts f (members_of (map (λ p. (p.0, g p.1)) ps)) ≡ Ok ps
parts_back f g P back [] names each = refl
parts_back f g P back (p ∷ ps) names each =
    let first = named_back p.0 (f (g p.1)) p.1 (and_parts _ _ names).0 (back p.1 each.0) in
    let rest = parts_back f g P back ps (and_parts _ _ names).1 each.1 in
    λ i. both (λ a others. (p.0, a) ∷ others) (first i) (rest i)

every : {A : Type 0} (ps : List (List ℕ × A)) → Each (λ _. Unit {0}) ps
every [] = tt
every (p ∷ ps) = (tt, every ps)

entry_back : (e : Entry) → IsEntry e → entry_of (entry_tree e) ≡ Ok e
entry_back e is = parts_back value_of value_tree (λ _. Unit {0}) (λ v _. value_back v) e is.shaped.named (every e)

table_back : (t : Table) → IsTable t → table_of (table_tree t) ≡ Ok t
table_back t is = parts_back entry_of entry_tree IsEntry entry_back t is.shaped.named is.parts

pub config_back : (c : Config) → IsConfig c → configuration (tree c) ≡ Ok c
config_back c is = parts_back table_of table_tree IsTable table_back c is.shaped.named is.parts
