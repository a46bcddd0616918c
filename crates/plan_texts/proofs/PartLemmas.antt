-- Parts read alone, by the configurations around them.
use Rattle.std.proofs.Common.{◌≡◌, ℕ, List, [], ◌∷◌, Option, Some, None, option_map, Ok, refl, ap, ◌∙◌, IfSome, IsUtf8, arith}
use Rattle.conf_doc.specs.Changes.{entry_at, value_at}
use Rattle.conf_doc.specs.Configuration.{tree, part_tree}
use Rattle.conf_doc.specs.Document.{Document}
use Rattle.conf_doc.specs.Pairs.{find}
use Rattle.conf_doc.specs.Shaping.{configuration}
use Rattle.conf_doc.specs.WellFormed.{IsShaped, IsConfig, IsTable, IsEntry}
use Rattle.conf_doc.specs.declared.configuration.Config.{Config}
use Rattle.conf_doc.specs.declared.configuration.Entry.{Entry}
use Rattle.conf_doc.specs.declared.configuration.Table.{Table}
use Rattle.conf_doc.specs.declared.configuration.Value.{Value}
use Rattle.conf_doc.specs.declared.parts.Part.{Part}
use Rattle.conf_doc.specs.declared.parts.Part.TheVariants as part
use Rattle.conf_doc.proofs.RoundTrip.{config_back}
use Rattle.json.proofs.Printed.Utf8.{IsUtf8-are_ascii}
use Rattle.plan_texts.specs.Parts.{IsOfKind, IsShapedAs, Shapes, name, wrap}
use Rattle.plan_texts.specs.PlanTexts.{IsPart}

-- the one pair of the name
abbrev one : {A : Type 0} → A → List (List ℕ × A)
one a = (name, a) ∷ []

name_is_text : IsUtf8 name
name_is_text = IsUtf8-are_ascii name refl

one_shaped : {A : Type 0} (a : A) → IsShaped {A = A} (one a)
one_shaped a = record { rising = refl; named = refl; texts = (name_is_text, tt) }

table_formed : (e : Entry) → IsEntry e → IsTable (one e)
table_formed e is = record { shaped = one_shaped e; parts = (is, tt) }

config_formed : (t : Table) → IsTable t → IsConfig (one t)
config_formed t is = record { shaped = one_shaped t; parts = (is, tt) }

entry_formed : (v : Value) → IsPart (part.Value v) → IsEntry (one v)
entry_formed v is = record { shaped = one_shaped v; parts = (is, tt) }

-- the configuration around a part
abbrev pub around : Part → Config
around (part.Table t) = one t
around (part.Entry e) = one (one e)
around (part.Value v) = one (one (one v))

pub around_formed : (p : Part) → IsPart p → IsConfig (around p)
around_formed (part.Table t) is = config_formed t is
around_formed (part.Entry e) is = config_formed (one e) (table_formed e is)
around_formed (part.Value v) is = config_formed (one (one v)) (table_formed (one v) (entry_formed v is))

module _ (n : ℕ) (d outer : Document) (found : Config → Option Part)
    (wrapped : (p : Part) → IsOfKind n p → d ≡ part_tree p → outer ≡ tree (around p))
    (inside : (p : Part) → IsOfKind n p → found (around p) ≡ Some p) where
  pub shaped_around : (p : Part) → IsOfKind n p → IsPart p → d ≡ part_tree p → configuration outer ≡ Ok (around p)
  shaped_around p kind is same = ap configuration (wrapped p kind same) ∙ config_back (around p) (around_formed p is)

  -- no configuration, no part
  pub no_part : IsShapedAs outer None → Shapes n d None
  no_part none = record { is = tt; all = λ p kind is same. absurd (none (around p) (shaped_around p kind is same)) }

  -- the part is what is found in the configuration
  pub found_part : (c : Config) → IsShapedAs outer (Some c) → (o : Option Part) → o ≡ found c → IfSome o (λ p. IsOfKind n p × IsPart p) → Shapes n d o
  found_part c shaped o finds formed = record {
    is = formed;
    all = λ p kind is same.
        let there = shaped_around p kind is same in
        let both = shaped.0 in
        let config_is : c ≡ around p = cc in
        finds ∙ ap found config_is ∙ inside p kind;
  }

-- ---- the three kinds

abbrev pub found_table : Config → Option Part
found_table c = option_map part.Table (find name c)

abbrev pub found_entry : Config → Option Part
found_entry c = option_map part.Entry (entry_at c name name)

abbrev pub found_value : Config → Option Part
found_value c = option_map part.Value (value_at c name name name)

pub table_wrapped : (d : Document) (p : Part) → IsOfKind 1 p → d ≡ part_tree p → wrap d ≡ tree (around p)
table_wrapped d (part.Table t) kind same = ap wrap same
table_wrapped d (part.Entry e) kind same = absurd (omega arith)
table_wrapped d (part.Value v) kind same = absurd (omega arith)

pub entry_wrapped : (d : Document) (p : Part) → IsOfKind 2 p → d ≡ part_tree p → wrap (wrap d) ≡ tree (around p)
entry_wrapped d (part.Table t) kind same = absurd (omega arith)
entry_wrapped d (part.Entry e) kind same = ap (λ x. wrap (wrap x)) same
entry_wrapped d (part.Value v) kind same = absurd (omega arith)

pub value_wrapped : (d : Document) (p : Part) → IsOfKind 3 p → d ≡ part_tree p → wrap (wrap (wrap d)) ≡ tree (around p)
value_wrapped d (part.Table t) kind same = absurd (omega arith)
value_wrapped d (part.Entry e) kind same = absurd (omega arith)
value_wrapped d (part.Value v) kind same = ap (λ x. wrap (wrap (wrap x))) same

pub table_inside : (p : Part) → IsOfKind 1 p → found_table (around p) ≡ Some p
table_inside (part.Table t) kind = refl
table_inside (part.Entry e) kind = absurd (omega arith)
table_inside (part.Value v) kind = absurd (omega arith)

pub entry_inside : (p : Part) → IsOfKind 2 p → found_entry (around p) ≡ Some p
entry_inside (part.Table t) kind = absurd (omega arith)
entry_inside (part.Entry e) kind = refl
entry_inside (part.Value v) kind = absurd (omega arith)

pub value_inside : (p : Part) → IsOfKind 3 p → found_value (around p) ≡ Some p
value_inside (part.Table t) kind = absurd (omega arith)
value_inside (part.Entry e) kind = absurd (omega arith)
value_inside (part.Value v) kind = refl
