-- Parts and places whose texts are UTF-8 have sound documents, and these nest little.
use Rattle.std.proofs.Common.{◌≡◌, ℕ, ◌≤◌, List, [], ◌∷◌, map, true, IsUtf8, inl, inr, refl, sym, subst, arith, codes}
use Rattle.std.proofs.lemmas.Bool.{and_parts, cases_eq}
use Rattle.std.proofs.lemmas.Grind.{flat_map-append}
use Rattle.std.proofs.lemmas.Str.{IsUtf8-append, IsUtf8-nil, IsUtf8-encode, encode_ascii}
use lib.Utf8.{scalar, scalars, encode, encodes}
use Rattle.host_core.specs.Characters.{slash}
use Rattle.json.proofs.Printed.Utf8.{IsUtf8-are_ascii}
use Rattle.conf_doc.specs.Configuration.{value_tree, entry_tree, table_tree, part_tree}
use Rattle.conf_doc.specs.Document.{Document, text, object, items_of, members_of, depth, items_depth, members_depth}
use Rattle.conf_doc.specs.Pairs.{IsRising}
use Rattle.conf_doc.specs.Pointer.{escape, escaped, pointer}
use Rattle.conf_doc.specs.Sound.{IsSound, AreSoundItems, AreSoundMembers}
use Rattle.conf_doc.specs.WellFormed.{AreTexts, Each, IsShaped, IsValue, IsEntry, IsTable}
use Rattle.conf_doc.specs.declared.configuration.Entry.{Entry}
use Rattle.conf_doc.specs.declared.configuration.Table.{Table}
use Rattle.conf_doc.specs.declared.configuration.Value.{Value}
use Rattle.conf_doc.specs.declared.configuration.Value.TheVariants.{Text, List as Texts}
use Rattle.conf_doc.specs.declared.parts.Part.{Part}
use Rattle.conf_doc.specs.declared.parts.Part.TheVariants as part
use Rattle.conf_doc.proofs.Equalities.{pairs-members_of}
use Rattle.conf_doc.proofs.Escapes.{escaped-other}
use Rattle.conf_doc.proofs.Names.{rising-map}
use Rattle.plan_texts.specs.PlanTexts.{IsPart}

-- ---- pointers

one_char : (c : ℕ) → scalar c ≡ true → IsUtf8 (escaped (encode c))
one_char c ok = elim (cases_eq c 126) [
  | inl same ↦ rw (same, encode_ascii 126 (omega arith)) (IsUtf8-are_ascii (codes "~0") refl)
  | inr other ↦ elim (cases_eq c 47) [
    | inl same ↦ rw (same, encode_ascii 47 (omega arith)) (IsUtf8-are_ascii (codes "~1") refl)
    | inr more ↦ subst IsUtf8 (sym (escaped-other c other more)) (IsUtf8-encode c ok)
  ]
]

all_chars : (cs : List ℕ) → scalars cs ≡ true → IsUtf8 (escaped (encodes cs))
all_chars [] e = IsUtf8-nil
all_chars (c ∷ cs) e =
    let parts = and_parts _ _ e in
    subst IsUtf8 (sym (flat_map-append escape (encode c) (encodes cs))) (IsUtf8-append _ _ (one_char c parts.0) (all_chars cs parts.1))

escaped_text : (name : List ℕ) → IsUtf8 name → IsUtf8 (escaped name)
escaped_text name u = subst (λ l. IsUtf8 (escaped l)) u.1.1 (all_chars u.0 u.1.0)

-- the pointer of texts is a text
pub pointer_text : (names : List (List ℕ)) → AreTexts names → IsUtf8 (pointer names)
pointer_text [] texts = IsUtf8-nil
pointer_text (n ∷ ns) texts =
    let first = IsUtf8-append (slash ∷ []) (escaped n) (IsUtf8-are_ascii (slash ∷ []) refl) (escaped_text n texts.0) in
    IsUtf8-append (slash ∷ escaped n) (pointer ns) first (pointer_text ns texts.1)

-- ---- documents

sound_texts : (ts : List (List ℕ)) → AreTexts ts → AreSoundItems (items_of (map text ts))
sound_texts [] texts = tt
sound_texts (t ∷ ts) texts = (texts.0, sound_texts ts texts.1)

sound_value : (v : Value) → IsValue v → IsSound (value_tree v)
sound_value (Text t) is = is
sound_value (Texts ts) is = sound_texts ts is

module _ {A : Type 0} (f : A → Document) (P : A → Type 0) (sound : (a : A) → P a → IsSound (f a)) where
  sound_pairs : (ps : List (List ℕ × A)) → AreTexts (map (λ p. p.0) ps) → Each P ps → AreSoundMembers (members_of (map (λ p. (p.0, f p.1)) ps))
  sound_pairs [] names each = tt
  sound_pairs (p ∷ ps) names each = (names.0, sound p.1 each.0, sound_pairs ps names.1 each.1)

  sound_map : (ps : List (List ℕ × A)) → IsShaped ps → Each P ps → IsSound (object (members_of (map (λ p. (p.0, f p.1)) ps)))
  sound_map ps shaped each = (subst IsRising (sym (pairs-members_of (map {B = List ℕ × Document} (λ p. (p.0, f p.1)) ps))) (rising-map f ps shaped.rising), sound_pairs ps shaped.texts each)

sound_entry : (e : Entry) → IsEntry e → IsSound (entry_tree e)
sound_entry e is = sound_map value_tree IsValue sound_value e is.shaped is.parts

sound_table : (t : Table) → IsTable t → IsSound (table_tree t)
sound_table t is = sound_map entry_tree IsEntry sound_entry t is.shaped is.parts

-- the document of a part is sound
pub sound_part : (p : Part) → IsPart p → IsSound (part_tree p)
sound_part (part.Table t) is = sound_table t is
sound_part (part.Entry e) is = sound_entry e is
sound_part (part.Value v) is = sound_value v is

-- ---- how deep they nest

shallow_texts : (ts : List (List ℕ)) → items_depth (items_of (map text ts)) ≤ 0
shallow_texts [] = omega arith
shallow_texts (t ∷ ts) = let rest = shallow_texts ts in omega arith

shallow_value : (v : Value) → depth (value_tree v) ≤ 1
shallow_value (Text t) = omega arith
shallow_value (Texts ts) = omega (arith, shallow_texts ts)

shallow_pairs : {A : Type 0} (f : A → Document) (n : ℕ) → ((a : A) → depth (f a) ≤ n) → (ps : List (List ℕ × A)) → members_depth (members_of (map (λ p. (p.0, f p.1)) ps)) ≤ n
shallow_pairs f n few [] = omega arith
shallow_pairs f n few (p ∷ ps) = omega (arith, few p.1, shallow_pairs f n few ps)

shallow_entry : (e : Entry) → depth (entry_tree e) ≤ 2
shallow_entry e = omega (arith, shallow_pairs value_tree 1 shallow_value e)

shallow_table : (t : Table) → depth (table_tree t) ≤ 3
shallow_table t = omega (arith, shallow_pairs entry_tree 2 shallow_entry t)

-- the document of a part nests three levels deep at most
pub shallow_part : (p : Part) → depth (part_tree p) ≤ 3
shallow_part (part.Table t) = shallow_table t
shallow_part (part.Entry e) = omega (arith, shallow_entry e)
shallow_part (part.Value v) = omega (arith, shallow_value v)
