-- The walk over a document tells what its shaping tells; and the document of a configuration is the one shaped.
use Rattle.std.proofs.Common.{◌≡◌, ℕ, suc, ◌+◌, true, Bool, not, ◌&&◌, ◌==◌, List, [], ◌∷◌, map, length, Result, Ok, Err, decimal, ne_eqb, suc-ne-zero, is_ok, refl, sym, ap, ◌∙◌}
use Rattle.std.specs.List.{list_all}
use Rattle.host_core.specs.Answers.{both, map_ok}
use Rattle.conf_doc.specs.Document.{Document, text, list, object, documents, pairs, items_of, members_of, Items, no_items, item, Members, no_members, member}
use Rattle.conf_doc.specs.Configuration.{entry_tree, mapping, table_tree, tree, value_tree}
use Rattle.conf_doc.specs.Reading.{Way, below}
use Rattle.conf_doc.specs.Shaping.{configuration, entry_of, mapping_of, named, parts, table_of, text_of, texts_from, value_of}
use Rattle.conf_doc.specs.declared.configuration.Config.{Config}
use Rattle.conf_doc.specs.declared.configuration.Entry.{Entry}
use Rattle.conf_doc.specs.declared.configuration.Table.{Table}
use Rattle.conf_doc.specs.declared.configuration.Value.{Value}
use Rattle.conf_doc.specs.declared.configuration.Value.TheVariants.{Text, List as Listed}
use Rattle.conf_store.specs.Shapes.{is_config, is_entry, is_map_of, is_named, is_table, is_text, is_value}

-- ---- the walk

ok_both : {A B C : Type 0} (f : A → B → C) (r : Result A Way) (s : Result B Way) → is_ok (both f r s) ≡ (is_ok r && is_ok s)
ok_both f (Ok a) (Ok b) = refl
ok_both f (Ok a) (Err way) = refl
ok_both f (Err way) s = refl

ok_below : {A : Type 0} (token : List ℕ) (r : Result A Way) → is_ok (below token r) ≡ is_ok r
ok_below token (Ok a) = refl
ok_below token (Err way) = refl

ok_map : {A B : Type 0} (f : A → B) (r : Result A Way) → is_ok (map_ok f r) ≡ is_ok r
ok_map f (Ok a) = refl
ok_map f (Err way) = refl

ok_named : {A : Type 0} (k : List ℕ) (r : Result A Way) → is_ok (below k (named k r)) ≡ (not (length k == 0) && is_ok r)
ok_named [] r = refl
ok_named (b ∷ bs) r = ok_below (b ∷ bs) r ∙ sym (ap (λ t. not t && is_ok r) (ne_eqb (suc (length bs)) 0 (suc-ne-zero (length bs))))

module _ {A : Type 0} (f : Document → Result A Way) (test : Document → Bool) (same : (d : Document) → test d ≡ is_ok (f d)) where
  ok_parts : (ms : Members) → list_all (is_named test) (pairs ms) ≡ is_ok (parts f ms)
  ok_parts no_members = refl
  ok_parts (member k d ms) =
      (λ i. (not (length k == 0) && same d i) && ok_parts ms i)
      ∙ ap (λ t. t && is_ok (parts f ms)) (sym (ok_named k (f d)))
      ∙ sym (ok_both (λ a rest. (k, a) ∷ rest) (below k (named k (f d))) (parts f ms))

  ok_mapping : (d : Document) → is_map_of test d ≡ is_ok (mapping_of f d)
  ok_mapping (text s) = refl
  ok_mapping (list ds) = refl
  ok_mapping (object ms) = ok_parts ms

ok_text : (d : Document) → is_text d ≡ is_ok (text_of d)
ok_text (text s) = refl
ok_text (list ds) = refl
ok_text (object ms) = refl

ok_texts : (i : ℕ) (ds : Items) → list_all is_text (documents ds) ≡ is_ok (texts_from i ds)
ok_texts i no_items = refl
ok_texts i (item d ds) =
    (λ j. ok_text d j && ok_texts (i + 1) ds j)
    ∙ ap (λ t. t && is_ok (texts_from (i + 1) ds)) (sym (ok_below (decimal i) (text_of d)))
    ∙ sym (ok_both (λ t ts. t ∷ ts) (below (decimal i) (text_of d)) (texts_from (i + 1) ds))

ok_value : (d : Document) → is_value d ≡ is_ok (value_of d)
ok_value (text s) = refl
ok_value (list ds) = ok_texts 0 ds ∙ sym (ok_map Listed (texts_from 0 ds))
ok_value (object ms) = refl

ok_entry : (d : Document) → is_entry d ≡ is_ok (entry_of d)
ok_entry = ok_mapping value_of is_value ok_value

ok_table : (d : Document) → is_table d ≡ is_ok (table_of d)
ok_table = ok_mapping entry_of is_entry ok_entry

pub ok_config : (d : Document) → is_config d ≡ is_ok (configuration d)
ok_config = ok_mapping table_of is_table ok_table

-- ---- back to the document

both_found : {A B C : Type 0} (f : A → B → C) (r : Result A Way) (s : Result B Way) (c : C) → both f r s ≡ Ok c → (a : A) × (b : B) × (r ≡ Ok a) × (s ≡ Ok b) × (c ≡ f a b)
both_found f (Ok a) (Ok b) c e = (a, b, refl, refl, cc)
both_found f (Ok a) (Err way) c e = absurd cc
both_found f (Err way) s c e = absurd cc

below_found : {A : Type 0} (token : List ℕ) (r : Result A Way) (a : A) → below token r ≡ Ok a → r ≡ Ok a
below_found token (Ok b) a e = e
below_found token (Err way) a e = absurd cc

named_found : {A : Type 0} (k : List ℕ) (r : Result A Way) (a : A) → below k (named k r) ≡ Ok a → r ≡ Ok a
named_found [] r a e = absurd cc
named_found (b ∷ bs) r a e = below_found (b ∷ bs) r a e

texts_tree : (i : ℕ) (ds : Items) (ts : List (List ℕ)) → texts_from i ds ≡ Ok ts → items_of (map text ts) ≡ ds
texts_tree i no_items ts e = let none : ts ≡ [] = cc in ap (λ (us : List (List ℕ)). items_of (map text us)) none
texts_tree i (item d ds) ts e =
    let found = both_found (λ t us. t ∷ us) (below (decimal i) (text_of d)) (texts_from (i + 1) ds) ts e in
    ap (λ (us : List (List ℕ)). items_of (map text us)) found.4
    ∙ (λ j. item (is_that d found.0 (below_found (decimal i) (text_of d) found.0 found.2) j) (texts_tree (i + 1) ds found.1 found.3 j))
  where
    is_that : (d : Document) (t : List ℕ) → text_of d ≡ Ok t → text t ≡ d
    is_that (text s) t e = let same : s ≡ t = cc in ap text (sym same)
    is_that (list ds) t e = absurd cc
    is_that (object ms) t e = absurd cc

value_back : (d : Document) (v : Value) → value_of d ≡ Ok v → value_tree v ≡ d
value_back (text s) v e = let same : Text s ≡ v = cc in ap value_tree (sym same)
value_back (list ds) v e = by (texts_from 0 ds) refl
  where
    by : (r : Result (List (List ℕ)) Way) → texts_from 0 ds ≡ r → value_tree v ≡ list ds
    by (Ok ts) found =
        let same : Listed ts ≡ v = cc in
        ap value_tree (sym same) ∙ ap list (texts_tree 0 ds ts found)
    by (Err way) found = absurd cc
value_back (object ms) v e = absurd cc

module _ {A : Type 0} (f : Document → Result A Way) (g : A → Document) (back : (d : Document) (a : A) → f d ≡ Ok a → g a ≡ d) where
  parts_tree : (ms : Members) (ps : List (List ℕ × A)) → parts f ms ≡ Ok ps → members_of (map (λ p. (p.0, g p.1)) ps) ≡ ms
  parts_tree no_members ps e = let none : ps ≡ [] = cc in ap (λ (qs : List (List ℕ × A)). members_of (map (λ p. (p.0, g p.1)) qs)) none
  parts_tree (member k d ms) ps e =
      let found = both_found (λ a rest. (k, a) ∷ rest) (below k (named k (f d))) (parts f ms) ps e in
      ap (λ (qs : List (List ℕ × A)). members_of (map (λ p. (p.0, g p.1)) qs)) found.4
      ∙ (λ i. member k (back d found.0 (named_found k (f d) found.0 found.2) i) (parts_tree ms found.1 found.3 i))

  mapping_back : (d : Document) (ps : List (List ℕ × A)) → mapping_of f d ≡ Ok ps → mapping g ps ≡ d
  mapping_back (text s) ps e = absurd cc
  mapping_back (list ds) ps e = absurd cc
  mapping_back (object ms) ps e = ap object (parts_tree ms ps e)

entry_back : (d : Document) (e : Entry) → entry_of d ≡ Ok e → entry_tree e ≡ d
entry_back = mapping_back value_of value_tree value_back

table_back : (d : Document) (t : Table) → table_of d ≡ Ok t → table_tree t ≡ d
table_back = mapping_back entry_of entry_tree entry_back

-- what is shaped as a configuration is its document
pub config_back : (d : Document) (c : Config) → configuration d ≡ Ok c → tree c ≡ d
config_back = mapping_back table_of table_tree table_back

-- what passes the walk is the document of what it is shaped as
pub tree_shaped : (d : Document) → is_config d ≡ true → map_ok tree (configuration d) ≡ Ok d
tree_shaped d is = by (configuration d) refl (sym (ok_config d) ∙ is)
  where
    by : (r : Result Config Way) → configuration d ≡ r → is_ok r ≡ true → map_ok tree (configuration d) ≡ Ok d
    by (Ok c) at is = ap (map_ok tree) at ∙ ap (λ (e : Document). Ok e) (config_back d c at)
    by (Err way) at is = absurd cc
