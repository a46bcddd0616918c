-- Documents, from their texts back.
use Rattle.std.proofs.Common.{◌≡◌, ℕ, suc, ◌+◌, ◌≤◌, max, true, false, List, [], ◌∷◌, ◌++◌, map, decimal, Option, Some, option_map, option_and_then, Ok, IsUtf8, Ordering, Less, Equal, Greater, is_lt, refl, sym, ap, ◌∙◌, subst, append_assoc, append-nil, arith}
use Rattle.std.specs.Cmp.Lexicographic.{slice_cmp, nat_list_cmp_total}
use Rattle.std.specs.FinMap.Entries.{below_all}
use Rattle.std.specs.Ordering.{nat_cmp, ordering_reverse}
use Rattle.std.proofs.lemmas.Bool.{and_parts}
use Rattle.std.proofs.lemmas.Str.{IsUtf8-append}
use Rattle.host_core.specs.Names.{name_cmp}
use Rattle.json.specs.Json as json
use Rattle.json.specs.Layout.{nothing}
use Rattle.json.specs.Lex.{tokens}
use Rattle.json.specs.Print.{print}
use Rattle.json.specs.Token.{Token}
use Rattle.json.specs.Tree as nested
use Rattle.json.specs.Tree.{json_tokens, items_tokens, members_tokens}
use Rattle.json.proofs.Printed.Tokens.{tokens-print}
use Rattle.json.proofs.Printed.Trees.{value-json_tokens}
use Rattle.serde_json.specs.Data as values
use Rattle.serde_json.specs.Read.{read, of_json, of_items, of_members}
use Rattle.serde_json.specs.Written.{outline, items_outline, members_outline}
use Rattle.serde_json.proofs.Texts.{print-outline}
use Rattle.conf_doc.specs.WellFormed.{AreTexts, Each, IsConfig, IsEntry, IsTable, IsValue}
use Rattle.conf_doc.specs.Configuration.{mapping, value_tree, entry_tree, table_tree, tree}
use Rattle.conf_doc.specs.Document.{Document, text, list, object, Items, no_items, item, Members, no_members, member, items_of, members_of, pairs, depth, items_depth, members_depth}
use Rattle.conf_doc.specs.Pairs.{IsRising}
use Rattle.conf_doc.specs.Reading as reads
use Rattle.host_core.specs.Answers.{map_ok, both}
use Rattle.conf_doc.specs.Reading.{Way, below, document_of, items_from, members_from, json_checked, kind_checked, reading}
use Rattle.conf_doc.specs.Sound.{IsSound, AreSoundItems, AreSoundMembers}
use Rattle.conf_doc.specs.Texts.{value, item_values, member_values, compact, pretty_text, file_text}
use Rattle.conf_doc.specs.declared.configuration.Value.{Value}
use Rattle.conf_doc.specs.declared.configuration.Value.TheVariants.{Text, List as Listed}
use Rattle.conf_doc.specs.declared.configuration.Entry.{Entry}
use Rattle.conf_doc.specs.declared.configuration.Table.{Table}
use Rattle.conf_doc.specs.declared.configuration.Config.{Config}
use Rattle.conf_doc.proofs.JsonValues.{json_read}
use Rattle.conf_doc.proofs.Names.{rising-map}
use Rattle.conf_doc.proofs.TextReadings.{ArePlain, ArePlain-append, ArePrintable-plain, tokens-print_line, tokens-pretty_line, print_utf8, pretty_utf8, line_feed_utf8}
use Rattle.conf_doc.proofs.Equalities.{pairs-members_of}

-- a document's tokens are brackets, keys and strings
mutual
  plain_tokens : (d : Document) → IsSound d → ArePlain (json_tokens (outline (value d)))
  plain_tokens (text s) h = (h, tt)
  plain_tokens (list ds) h = (tt, plain_items ds h)
  plain_tokens (object ms) h = (tt, plain_members ms h.1)

  plain_items : (ds : Items) → AreSoundItems ds → ArePlain (items_tokens (items_outline (item_values ds)))
  plain_items no_items h = (tt, tt)
  plain_items (item d ds) h = ArePlain-append (json_tokens (outline (value d))) _ (plain_tokens d h.0) (plain_items ds h.1)

  plain_members : (ms : Members) → AreSoundMembers ms → ArePlain (members_tokens (members_outline (member_values ms)))
  plain_members no_members h = (tt, tt)
  plain_members (member k d ms) h = (h.0, ArePlain-append (json_tokens (outline (value d))) _ (plain_tokens d h.1) (plain_members ms h.2))

-- depths agree
mutual
  depth_outline : (d : Document) → nested.depth (outline (value d)) ≡ depth d
  depth_outline (text s) = refl
  depth_outline (list ds) = ap suc (depth_items_outline ds)
  depth_outline (object ms) = ap suc (depth_members_outline ms)

  depth_items_outline : (ds : Items) → nested.items_depth (items_outline (item_values ds)) ≡ items_depth ds
  depth_items_outline no_items = refl
  depth_items_outline (item d ds) = λ i. max (depth_outline d i) (depth_items_outline ds i)

  depth_members_outline : (ms : Members) → nested.members_depth (members_outline (member_values ms)) ≡ members_depth ms
  depth_members_outline no_members = refl
  depth_members_outline (member k d ms) = λ i. max (depth_outline d i) (depth_members_outline ms i)

less : (c : Ordering) → is_lt c ≡ true → c ≡ Less
less Less e = refl
less Equal e = cc
less Greater e = cc

last_below : (x : List ℕ) (ps : List (List ℕ × Document)) (p : List ℕ × Document) (left : List (List ℕ × Document)) → below_all name_cmp x (ps ++ p ∷ left) ≡ true → name_cmp x p.0 ≡ Less
last_below x [] p left under = less _ (and_parts _ _ under).0
last_below x (q ∷ ps) p left under = last_below x ps p left (and_parts _ _ under).1

-- a member above those before it goes last
put_end : (ps : List (List ℕ × Document)) (p : List ℕ × Document) (left : List (List ℕ × Document)) → IsRising (ps ++ p ∷ left) → values.put p.0 (value p.1) (member_values (members_of ps)) ≡ member_values (members_of (ps ++ p ∷ []))
put_end [] p left rising = refl
put_end (q ∷ ps) p left rising =
    let above : slice_cmp nat_cmp p.0 q.0 ≡ Greater = nat_list_cmp_total.antisymm p.0 q.0 ∙ ap ordering_reverse (last_below q.0 ps p left (and_parts _ _ rising).0) in
    rw above (ap (values.member q.0 (value q.1)) (put_end ps p left (and_parts _ _ rising).1))

members_of-pairs : (ms : Members) → members_of (pairs ms) ≡ ms
members_of-pairs no_members = refl
members_of-pairs (member k d ms) = ap (member k d) (members_of-pairs ms)

-- the JSON of a document is its value
mutual
  outline_back : (d : Document) → IsSound d → of_json (outline (value d)) ≡ Some (value d)
  outline_back (text s) h = refl
  outline_back (list ds) h = ap (option_map values.array) (items_outline_back ds h)
  outline_back (object ms) h =
      ap (option_map values.object) (members_outline_back [] ms h.0 h.1 ∙ ap (λ ns. Some (member_values ns)) (members_of-pairs ms))

  items_outline_back : (ds : Items) → AreSoundItems ds → of_items (items_outline (item_values ds)) ≡ Some (item_values ds)
  items_outline_back no_items h = refl
  items_outline_back (item d ds) h =
      ap (option_and_then (λ v. option_map (values.item v) (of_items (items_outline (item_values ds))))) (outline_back d h.0)
      ∙ ap (option_map (values.item (value d))) (items_outline_back ds h.1)

  members_outline_back : (done : List (List ℕ × Document)) (ms : Members) → IsRising (done ++ pairs ms) → AreSoundMembers ms
      → of_members (members_outline (member_values ms)) (member_values (members_of done)) ≡ Some (member_values (members_of (done ++ pairs ms)))
  members_outline_back done no_members rising h = ap (λ ps. Some (member_values (members_of ps))) (sym (append-nil done))
  members_outline_back done (member k d ms) rising h =
      let shift : (done ++ (k, d) ∷ []) ++ pairs ms ≡ done ++ (k, d) ∷ pairs ms = append_assoc done ((k, d) ∷ []) (pairs ms) in
      ap (option_and_then (λ v. of_members (members_outline (member_values ms)) (values.put k v (member_values (members_of done))))) (outline_back d h.1)
      ∙ ap (of_members (members_outline (member_values ms))) (put_end done (k, d) (pairs ms) rising)
      ∙ members_outline_back (done ++ (k, d) ∷ []) ms (subst IsRising (sym shift) rising) h.2
      ∙ ap (λ ps. Some (member_values (members_of ps))) shift

-- what a value among tokens reads as
abbrev whole : Option (json.Json × List Token) → Option values.Data
whole o = option_and_then of_json (option_and_then (λ p. json.if_last p.0 p.1) o)

-- a text with the document's tokens reads as its value
read_value : (d : Document) (bytes : List ℕ) → IsSound d → depth d ≤ 127 → tokens bytes ≡ json_tokens (outline (value d)) → read bytes ≡ Some (value d)
read_value d bytes sound shallow same =
    let within : nested.depth (outline (value d)) ≤ 127 = omega (arith, depth_outline d) in
    ap whole (ap (json.value 127) (same ∙ sym (append-nil (json_tokens (outline (value d))))) ∙ value-json_tokens (outline (value d)) 127 [] within)
    ∙ outline_back d sound

module _ (d : Document) (sound : IsSound d) (shallow : depth d ≤ 127) where
  ts : List Token
  ts = json_tokens (outline (value d))

  is_print : print (json_tokens (outline (value d))) ≡ compact d
  is_print = print-outline (value d)

  pub compact_json : reads.json (compact d) ≡ Some (value d)
  compact_json =
      let plain = plain_tokens d sound in
      json_read (compact d) (value d) (subst IsUtf8 is_print (print_utf8 false (json_tokens (outline (value d))) plain))
      (read_value d (compact d) sound shallow (ap tokens (sym is_print) ∙ tokens-print (json_tokens (outline (value d))) (ArePrintable-plain (json_tokens (outline (value d))) plain)))

  pub compact_line_json : reads.json (compact d ++ 10 ∷ []) ≡ Some (value d)
  compact_line_json =
      let plain = plain_tokens d sound in
      json_read (compact d ++ 10 ∷ []) (value d) (IsUtf8-append _ _ (subst IsUtf8 is_print (print_utf8 false (json_tokens (outline (value d))) plain)) line_feed_utf8)
      (read_value d (compact d ++ 10 ∷ []) sound shallow (ap (λ bytes. tokens (bytes ++ 10 ∷ [])) (sym is_print) ∙ tokens-print_line (json_tokens (outline (value d))) plain))

  pub pretty_line_json : reads.json (pretty_text d ++ 10 ∷ []) ≡ Some (value d)
  pretty_line_json =
      let plain = plain_tokens d sound in
      json_read (pretty_text d ++ 10 ∷ []) (value d) (IsUtf8-append _ _ (pretty_utf8 (nothing, 0) (json_tokens (outline (value d))) plain) line_feed_utf8)
      (read_value d (pretty_text d ++ 10 ∷ []) sound shallow (tokens-pretty_line (json_tokens (outline (value d))) plain))

-- the value of a document is that document
mutual
  pub document_back : (d : Document) → document_of (value d) ≡ Ok d
  document_back (text s) = refl
  document_back (list ds) = ap (map_ok list) (items_back 0 ds)
  document_back (object ms) = ap (map_ok object) (members_back ms)

  items_back : (i : ℕ) (ds : Items) → items_from i (item_values ds) ≡ Ok ds
  items_back i no_items = refl
  items_back i (item d ds) = λ j. both item (below (decimal i) (document_back d j)) (items_back (i + 1) ds j)

  members_back : (ms : Members) → members_from (member_values ms) ≡ Ok ms
  members_back no_members = refl
  members_back (member k d ms) = λ j. both (member k) (below k (document_back d j)) (members_back ms j)

pub reading_back : (bytes : List ℕ) (d : Document) → reads.json bytes ≡ Some (value d) → reading bytes ≡ Ok d
reading_back bytes d e = ap json_checked e ∙ ap kind_checked (document_back d)

-- the tree of a configuration
sound_texts : (us : List (List ℕ)) → AreTexts us → AreSoundItems (items_of (map text us))
sound_texts [] h = tt
sound_texts (u ∷ us) h = (h.0, sound_texts us h.1)

sound_value : (v : Value) → IsValue v → IsSound (value_tree v)
sound_value (Text u) h = h
sound_value (Listed us) h = sound_texts us h

sound_members : {A : Type 0} (f : A → Document) (P : A → Type 0) → ((a : A) → P a → IsSound (f a)) → (ps : List (List ℕ × A)) → AreTexts (map (λ p. p.0) ps) → Each P ps
    → AreSoundMembers (members_of (map (λ p. (p.0, f p.1)) ps))
sound_members f P sound [] names each = tt
sound_members f P sound (m ∷ ms) names each = (names.0, sound m.1 each.0, sound_members f P sound ms names.1 each.1)

sound_mapping : {A : Type 0} (f : A → Document) (P : A → Type 0) → ((a : A) → P a → IsSound (f a)) → (ps : List (List ℕ × A)) → IsRising ps → AreTexts (map (λ p. p.0) ps) → Each P ps → IsSound (mapping f ps)
sound_mapping f P sound ps rising names each =
    (subst IsRising (sym (pairs-members_of (map (λ m. (m.0, f m.1)) ps))) (rising-map f ps rising), sound_members f P sound ps names each)

sound_entry : (e : Entry) → IsEntry e → IsSound (entry_tree e)
sound_entry e is = sound_mapping value_tree IsValue sound_value e is.shaped.rising is.shaped.texts is.parts

sound_table : (t : Table) → IsTable t → IsSound (table_tree t)
sound_table t is = sound_mapping entry_tree IsEntry sound_entry t is.shaped.rising is.shaped.texts is.parts

pub sound_tree : (c : Config) → IsConfig c → IsSound (tree c)
sound_tree c is = sound_mapping table_tree IsTable sound_table c is.shaped.rising is.shaped.texts is.parts

-- which nests four deep at most
flat_texts : (us : List (List ℕ)) → items_depth (items_of (map text us)) ≡ 0
flat_texts [] = refl
flat_texts (u ∷ us) = omega (arith, flat_texts us)

depth_value_tree : (v : Value) → depth (value_tree v) ≤ 1
depth_value_tree (Text u) = omega arith
depth_value_tree (Listed us) = omega (arith, flat_texts us)

depth_members : {A : Type 0} (f : A → Document) (n : ℕ) → ((a : A) → depth (f a) ≤ n) → (ps : List (List ℕ × A)) → members_depth (members_of (map (λ p. (p.0, f p.1)) ps)) ≤ n
depth_members f n each [] = omega arith
depth_members f n each (p ∷ ps) = omega (arith, each p.1, depth_members f n each ps)

depth_mapping : {A : Type 0} (f : A → Document) (n : ℕ) → ((a : A) → depth (f a) ≤ n) → (ps : List (List ℕ × A)) → depth (mapping f ps) ≤ n + 1
depth_mapping f n each ps = omega (arith, depth_members f n each ps)

pub depth_tree : (c : Config) → depth (tree c) ≤ 4
depth_tree c = depth_mapping table_tree 3 (λ t. depth_mapping entry_tree 2 (λ e. depth_mapping value_tree 1 depth_value_tree e) t) c

pub file_json : (c : Config) → IsConfig c → reads.json (file_text c) ≡ Some (value (tree c))
file_json c is = pretty_line_json (tree c) (sound_tree c is) (omega (arith, depth_tree c))
