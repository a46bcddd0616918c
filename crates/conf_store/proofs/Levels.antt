-- What stands how far below a configuration's document, and what edits of a node leave.
use Rattle.std.proofs.Common.{◌≡◌, ℕ, zero, suc, true, false, Bool, not, cond, ◌==◌, List, [], ◌∷◌, ◌++◌, take, drop, length, Option, Some, None, Result, Ok, Err, Ordering, Less, Equal, Greater, refl, sym, ap, ◌∙◌}
use Rattle.std.proofs.lemmas.Bool.{and_parts, and_from}
use Rattle.std.specs.List.{list_all, slice_get, insert, remove as removed_at}
use Rattle.std.specs.Prelude.{slice_set, nat_le, if◌then◌else◌}
use Rattle.std.specs.Ordering.{eq_by_cmp, is_eq}
use Rattle.std.specs.FinMap as finmap
use Rattle.std.specs.FinMap.Entries.{by_order}
use Rattle.host_core.specs.Answers.{map_ok}
use Rattle.host_core.specs.Names.{name_cmp}
use Rattle.conf_doc.specs.Document.{Document, text, list, object, documents, pairs, items_of, members_of}
use Rattle.conf_doc.specs.Pairs.{find, put, without}
use Rattle.conf_doc.proofs.Equalities.{documents-items_of, pairs-members_of}
use Rattle.patch_core.specs.Apply.{below, with_below, without_below, with_new}
use Rattle.patch_core.specs.Indexes.{ListToken, index, behind_last, no_index, list_token}
use Rattle.patch_core.specs.declared.errors.FailWhy.{FailWhy}
use Rattle.patch_core.specs.declared.errors.FailWhy.TheVariants.{BadIndex}
use Rattle.conf_store.specs.Shapes.{is_config, is_entry, is_map_of, is_named, is_table, is_text, is_value}

-- what stands so many names below a configuration
abbrev pub shape_at : ℕ → Document → Bool
shape_at zero d = is_config d
shape_at (suc zero) d = is_table d
shape_at (suc (suc zero)) d = is_entry d
shape_at (suc (suc (suc zero))) d = is_value d
shape_at (suc (suc (suc (suc zero)))) d = is_text d
shape_at (suc (suc (suc (suc (suc k))))) d = false

-- a name
abbrev pub is_some_name : List ℕ → Bool
is_some_name token = not (length token == 0)

-- what is there, or the answer where there is nothing
abbrev there : FailWhy → Option Document → Result Document FailWhy
there missing None = Err missing
there missing (Some d) = Ok d

-- ---- maps

module _ (test : Document → Bool) where
  abbrev Pairs : Type 0
  Pairs = List (List ℕ × Document)

  find_passes : (token : List ℕ) (ps : Pairs) (d : Document) → list_all (is_named test) ps ≡ true → find token ps ≡ Some d
      → (is_some_name token ≡ true) × (test d ≡ true)
  find_passes token [] d all e = absurd cc
  find_passes token (p ∷ ps) d all e = by (name_cmp token p.0) refl (find_passes token ps d (and_parts _ _ all).1)
    where
      first : is_named test p ≡ true
      first = (and_parts _ _ all).0

      later : (b : Bool) → eq_by_cmp name_cmp token p.0 ≡ b → b ≡ false → find token ps ≡ Some d
      later b at not_here = sym (ap (λ t. cond t (Some p.1) (find token ps)) (at ∙ not_here)) ∙ e

      by : (r : Ordering) → name_cmp token p.0 ≡ r → (find token ps ≡ Some d → (is_some_name token ≡ true) × (test d ≡ true))
          → (is_some_name token ≡ true) × (test d ≡ true)
      by Less at behind = behind (later _ refl (ap is_eq at))
      by Greater at behind = behind (later _ refl (ap is_eq at))
      by Equal at behind =
          let same : token ≡ p.0 = finmap.slice_cmp-IsAntisymmetric finmap.nat_cmp-IsAntisymmetric token p.0 at in
          let here : Some p.1 ≡ Some d = sym (ap (λ t. cond t (Some p.1) (find token ps)) (ap is_eq at)) ∙ e in
          let value : p.1 ≡ d = cc in
          (ap is_some_name same ∙ (and_parts _ _ first).0, ap test (sym value) ∙ (and_parts _ _ first).1)

  put_passes : (token : List ℕ) (d : Document) (ps : Pairs) → is_some_name token ≡ true → test d ≡ true → list_all (is_named test) ps ≡ true
      → list_all (is_named test) (put token d ps) ≡ true
  put_passes token d [] some is all = and_from _ _ (and_from _ _ some is) refl
  put_passes token d (p ∷ ps) some is all =
      let first : is_named test p ≡ true = (and_parts _ _ all).0 in
      let rest : list_all (is_named test) ps ≡ true = (and_parts _ _ all).1 in
      elim (name_cmp token p.0) as (λ c. list_all (is_named test) (by_order c ((token, d) ∷ p ∷ ps) ((p.0, d) ∷ ps) (p ∷ put token d ps)) ≡ true) [
        | Less ↦ and_from _ _ (and_from _ _ some is) all
        | Equal ↦ and_from _ _ (and_from _ _ ((and_parts _ _ first).0) is) rest
        | Greater ↦ and_from _ _ first (put_passes token d ps some is rest)
      ]

  without_passes : (token : List ℕ) (ps : Pairs) → list_all (is_named test) ps ≡ true → list_all (is_named test) (without token ps) ≡ true
  without_passes token [] all = refl
  without_passes token (p ∷ ps) all =
      let first : is_named test p ≡ true = (and_parts _ _ all).0 in
      let rest : list_all (is_named test) ps ≡ true = (and_parts _ _ all).1 in
      elim (not (eq_by_cmp name_cmp token p.0)) as (λ b. list_all (is_named test) (cond b (p ∷ without token ps) (without token ps)) ≡ true) [
        | true ↦ and_from _ _ first (without_passes token ps rest)
        | false ↦ without_passes token ps rest
      ]

  -- what is found in a map of such
  map_below : (missing : FailWhy) (token : List ℕ) (node child : Document) → is_map_of test node ≡ true → below missing token node ≡ Ok child
      → (is_some_name token ≡ true) × (test child ≡ true)
  map_below missing token (text s) child is e = absurd cc
  map_below missing token (list ds) child is e = absurd cc
  map_below missing token (object ms) child is e = by (find token (pairs ms)) refl e
    where
      by : (o : Option Document) → find token (pairs ms) ≡ o → there missing o ≡ Ok child → (is_some_name token ≡ true) × (test child ≡ true)
      by None found e = absurd cc
      by (Some d) found e =
          let same : d ≡ child = cc in
          find_passes token (pairs ms) child is (found ∙ ap (λ (x : Document). Some x) same)

  map_with : (token : List ℕ) (d node : Document) → is_map_of test node ≡ true → is_some_name token ≡ true → test d ≡ true
      → is_map_of test (with_below token d node) ≡ true
  map_with token d (text s) is some fits = absurd cc
  map_with token d (list ds) is some fits = absurd cc
  map_with token d (object ms) is some fits =
      ap (list_all (is_named test)) (pairs-members_of (put token d (pairs ms))) ∙ put_passes token d (pairs ms) some fits is

  map_without : (token : List ℕ) (node : Document) → is_map_of test node ≡ true → is_map_of test (without_below token node) ≡ true
  map_without token (text s) is = absurd cc
  map_without token (list ds) is = absurd cc
  map_without token (object ms) is =
      ap (list_all (is_named test)) (pairs-members_of (without token (pairs ms))) ∙ without_passes token (pairs ms) is

  map_new : (token : List ℕ) (d node left : Document) → is_map_of test node ≡ true → is_some_name token ≡ true → test d ≡ true
      → with_new token d node ≡ Ok left → is_map_of test left ≡ true
  map_new token d (text s) left is some fits e = absurd cc
  map_new token d (list ds) left is some fits e = absurd cc
  map_new token d (object ms) left is some fits e =
      let same : object (members_of (put token d (pairs ms))) ≡ left = cc in
      ap (is_map_of test) (sym same) ∙ map_with token d (object ms) is some fits

-- ---- lists

abbrev AreTexts : List Document → Type 0
AreTexts ds = list_all is_text ds ≡ true

-- what a token names in a list, and what edits make of the list there
abbrev item_at : FailWhy → ListToken → List Document → Result Document FailWhy
item_at missing (index i) ds = there missing (slice_get ds i)
item_at missing behind_last ds = Err missing
item_at missing no_index ds = Err BadIndex

abbrev set_at : ListToken → Document → List Document → List Document
set_at (index i) d ds = slice_set ds i d
set_at behind_last d ds = ds
set_at no_index d ds = ds

abbrev cut_at : ListToken → List Document → List Document
cut_at (index i) ds = removed_at ds i
cut_at behind_last ds = ds
cut_at no_index ds = ds

abbrev insert_at : ListToken → Document → List Document → Result (List Document) FailWhy
insert_at (index i) d ds = if nat_le i (length ds) then Ok (insert ds i d) else Err BadIndex
insert_at behind_last d ds = Ok (ds ++ d ∷ [])
insert_at no_index d ds = Err BadIndex

get_passes : (ds : List Document) (i : ℕ) (d : Document) → AreTexts ds → slice_get ds i ≡ Some d → is_text d ≡ true
get_passes [] i d all e = absurd cc
get_passes (x ∷ ds) zero d all e = let same : x ≡ d = cc in ap is_text (sym same) ∙ (and_parts _ _ all).0
get_passes (x ∷ ds) (suc i) d all e = get_passes ds i d (and_parts _ _ all).1 e

set_passes : (ds : List Document) (i : ℕ) (d : Document) → AreTexts ds → is_text d ≡ true → AreTexts (slice_set ds i d)
set_passes [] i d all is = refl
set_passes (x ∷ ds) zero d all is = and_from _ _ is (and_parts _ _ all).1
set_passes (x ∷ ds) (suc i) d all is = and_from _ _ (and_parts _ _ all).0 (set_passes ds i d (and_parts _ _ all).1 is)

take_passes : (i : ℕ) (ds : List Document) → AreTexts ds → AreTexts (take i ds)
take_passes zero ds all = refl
take_passes (suc i) [] all = refl
take_passes (suc i) (x ∷ ds) all = and_from _ _ (and_parts _ _ all).0 (take_passes i ds (and_parts _ _ all).1)

drop_passes : (i : ℕ) (ds : List Document) → AreTexts ds → AreTexts (drop i ds)
drop_passes zero ds all = all
drop_passes (suc i) [] all = refl
drop_passes (suc i) (x ∷ ds) all = drop_passes i ds (and_parts _ _ all).1

append_passes : (ds es : List Document) → AreTexts ds → AreTexts es → AreTexts (ds ++ es)
append_passes [] es all others = others
append_passes (x ∷ ds) es all others = and_from _ _ (and_parts _ _ all).0 (append_passes ds es (and_parts _ _ all).1 others)

value_below : (missing : FailWhy) (token : List ℕ) (node child : Document) → is_value node ≡ true → below missing token node ≡ Ok child → is_text child ≡ true
value_below missing token (text s) child is e = absurd cc
value_below missing token (object ms) child is e = absurd cc
value_below missing token (list ds) child is e = by (list_token token) e
  where
    found : (o : Option Document) (i : ℕ) → slice_get (documents ds) i ≡ o → there missing o ≡ Ok child → is_text child ≡ true
    found None i here e = absurd cc
    found (Some d) i here e =
        let same : d ≡ child = cc in
        get_passes (documents ds) i child is (here ∙ ap (λ (x : Document). Some x) same)

    by : (token : ListToken) → item_at missing token (documents ds) ≡ Ok child → is_text child ≡ true
    by (index i) e = found (slice_get (documents ds) i) i refl e
    by behind_last e = absurd cc
    by no_index e = absurd cc

value_with : (token : List ℕ) (d node : Document) → is_value node ≡ true → is_text d ≡ true → is_value (with_below token d node) ≡ true
value_with token d (text s) is fits = refl
value_with token d (object ms) is fits = absurd cc
value_with token d (list ds) is fits = by (list_token token)
  where
    by : (token : ListToken) → list_all is_text (documents (items_of (set_at token d (documents ds)))) ≡ true
    by (index i) = ap (list_all is_text) (documents-items_of (slice_set (documents ds) i d)) ∙ set_passes (documents ds) i d is fits
    by behind_last = ap (list_all is_text) (documents-items_of (documents ds)) ∙ is
    by no_index = ap (list_all is_text) (documents-items_of (documents ds)) ∙ is

value_without : (token : List ℕ) (node : Document) → is_value node ≡ true → is_value (without_below token node) ≡ true
value_without token (text s) is = refl
value_without token (object ms) is = absurd cc
value_without token (list ds) is = by (list_token token)
  where
    by : (token : ListToken) → list_all is_text (documents (items_of (cut_at token (documents ds)))) ≡ true
    by (index i) =
        ap (list_all is_text) (documents-items_of (removed_at (documents ds) i))
        ∙ append_passes (take i (documents ds)) (drop (suc i) (documents ds)) (take_passes i (documents ds) is) (drop_passes (suc i) (documents ds) is)
    by behind_last = ap (list_all is_text) (documents-items_of (documents ds)) ∙ is
    by no_index = ap (list_all is_text) (documents-items_of (documents ds)) ∙ is

value_new : (token : List ℕ) (d node left : Document) → is_value node ≡ true → is_text d ≡ true → with_new token d node ≡ Ok left → is_value left ≡ true
value_new token d (text s) left is fits e = absurd cc
value_new token d (object ms) left is fits e = absurd cc
value_new token d (list ds) left is fits e = by (list_token token) e
  where
    these : (es : List Document) → AreTexts es → list (items_of es) ≡ left → is_value left ≡ true
    these es all same = ap is_value (sym same) ∙ ap (list_all is_text) (documents-items_of es) ∙ all

    inside : (i : ℕ) (b : Bool) → map_ok (λ es. list (items_of es)) (cond b (Ok (insert (documents ds) i d)) (Err BadIndex)) ≡ Ok left → is_value left ≡ true
    inside i true e =
        these (insert (documents ds) i d)
        (append_passes (take i (documents ds)) (d ∷ drop i (documents ds)) (take_passes i (documents ds) is) (and_from _ _ fits (drop_passes i (documents ds) is))) cc
    inside i false e = absurd cc

    by : (token : ListToken) → map_ok (λ es. list (items_of es)) (insert_at token d (documents ds)) ≡ Ok left → is_value left ≡ true
    by (index i) e = inside i (nat_le i (length (documents ds))) e
    by behind_last e = these (documents ds ++ d ∷ []) (append_passes (documents ds) (d ∷ []) is (and_from _ _ fits refl)) cc
    by no_index e = absurd cc

-- ---- at each level

-- a token that must be a name, where a map stands
abbrev pub may_name : ℕ → List ℕ → Bool
may_name zero token = is_some_name token
may_name (suc zero) token = is_some_name token
may_name (suc (suc zero)) token = is_some_name token
may_name (suc (suc (suc k))) token = true

pub level_below : (k : ℕ) (missing : FailWhy) (token : List ℕ) (node child : Document) → shape_at k node ≡ true → below missing token node ≡ Ok child
    → (may_name k token ≡ true) × (shape_at (suc k) child ≡ true)
level_below zero missing token node child is e = map_below is_table missing token node child is e
level_below (suc zero) missing token node child is e = map_below is_entry missing token node child is e
level_below (suc (suc zero)) missing token node child is e = map_below is_value missing token node child is e
level_below (suc (suc (suc zero))) missing token node child is e = (refl, value_below missing token node child is e)
level_below (suc (suc (suc (suc zero)))) missing token (text s) child is e = absurd cc
level_below (suc (suc (suc (suc zero)))) missing token (list ds) child is e = absurd cc
level_below (suc (suc (suc (suc zero)))) missing token (object ms) child is e = absurd cc
level_below (suc (suc (suc (suc (suc k))))) missing token node child is e = absurd cc

pub level_with : (k : ℕ) (token : List ℕ) (d node : Document) → shape_at k node ≡ true → may_name k token ≡ true → shape_at (suc k) d ≡ true
    → shape_at k (with_below token d node) ≡ true
level_with zero token d node is name fits = map_with is_table token d node is name fits
level_with (suc zero) token d node is name fits = map_with is_entry token d node is name fits
level_with (suc (suc zero)) token d node is name fits = map_with is_value token d node is name fits
level_with (suc (suc (suc zero))) token d node is name fits = value_with token d node is fits
level_with (suc (suc (suc (suc k)))) token d node is name fits = absurd cc

pub level_without : (k : ℕ) (token : List ℕ) (node : Document) → shape_at k node ≡ true → shape_at k (without_below token node) ≡ true
level_without zero token node is = map_without is_table token node is
level_without (suc zero) token node is = map_without is_entry token node is
level_without (suc (suc zero)) token node is = map_without is_value token node is
level_without (suc (suc (suc zero))) token node is = value_without token node is
level_without (suc (suc (suc (suc zero)))) token (text s) is = refl
level_without (suc (suc (suc (suc zero)))) token (list ds) is = absurd cc
level_without (suc (suc (suc (suc zero)))) token (object ms) is = absurd cc
level_without (suc (suc (suc (suc (suc k))))) token node is = absurd cc

pub level_new : (k : ℕ) (token : List ℕ) (d node left : Document) → shape_at k node ≡ true → may_name k token ≡ true → shape_at (suc k) d ≡ true
    → with_new token d node ≡ Ok left → shape_at k left ≡ true
level_new zero token d node left is name fits e = map_new is_table token d node left is name fits e
level_new (suc zero) token d node left is name fits e = map_new is_entry token d node left is name fits e
level_new (suc (suc zero)) token d node left is name fits e = map_new is_value token d node left is name fits e
level_new (suc (suc (suc zero))) token d node left is name fits e = value_new token d node left is fits e
level_new (suc (suc (suc (suc k)))) token d node left is name fits e = absurd cc
