-- The hash of the configuration after a move, from the one before and those of the move's entry.
use Rattle.std.proofs.Common.{◌≡◌, ℕ, Bool, true, false, cond, List, [], ◌∷◌, slice_get, Option, Some, None, option_and_then, refl, sym, ap, ◌∙◌, subst}
use Rattle.std.specs.Prelude.{bit_xor}
use Rattle.std.specs.Option.{option_map_or}
use Rattle.std.specs.Ordering.{eq_by_cmp}
use Rattle.host_core.specs.Names.{name_cmp}
use Rattle.conf_doc.specs.Changes.{with_part}
use Rattle.conf_doc.specs.Pairs.{IsRising, change_part, find, put, without}
use Rattle.conf_doc.specs.WellFormed.{Each, IsConfig, IsTable}
use Rattle.conf_doc.specs.declared.configuration.Config.{Config}
use Rattle.conf_doc.specs.declared.configuration.Table.{Table}
use Rattle.conf_doc.specs.declared.parts.Part.{Part}
use Rattle.conf_doc.specs.declared.parts.Part.TheVariants as part
use Rattle.conf_doc.proofs.Edits.{same_Some}
use Rattle.move_core.specs.Moves.{Place}
use Rattle.plan_search.specs.Hashes.{Fed, config_hash, entry_hash, entry_hash_at, hash_at}
use Rattle.plan_search.proofs.PairHashes.{ChangesBy, change_changes, found_put, joined_twice, put_changes, within_changes, without_changes}

-- what holds of each part holds of the one that a name names
module _ {A : Type 0} (P : A → Type 0) (name : List ℕ) (a : A) where
  found_by : (p : A) (rest : Option A) → P p → (rest ≡ Some a → P a) → (b : Bool) → cond b (Some p) rest ≡ Some a → P a
  found_by p rest first later true is = subst P (same_Some p a is) first
  found_by p rest first later false is = later is

  found_part : (ps : List (List ℕ × A)) → Each P ps → find name ps ≡ Some a → P a
  found_part [] each is = absurd cc
  found_part (p ∷ ps) each is = found_by p.1 (find name ps) each.0 (found_part ps each.1) (eq_by_cmp name_cmp name p.0) is

-- a place of two names or more begins with them
pub two_names : (p : Place) (t k : List ℕ) → slice_get p 0 ≡ Some t → slice_get p 1 ≡ Some k → (rest : Place) × (p ≡ t ∷ k ∷ rest)
two_names [] t k first second = absurd cc
two_names (a ∷ []) t k first second = absurd cc
two_names (a ∷ b ∷ rest) t k first second = (rest, ap (λ x. x ∷ b ∷ rest) (same_Some a t first) ∙ ap (λ x. t ∷ x ∷ rest) (same_Some b k second))

module _ (F : Fed) (t k : List ℕ) where
  -- the hash of the configuration changes by what that of the entry changes
  abbrev pub Follows : Config → Config → Type 0
  Follows old new = bit_xor (config_hash F old) (entry_hash_at F t k old) ≡ bit_xor (config_hash F new) (entry_hash_at F t k new)

  at_table : (c : Config) (table : Table) → find t c ≡ Some table → hash_at (entry_hash F t) k table ≡ entry_hash_at F t k c
  at_table c table is = ap (λ o. option_map_or (entry_hash F t k) (option_and_then (find k) o) 0) (sym is)

  -- where the table changes by what the entry changes, so does the configuration
  module _ (f : Table → Table) (changes : (table : Table) → IsRising table → ChangesBy (entry_hash F t) k table (f table)) (c : Config) (formed : IsConfig c) where
    table_by : (o : Option Table) → find t c ≡ o → Follows c (option_map_or (λ table. put t (f table) c) o c)
    table_by None is = refl
    table_by (Some table) is =
        let well : IsTable table = found_part IsTable t table c formed.parts is in
        ap (bit_xor (config_hash F c)) (sym (at_table c table is))
        ∙ within_changes (entry_hash F) t k c table (f table) formed.shaped.rising is (changes table well.shaped.rising)
        ∙ ap (bit_xor (config_hash F (put t (f table) c))) (at_table (put t (f table) c) (f table) (found_put t (f table) c))

    table_changes : Follows c (change_part t f c)
    table_changes = table_by (find t c) refl

  pub part_changes : (c : Config) → IsConfig c → (rest : Place) (o : Option Part) → Follows c (with_part c (t ∷ k ∷ rest) o)
  part_changes c formed [] None = table_changes (without k) (without_changes (entry_hash F t) k) c formed
  part_changes c formed [] (Some (part.Table table)) = refl
  part_changes c formed [] (Some (part.Entry e)) = table_changes (put k e) (put_changes (entry_hash F t) k e) c formed
  part_changes c formed [] (Some (part.Value v)) = refl
  part_changes c formed (f ∷ []) None = table_changes (change_part k (without f)) (change_changes (entry_hash F t) k (without f)) c formed
  part_changes c formed (f ∷ []) (Some (part.Table table)) = refl
  part_changes c formed (f ∷ []) (Some (part.Entry e)) = refl
  part_changes c formed (f ∷ []) (Some (part.Value v)) = table_changes (change_part k (put f v)) (change_changes (entry_hash F t) k (put f v)) c formed
  part_changes c formed (f ∷ n ∷ ns) o = refl

  -- so the hash after is the one before with both of the entry
  pub hash_after : (c next : Config) (p : Place) (o : Option Part) (h old new : ℕ) → IsConfig c → slice_get p 0 ≡ Some t → slice_get p 1 ≡ Some k
      → next ≡ with_part c p o → h ≡ config_hash F c → old ≡ entry_hash_at F t k c → new ≡ entry_hash_at F t k next
      → bit_xor (bit_xor h old) new ≡ config_hash F next
  hash_after c next p o h old new formed first second is hash before after =
      let names = two_names p t k first second in
      let made : next ≡ with_part c (t ∷ k ∷ names.0) o = is ∙ ap (λ q. with_part c q o) names.1 in
      let follows : Follows c next = subst (Follows c) (sym made) (part_changes c formed names.0 o) in
      ap (λ x. bit_xor (bit_xor x old) new) hash ∙ ap (λ x. bit_xor (bit_xor (config_hash F c) x) new) before
      ∙ ap (bit_xor (bit_xor (config_hash F c) (entry_hash_at F t k c))) after
      ∙ ap (λ x. bit_xor x (entry_hash_at F t k next)) follows ∙ joined_twice (config_hash F next) (entry_hash_at F t k next)
