-- The names in a configuration aren't empty.
use Rattle.std.proofs.Common.{◌≡◌, ◌<◌, ℕ, zero, suc, List, [], ◌∷◌, ◌==◌, Bool, true, false, cond, ◌&&◌, not, length, Option, Some, None, option_map, option_and_then, slice_get, IsSome, refl, sym, subst, arith}
use Rattle.std.specs.Ordering.{eq_by_cmp}
use Rattle.host_core.specs.Names.{name_cmp}
use Rattle.conf_doc.specs.Changes.{HasPlace}
use Rattle.conf_doc.specs.Pairs.{AreNamed, find}
use Rattle.conf_doc.specs.WellFormed.{Each, IsConfig, IsTable}
use Rattle.conf_doc.specs.declared.configuration.Config.{Config}
use Rattle.conf_doc.specs.declared.configuration.Entry.{Entry}
use Rattle.conf_doc.specs.declared.configuration.Table.{Table}
use Rattle.conf_doc.specs.declared.parts.Part.TheVariants as part
use Rattle.conf_doc.proofs.Edits.{same_Some}
use Rattle.move_extend.proofs.UntouchedPlaces.{same_by}

name_there : (n : ℕ) → not (n == 0) ≡ true → 0 < n
name_there zero e = absurd cc
name_there (suc n) e = omega arith

and_first : (a b : Bool) → (a && b) ≡ true → a ≡ true
and_first true b e = refl
and_first false b e = e

and_second : (a b : Bool) → (a && b) ≡ true → b ≡ true
and_second true b e = e
and_second false b e = cc

module _ {A : Type 0} where
  pub name_at : (ps : List (List ℕ × A)) (i : ℕ) (p : List ℕ × A) → AreNamed ps → slice_get ps i ≡ Some p → 0 < length p.0
  name_at [] i p named e = absurd cc
  name_at (q ∷ ps) zero p named e = subst (λ r. 0 < length r.0) (same_Some q p e) (name_there (length q.0) (and_first _ _ named))
  name_at (q ∷ ps) (suc i) p named e = name_at ps i p (and_second _ _ named) e

  pub part_at : (P : A → Type 0) (ps : List (List ℕ × A)) (i : ℕ) (p : List ℕ × A) → Each P ps → slice_get ps i ≡ Some p → P p.1
  part_at P [] i p each e = absurd cc
  part_at P (q ∷ ps) zero p each e = subst (λ r. P r.1) (same_Some q p e) each.0
  part_at P (q ∷ ps) (suc i) p each e = part_at P ps i p each.1 e

  -- of what is found
  found_name : (k : List ℕ) (ps : List (List ℕ × A)) → AreNamed ps → IsSome (find k ps) → 0 < length k
  found_name k [] named some = absurd cc
  found_name k (p ∷ ps) named some =
      elim (eq_by_cmp name_cmp k p.0) as (λ b. eq_by_cmp name_cmp k p.0 ≡ b → IsSome (cond b (Some p.1) (find k ps)) → 0 < length k) [
        | true ↦ λ e _. subst (λ n. 0 < length n) (sym (same_by k p.0 e)) (name_there (length p.0) (and_first _ _ named))
        | false ↦ λ e there. found_name k ps (and_second _ _ named) there
      ] refl some

  found_part : (P : A → Type 0) (k : List ℕ) (ps : List (List ℕ × A)) (a : A) → Each P ps → find k ps ≡ Some a → P a
  found_part P k [] a each is = absurd cc
  found_part P k (p ∷ ps) a each is = by (eq_by_cmp name_cmp k p.0) (found_part P k ps a each.1) is
    where
      by : (b : Bool) → (find k ps ≡ Some a → P a) → cond b (Some p.1) (find k ps) ≡ Some a → P a
      by true rest e = subst P (same_Some p.1 a e) each.0
      by false rest e = rest e

-- the key of an entry that is there
pub entry_key : (c : Config) (t k : List ℕ) → IsConfig c → HasPlace c (t ∷ k ∷ []) → 0 < length k
entry_key c t k well has = by (find t c) refl has
  where
    mapped : (o : Option Entry) → IsSome (option_map part.Entry o) → IsSome o
    mapped None h = h
    mapped (Some e) h = refl

    by : (o : Option Table) → find t c ≡ o → IsSome (option_and_then (λ table. option_map part.Entry (find k table)) o) → 0 < length k
    by None is h = absurd cc
    by (Some table) is h = let formed : IsTable table = found_part IsTable t c table well.parts is in found_name k table formed.shaped.named (mapped (find k table) h)
