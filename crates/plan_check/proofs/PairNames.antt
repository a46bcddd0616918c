-- Names in lists of pairs: what is found by a name has it at an index, and the other way round.
use Rattle.std.proofs.Common.{◌≡◌, ◌<◌, ℕ, zero, suc, List, [], ◌∷◌, true, false, cond, length, map, slice_get, Option, Some, None, option_map, option_and_then, is_some, IsSome, Ordering, Less, Equal, Greater, is_eq, refl, sym, ap, ◌∙◌, subst, arith}
use Rattle.std.specs.Ordering.{eq_by_cmp}
use Rattle.std.specs.Cmp.Lexicographic.{nat_list_cmp_total}
use Rattle.std.proofs.lemmas.Cmp.{tied_itself}
use Rattle.host_core.specs.Names.{name_cmp}
use Rattle.conf_doc.specs.Changes.{HasPlace}
use Rattle.conf_doc.specs.Pairs.{find}
use Rattle.conf_doc.specs.declared.configuration.Config.{Config}
use Rattle.conf_doc.specs.declared.configuration.Entry.{Entry}
use Rattle.conf_doc.specs.declared.configuration.Table.{Table}
use Rattle.conf_doc.specs.declared.parts.Part.TheVariants as part
use Rattle.conf_doc.proofs.Edits.{same_name, same_Some}
use Rattle.plan_check.specs.Keeping.{KeepsKeysOf}

-- ---- lists of pairs

equal_names : (a b : List ℕ) (o : Ordering) → name_cmp a b ≡ o → is_eq o ≡ true → a ≡ b
equal_names a b Less o is = cc
equal_names a b Equal o is = same_name a b o
equal_names a b Greater o is = cc

itself : (n : List ℕ) → eq_by_cmp name_cmp n n ≡ true
itself n = ap is_eq (tied_itself nat_list_cmp_total n)

-- a name under which something is found is one of the names
pub index_of : {A : Type 0} (n : List ℕ) (ps : List (List ℕ × A)) (a : A) → find n ps ≡ Some a → (i : ℕ) × (slice_get (map (λ p. p.0) ps) i ≡ Some n)
index_of n [] a e = absurd cc
index_of {A = A} n (p ∷ ps) a e =
    elim (eq_by_cmp name_cmp n p.0) as (λ b. eq_by_cmp name_cmp n p.0 ≡ b → cond b (Some p.1) (find n ps) ≡ Some a → (i : ℕ) × (slice_get (map (λ q. q.0) (p ∷ ps)) i ≡ Some n)) [
      | true ↦ λ same _. (zero, ap Some (sym (equal_names n p.0 (name_cmp n p.0) refl same)))
      | false ↦ λ _ later. let rest = index_of n ps a later in (suc rest.0, rest.1)
    ] refl e

-- under one of the names something is found
pub found_at : {A : Type 0} (ps : List (List ℕ × A)) (i : ℕ) (n : List ℕ) → slice_get (map (λ p. p.0) ps) i ≡ Some n → IsSome (find n ps)
found_at [] i n e = absurd cc
found_at (p ∷ ps) zero n e = ap (λ b. is_some (cond b (Some p.1) (find n ps))) (ap (eq_by_cmp name_cmp n) (same_Some p.0 n e) ∙ itself n)
found_at (p ∷ ps) (suc i) n e =
    elim (eq_by_cmp name_cmp n p.0) as (λ b. IsSome (cond b (Some p.1) (find n ps))) [ true ↦ refl | false ↦ found_at ps i n e ]

-- and it is one of those that there are
pub within : {A : Type 0} (ps : List (List ℕ × A)) (i : ℕ) (n : List ℕ) → slice_get (map (λ p. p.0) ps) i ≡ Some n → i < length ps
within [] i n e = absurd cc
within (p ∷ ps) zero n e = omega arith
within (p ∷ ps) (suc i) n e = let rest = within ps i n e in omega arith

-- ---- keys of a table

an_entry : (o : Option Entry) → IsSome (option_map part.Entry o) → (e : Entry) × (o ≡ Some e)
an_entry None there = absurd cc
an_entry (Some e) there = (e, refl)

as_part : (o : Option Entry) → IsSome o → IsSome (option_map part.Entry o)
as_part None there = absurd cc
as_part (Some e) there = refl

module _ (c : Config) (t : List ℕ) where
  -- the entry of a key stands in what may be the table
  abbrev IsIn : List ℕ → Option Table → Type 0
  IsIn k o = IsSome (option_and_then (λ table. option_map part.Entry (find k table)) o)

  pub key_there : (table : Table) → Some table ≡ find t c → (i : ℕ) (k : List ℕ) → slice_get (map (λ p. p.0) table) i ≡ Some k → HasPlace c (t ∷ k ∷ [])
  key_there table is i k e = subst (IsIn k) is (as_part (find k table) (found_at table i k e))

  -- what holds of each key at an index holds of each key
  pub all_keys : (Keeps : List ℕ → Type 0) (table : Table) → Some table ≡ find t c → ((i : ℕ) (k : List ℕ) → slice_get (map (λ p. p.0) table) i ≡ Some k → Keeps k)
      → KeepsKeysOf c t Keeps
  all_keys Keeps table is each k there =
      let entry = an_entry (find k table) (subst (IsIn k) (sym is) there) in
      let at = index_of k table entry.0 entry.1 in
      each at.0 k at.1

  pub no_keys : (Keeps : List ℕ → Type 0) → None ≡ find t c → KeepsKeysOf c t Keeps
  no_keys Keeps none k there = let nothing : IsIn k None = subst (IsIn k) (sym none) there in absurd cc
