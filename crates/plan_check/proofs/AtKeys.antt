-- The entries that a move leaves as they were, and what stands at their places.
use Rattle.std.proofs.Common.{◌≡◌, ℕ, zero, suc, List, [], ◌∷◌, Bool, true, false, cond, map, slice_get, Contains, Option, Some, None, option_map, option_and_then, IsSome, ◌⊎◌, inl, inr, refl, sym, ap, ◌∙◌, subst, arith}
use Rattle.std.specs.Ordering.{eq_by_cmp}
use Rattle.host_core.specs.Names.{name_cmp}
use Rattle.conf_doc.specs.Changes.{entry_at, part_at, value_at, with_part, HasPlace}
use Rattle.conf_doc.specs.Pairs.{find}
use Rattle.conf_doc.specs.declared.configuration.Config.{Config}
use Rattle.conf_doc.specs.declared.configuration.Entry.{Entry}
use Rattle.conf_doc.specs.declared.configuration.Table.{Table}
use Rattle.conf_doc.specs.declared.parts.Part.TheVariants as part
use Rattle.move_core.specs.Moves.{Place, part_after, place, step}
use Rattle.move_core.specs.Services.{table_of}
use Rattle.move_core.specs.declared.moves.Move.{Move}
use Rattle.plan_check.proofs.UntouchedPlaces.{apart_by, other_key, other_table, same_by, tied}

-- ---- keys

-- a key of the pairs is found
pub key_found : {A : Type 0} (k : List ℕ) (ps : List (List ℕ × A)) → Contains (map (λ e. e.0) ps) k → IsSome (find k ps)
key_found k [] has = absurd (omega (arith, has.1))
key_found k (p ∷ ps) (zero, below, is) =
    subst (λ b. IsSome (cond b (Some p.1) (find k ps))) (sym (ap (eq_by_cmp name_cmp k) is ∙ tied k)) refl
key_found k (p ∷ ps) (suc i, below, is) = by (eq_by_cmp name_cmp k p.0) (key_found k ps (i, omega arith, is))
  where
    by : (b : Bool) → IsSome (find k ps) → IsSome (cond b (Some p.1) (find k ps))
    by true rest = refl
    by false rest = rest

-- what is found has its key among the pairs
pub found_key : {A : Type 0} (k : List ℕ) (ps : List (List ℕ × A)) → IsSome (find k ps) → Contains (map (λ e. e.0) ps) k
found_key k [] some = absurd cc
found_key k (p ∷ ps) some =
    elim (eq_by_cmp name_cmp k p.0) as (λ b. eq_by_cmp name_cmp k p.0 ≡ b → IsSome (cond b (Some p.1) (find k ps)) → Contains (map (λ e. e.0) (p ∷ ps)) k) [
      | true ↦ λ e _. (zero, omega arith, sym (same_by k p.0 e))
      | false ↦ λ e there. let rest = found_key k ps there in (suc rest.0, omega (arith, rest.1), rest.2)
    ] refl some

-- ---- parts

entry_part : (k : List ℕ) (o : Option Table) → option_and_then (λ table. option_map part.Entry (find k table)) o ≡ option_map part.Entry (option_and_then (find k) o)
entry_part k None = refl
entry_part k (Some table) = refl

field_part : (k f : List ℕ) (o : Option Table)
    → option_and_then (λ table. option_and_then (λ entry. option_map part.Value (find f entry)) (find k table)) o
    ≡ option_and_then (λ entry. option_map part.Value (find f entry)) (option_and_then (find k) o)
field_part k f None = refl
field_part k f (Some table) = refl

pub same_entry : (a b : Config) (t k : List ℕ) → entry_at a t k ≡ entry_at b t k → part_at a (t ∷ k ∷ []) ≡ part_at b (t ∷ k ∷ [])
same_entry a b t k e = entry_part k (find t a) ∙ ap (option_map part.Entry) e ∙ sym (entry_part k (find t b))

pub same_field : (a b : Config) (t k f : List ℕ) → entry_at a t k ≡ entry_at b t k → part_at a (t ∷ k ∷ f ∷ []) ≡ part_at b (t ∷ k ∷ f ∷ [])
same_field a b t k f e =
    field_part k f (find t a) ∙ ap (option_and_then (λ entry. option_map part.Value (find f entry))) e ∙ sym (field_part k f (find t b))

value_part : (f : List ℕ) (o : Option Entry) → option_and_then (λ entry. option_map part.Value (find f entry)) o ≡ option_map part.Value (option_and_then (find f) o)
value_part f None = refl
value_part f (Some entry) = refl

pub same_value : (a b : Config) (t k f : List ℕ) → value_at a t k f ≡ value_at b t k f → part_at a (t ∷ k ∷ f ∷ []) ≡ part_at b (t ∷ k ∷ f ∷ [])
same_value a b t k f e = of_value a ∙ ap (option_map part.Value) e ∙ sym (of_value b)
  where
    of_value : (c : Config) → part_at c (t ∷ k ∷ f ∷ []) ≡ option_map part.Value (value_at c t k f)
    of_value c = field_part k f (find t c) ∙ value_part f (entry_at c t k)

mapped_some : (o : Option Entry) → IsSome (option_map part.Entry o) → IsSome o
mapped_some None h = h
mapped_some (Some e) h = refl

pub there : (c : Config) (t k : List ℕ) → HasPlace c (t ∷ k ∷ []) → IsSome (entry_at c t k)
there c t k has = mapped_some (entry_at c t k) (subst IsSome (entry_part k (find t c)) has)

some_mapped : (o : Option Entry) → IsSome o → IsSome (option_map part.Entry o)
some_mapped None h = h
some_mapped (Some e) h = refl

pub stands : (c : Config) (t k : List ℕ) → IsSome (entry_at c t k) → HasPlace c (t ∷ k ∷ [])
stands c t k has = subst IsSome (sym (entry_part k (find t c))) (some_mapped (entry_at c t k) has)

-- ---- what a move leaves

-- an entry is as it was, or it lies in the move's table
pub by_table : (cur next : Config) (m : Move) (t : List ℕ) → next ≡ step cur m → t ≡ table_of (place m) → (u k : List ℕ) → (entry_at cur u k ≡ entry_at next u k) ⊎ (u ≡ t)
by_table cur next m t is at u k =
    elim (eq_by_cmp name_cmp u t) as (λ b. eq_by_cmp name_cmp u t ≡ b → (entry_at cur u k ≡ entry_at next u k) ⊎ (u ≡ t)) [
      | true ↦ λ e. inr (same_by u t e)
      | false ↦ λ e.
          inl (sym (ap (option_and_then (find k))
          (ap (find u) is ∙ other_table cur (place m) (part_after cur m) u (λ same. apart_by u t e (same ∙ sym at)))))
    ] refl

-- the second name of a place
abbrev pub HasKeyName : Place → List ℕ → Type 0
HasKeyName p k = (t : List ℕ) × (rest : Place) × (p ≡ t ∷ k ∷ rest)

-- where the place names a key, an entry of the move's table is as it was, or it is that key's
pub by_key : (cur next : Config) (m : Move) (t k : List ℕ) → next ≡ step cur m → t ≡ table_of (place m) → HasKeyName (place m) k → (key : List ℕ)
    → (entry_at cur t key ≡ entry_at next t key) ⊎ (key ≡ k)
by_key cur next m t k is at named key =
    elim (eq_by_cmp name_cmp key k) as (λ b. eq_by_cmp name_cmp key k ≡ b → (entry_at cur t key ≡ entry_at next t key) ⊎ (key ≡ k)) [
      | true ↦ λ e. inr (same_by key k e)
      | false ↦ λ e.
          let first : t ≡ named.0 = at ∙ ap table_of named.2 in
          let left : entry_at (step cur m) named.0 key ≡ entry_at cur named.0 key =
          subst (λ p. entry_at (with_part cur p (part_after cur m)) named.0 key ≡ entry_at cur named.0 key) (sym named.2)
          (other_key cur named.0 k named.1 (part_after cur m) key (apart_by key k e)) in
          inl (subst (λ u. entry_at cur u key ≡ entry_at next u key) (sym first) (sym (ap (λ c. entry_at c named.0 key) is ∙ left)))
    ] refl

-- the name at index 1
pub second_name : (p : Place) (k : List ℕ) → slice_get p 1 ≡ Some k → HasKeyName p k
second_name [] k e = absurd cc
second_name (t ∷ []) k e = absurd cc
second_name (t ∷ j ∷ rest) k e = (t, rest, ap (λ n. t ∷ n ∷ rest) (same_Some j k e))
  where
    same_Some : {A : Type 0} (x y : A) → Some x ≡ Some y → x ≡ y
    same_Some x y e = cc
