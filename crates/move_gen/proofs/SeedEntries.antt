-- A seed is made field by field, and there is one; so there is one entry that is added.
use Rattle.std.proofs.Common.{◌≡◌, ◌↔◌, ◌⊎◌, ◌≤◌, ℕ, ◌+◌, List, [], ◌∷◌, length, map, slice_get, true, false, cond, Some, inl, inr, refl, sym, ap, ◌∙◌, subst}
use Rattle.std.specs.FinMap.Entries.{find-put}
use Rattle.std.specs.Ordering.{eq_by_cmp}
use Rattle.std.specs.Cmp.Lexicographic.{nat_list_cmp_total}
use Rattle.host_core.specs.Names.{name_cmp}
use Rattle.conf_doc.specs.Pairs.{IsRising, find, put}
use Rattle.conf_doc.specs.declared.configuration.Config.{Config}
use Rattle.conf_doc.specs.declared.configuration.Entry.{Entry}
use Rattle.conf_doc.specs.declared.configuration.Value.{Value}
use Rattle.conf_doc.proofs.Edits.{rising_put}
use Rattle.move_core.specs.Contexts.{rulebook}
use Rattle.move_core.specs.Generated.{HasNoWant, IsSeed}
use Rattle.move_core.specs.Rulebook.{Rulebook}
use Rattle.move_gen.specs.Adding.{IsAs}
use Rattle.move_gen.specs.Choosing.{IsPair, IsSeedOfFirst}
use Rattle.move_gen.specs.FieldWants.{AreFree}
use Rattle.move_gen.specs.declared.adding.Fields.{Fields}
use Rattle.move_gen.specs.declared.adding.Fields.TheVariants.{All, Seed}
use Rattle.move_gen.specs.Giving.{IsOfFirst, IsOfSome}
use Rattle.move_gen.proofs.SamePairs.{same_pairs}
use Rattle.move_gen.proofs.Walks.{first_all, first_apart, first_more, itself, same_by}

same_Some : {A : Type 0} (x y : A) → Some x ≡ Some y → x ≡ y
same_Some x y e = cc

pair_told : (n : List ℕ) (a : Value) (p : List ℕ × Value) → IsPair n a p → Some p.0 ≡ Some n
pair_told n a p is = ap (λ (q : List ℕ × Value). Some q.0) is

module _ (book : Rulebook) (goal : Config) (t k : List ℕ) (e : Entry) (rising : IsRising e) (i : ℕ) (n : List ℕ) (a : Value)
    (named : slice_get (map (λ p. p.0) e) i ≡ Some n) (there : slice_get (map (λ p. p.1) e) i ≡ Some a) (seed : Entry) (so_far : IsSeedOfFirst book goal t k e i seed) where
  -- one of the first fields, or the next
  more : (f : List ℕ) (v : Value) → IsOfFirst IsPair e (i + 1) (f, v) ↔ (IsOfFirst IsPair e i (f, v) ⊎ IsPair n a (f, v))
  more f v = first_more IsPair e i n a named there (f, v)

  -- the next isn't one of the first
  apart : (f : List ℕ) (v : Value) → f ≡ n → IsOfFirst IsPair e i (f, v) → ⊥
  apart f v same first = first_apart IsPair e (λ p. Some p.0) pair_told rising i n v named (f, v) first (λ j. (same j, v))

  -- the next has no want
  module _ (free : HasNoWant book goal (t ∷ k ∷ n ∷ [])) where
    found : (f : List ℕ) → find f (put n a seed) ≡ cond (eq_by_cmp name_cmp f n) (Some a) (find f seed)
    found f = find-put name_cmp nat_list_cmp_total f n a seed

    forth : (f : List ℕ) (v : Value) → find f (put n a seed) ≡ Some v → IsOfFirst IsPair e (i + 1) (f, v) × HasNoWant book goal (t ∷ k ∷ f ∷ [])
    forth f v is =
        elim (eq_by_cmp name_cmp f n) as (λ b. eq_by_cmp name_cmp f n ≡ b → cond b (Some a) (find f seed) ≡ Some v → IsOfFirst IsPair e (i + 1) (f, v) × HasNoWant book goal (t ∷ k ∷ f ∷ [])) [
          | true ↦ λ same at.
              let name : f ≡ n = same_by f n same in
              ((more f v).1 (inr (λ j. (name j, same_Some v a (sym at) j))), subst (λ m. HasNoWant book goal (t ∷ k ∷ m ∷ [])) (sym name) free)
          | false ↦ λ other at. let h = (so_far.fields f v).0 at in ((more f v).1 (inl h.0), h.1)
        ] refl (sym (found f) ∙ is)

    back : (f : List ℕ) (v : Value) → IsOfFirst IsPair e (i + 1) (f, v) → HasNoWant book goal (t ∷ k ∷ f ∷ []) → find f (put n a seed) ≡ Some v
    back f v first none = found f ∙ by ((more f v).0 first)
      where
        by : IsOfFirst IsPair e i (f, v) ⊎ IsPair n a (f, v) → cond (eq_by_cmp name_cmp f n) (Some a) (find f seed) ≡ Some v
        by (inl h) =
            elim (eq_by_cmp name_cmp f n) as (λ b. eq_by_cmp name_cmp f n ≡ b → cond b (Some a) (find f seed) ≡ Some v) [
              | true ↦ λ same. absurd (apart f v (same_by f n same) h)
              | false ↦ λ other. (so_far.fields f v).1 (h, none)
            ] refl
        by (inr p) =
            ap (λ b. cond b (Some a) (find f seed)) (itself f n (ap (λ (q : List ℕ × Value). q.0) p)) ∙ ap Some (sym (ap (λ (q : List ℕ × Value). q.1) p))

    pub seed_with : IsSeedOfFirst book goal t k e (i + 1) (put n a seed)
    seed_with = record { rising = rising_put seed n a so_far.rising; fields = λ f v. (forth f v, λ h. back f v h.0 h.1) }

  -- it has one
  pub seed_without : ¬ HasNoWant book goal (t ∷ k ∷ n ∷ []) → IsSeedOfFirst book goal t k e (i + 1) seed
  seed_without wanted = record { rising = so_far.rising; fields = λ f v. (λ is. let h = (so_far.fields f v).0 is in ((more f v).1 (inl h.0), h.1), λ h. by f v ((more f v).0 h.0) h.1) }
    where
      by : (f : List ℕ) (v : Value) → IsOfFirst IsPair e i (f, v) ⊎ IsPair n a (f, v) → HasNoWant book goal (t ∷ k ∷ f ∷ []) → find f seed ≡ Some v
      by f v (inl h) none = (so_far.fields f v).1 (h, none)
      by f v (inr p) none = absurd (wanted (subst (λ m. HasNoWant book goal (t ∷ k ∷ m ∷ [])) (ap (λ (q : List ℕ × Value). q.0) p) none))

-- at the end all fields were seen
pub seed_ends : (book : Rulebook) (goal : Config) (t k : List ℕ) (e : Entry) → IsRising e → (i : ℕ) → length e ≤ i → (seed : Entry) → IsSeedOfFirst book goal t k e i seed → IsSeed book goal t k e seed
seed_ends book goal t k e rising i end seed h = record { rising = h.rising; fields = λ f v. (λ is. let g = (h.fields f v).0 is in (field_of f v ((all f v).0 g.0), g.1), λ g. (h.fields f v).1 ((all f v).1 (of_field f v g.0), g.1)) }
  where
    all : (f : List ℕ) (v : Value) → IsOfFirst IsPair e i (f, v) ↔ IsOfSome IsPair e (f, v)
    all f v = first_all IsPair e i rising end (f, v)

    field_of : (f : List ℕ) (v : Value) → IsOfSome IsPair e (f, v) → find f e ≡ Some v
    field_of f v h = ap (λ (q : List ℕ × Value). find q.0 e) h.is ∙ h.there ∙ ap (λ (q : List ℕ × Value). Some q.1) (sym h.is)

    of_field : (f : List ℕ) (v : Value) → find f e ≡ Some v → IsOfSome IsPair e (f, v)
    of_field f v is = record { name = f; part = v; there = is; is = refl }

-- where no field has a want the entry is its seed
pub whole_seed : (book : Rulebook) (goal : Config) (t k : List ℕ) (e : Entry) → IsRising e → AreFree book goal t k → IsSeed book goal t k e e
whole_seed book goal t k e rising free = record { rising = rising; fields = λ f v. (λ is. (is, free f), λ both. both.0) }

-- two seeds of an entry are one
pub same_seed : (book : Rulebook) (goal : Config) (t k : List ℕ) (e x y : Entry) → IsSeed book goal t k e x → IsSeed book goal t k e y → x ≡ y
same_seed book goal t k e x y one two =
    same_pairs x y one.rising two.rising
    (λ f v. (λ is. (two.fields f v).1 ((one.fields f v).0 is), λ is. (one.fields f v).1 ((two.fields f v).0 is)))

-- and so it is of the entry that is added
pub one_entry : (fields : Fields) (t k : List ℕ) (e x y : Entry) → IsAs fields t k e x → IsAs fields t k e y → x ≡ y
one_entry All t k e x y one two = one ∙ sym two
one_entry (Seed ctx goal) t k e x y one two = same_seed (rulebook ctx.now) goal.now t k e x y one two
