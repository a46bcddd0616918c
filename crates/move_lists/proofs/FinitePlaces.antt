-- The places of a configuration are finitely many.
use Rattle.std.proofs.Common.{◌≡◌, ◌⊎◌, inl, inr, ℕ, zero, suc, List, [], ◌∷◌, Option, Some, None, IsSome, option_map, option_and_then, slice_get, refl, sym, ap, subst, ◌∙◌}
use Rattle.std.specs.List.{Contains}
use Rattle.conf_doc.specs.Changes.{part_at, HasPlace}
use Rattle.conf_doc.specs.Pairs.{find}
use Rattle.conf_doc.specs.declared.configuration.Config.{Config}
use Rattle.conf_doc.specs.declared.configuration.Entry.{Entry}
use Rattle.conf_doc.specs.declared.configuration.Table.{Table}
use Rattle.conf_doc.specs.declared.configuration.Value.{Value}
use Rattle.conf_doc.specs.declared.parts.Part.{Part}
use Rattle.conf_doc.specs.declared.parts.Part.TheVariants as part
use Rattle.conf_doc.proofs.Edits.{same_Some}
use Rattle.move_core.specs.Contexts.{field_names}
use Rattle.move_core.specs.Extensions.{upper}
use Rattle.move_core.specs.Moves.{Place}
use Rattle.move_lists.specs.Finite.{IsFinite}
use Rattle.move_lists.proofs.FiniteSets.{finite_either, finite_one, finite_some}
use Rattle.move_lists.proofs.Members.{first_member, later_member}
use Rattle.move_lists.proofs.RisingLists.{found_member}

-- ---- places

-- the place of a field of an entry
abbrev IsFieldOf : List ℕ → List ℕ → Entry → Place → Type 0
IsFieldOf t k e p = (f : List ℕ × Value) × Contains e f × (p ≡ t ∷ k ∷ f.0 ∷ [])

-- the place of an entry of a table, or of a field of it
abbrev IsEntryOf : List ℕ → List ℕ × Entry → Place → Type 0
IsEntryOf t e p = (p ≡ t ∷ e.0 ∷ []) ⊎ IsFieldOf t e.0 e.1 p

-- the place of a table, or of an entry or a field of it
abbrev IsTableOf : List ℕ × Table → Place → Type 0
IsTableOf t p = (p ≡ t.0 ∷ []) ⊎ ((e : List ℕ × Entry) × Contains t.1 e × IsEntryOf t.0 e p)

-- a place of a configuration
abbrev pub IsStanding : Config → Place → Type 0
IsStanding c p = (t : List ℕ × Table) × Contains c t × IsTableOf t p

pub finite_standing : (c : Config) → IsFinite (IsStanding c)
finite_standing c = finite_some IsTableOf c tables
  where
    fields : (t k : List ℕ) (e : Entry) → IsFinite (IsFieldOf t k e)
    fields t k e = finite_some (λ (f : List ℕ × Value) p. p ≡ t ∷ k ∷ f.0 ∷ []) e (λ f. finite_one (t ∷ k ∷ f.0 ∷ []))

    entries : (t : List ℕ) (e : List ℕ × Entry) → IsFinite (IsEntryOf t e)
    entries t e = finite_either (λ p. p ≡ t ∷ e.0 ∷ []) (IsFieldOf t e.0 e.1) (finite_one (t ∷ e.0 ∷ [])) (fields t e.0 e.1)

    tables : (t : List ℕ × Table) → IsFinite (IsTableOf t)
    tables t =
        finite_either (λ p. p ≡ t.0 ∷ []) (λ p. (e : List ℕ × Entry) × Contains t.1 e × IsEntryOf t.0 e p)
        (finite_one (t.0 ∷ [])) (finite_some (IsEntryOf t.0) t.1 (entries t.0))

-- the place above a place of a configuration is one
pub upper_standing : (c : Config) (p q : Place) → IsStanding c p → upper p ≡ Some q → IsStanding c q
upper_standing c p q (t, there, inl is) up = let h = sym (ap upper is) ∙ up in absurd (cc)
upper_standing c p q (t, there, inr (e, in_table, inl is)) up =
    (t, there, inl (sym (same_Some (t.0 ∷ []) q (sym (ap upper is) ∙ up))))
upper_standing c p q (t, there, inr (e, in_table, inr (f, in_entry, is))) up =
    (t, there, inr (e, in_table, inl (sym (same_Some (t.0 ∷ e.0 ∷ []) q (sym (ap upper is) ∙ up)))))

-- ---- what stands at places

-- what is made of something is made of it
of_some : {A B : Type 0} (f : A → B) (o : Option A) (b : B) → option_map f o ≡ Some b → (a : A) × (o ≡ Some a) × (f a ≡ b)
of_some f None b e = absurd (cc)
of_some f (Some a) b e = (a, refl, same_Some (f a) b e)

then_some : {A B : Type 0} (f : A → Option B) (o : Option A) (b : B) → option_and_then f o ≡ Some b → (a : A) × (o ≡ Some a) × (f a ≡ Some b)
then_some f None b e = absurd (cc)
then_some f (Some a) b e = (a, refl, e)

same_entry : (d e : Entry) → part.Entry d ≡ part.Entry e → d ≡ e
same_entry d e is = cc

-- an entry that stands at a place is found by its names
pub entry_found : (c : Config) (t k : List ℕ) (e : Entry) → part_at c (t ∷ k ∷ []) ≡ Some (part.Entry e)
    → (table : Table) × (find t c ≡ Some table) × (find k table ≡ Some e)
entry_found c t k e is =
    let table = then_some (λ (u : Table). option_map part.Entry (find k u)) (find t c) (part.Entry e) is in
    let entry = of_some part.Entry (find k table.0) (part.Entry e) table.2 in
    (table.0, table.1, entry.1 ∙ ap Some (same_entry entry.0 e entry.2))

-- where something stands is a place of the configuration
pub part_standing : (c : Config) (p : Place) (x : Part) → part_at c p ≡ Some x → IsStanding c p
part_standing c [] x is = absurd (cc)
part_standing c (t ∷ []) x is =
    let table = of_some part.Table (find t c) x is in
    ((t, table.0), found_member c t table.0 table.1, inl refl)
part_standing c (t ∷ k ∷ []) x is =
    let table = then_some (λ (u : Table). option_map part.Entry (find k u)) (find t c) x is in
    let entry = of_some part.Entry (find k table.0) x table.2 in (
      (t, table.0),
      found_member c t table.0 table.1,
      inr ((k, entry.0), found_member table.0 k entry.0 entry.1, inl refl),
    )
part_standing c (t ∷ k ∷ f ∷ []) x is =
    let table = then_some (λ (u : Table). option_and_then (λ (e : Entry). option_map part.Value (find f e)) (find k u)) (find t c) x is in
    let entry = then_some (λ (e : Entry). option_map part.Value (find f e)) (find k table.0) x table.2 in
    let value = of_some part.Value (find f entry.0) x entry.2 in (
      (t, table.0),
      found_member c t table.0 table.1,
      inr (
        (k, entry.0),
        found_member table.0 k entry.0 entry.1,
        inr ((f, value.0), found_member entry.0 f value.0 value.1, refl),
      ),
    )
part_standing c (t ∷ k ∷ f ∷ n ∷ ns) x is = absurd (cc)

pub has_standing : (c : Config) (p : Place) → HasPlace c p → IsStanding c p
has_standing c p has = by (part_at c p) refl
  where
    by : (o : Option Part) → part_at c p ≡ o → IsStanding c p
    by None e = let h = sym (ap (λ o. IsSome o) e) in absurd (no (subst IsSome e has))
      where
        no : IsSome {T = Part} None → ⊥
        no h = cc
    by (Some x) e = part_standing c p x e

-- ---- places by positions

pub member_at : {A : Type 0} (xs : List A) (i : ℕ) (x : A) → slice_get xs i ≡ Some x → Contains xs x
member_at [] i x e = absurd (cc)
member_at (y ∷ ys) zero x e = subst (Contains (y ∷ ys)) (same_Some y x e) (first_member y ys)
member_at (y ∷ ys) (suc i) x e = later_member y ys x (member_at ys i x e)

-- the place that positions give is a place of the configuration
pub named_standing : (c : Config) (i j : ℕ) (field : Option ℕ) (p : Place)
    → option_and_then (λ (t : List ℕ × Table).
    option_and_then (λ (e : List ℕ × Entry).
    option_map (λ f. t.0 ∷ e.0 ∷ f) (field_names e.1 field))
    (slice_get t.1 j)) (slice_get c i) ≡ Some p
    → IsStanding c p
named_standing c i j field p is =
    let t = then_some (λ (u : List ℕ × Table).
    option_and_then (λ (d : List ℕ × Entry). option_map (λ f. u.0 ∷ d.0 ∷ f) (field_names d.1 field)) (slice_get u.1 j))
    (slice_get c i) p is in
    let e = then_some (λ (d : List ℕ × Entry). option_map (λ f. t.0.0 ∷ d.0 ∷ f) (field_names d.1 field)) (slice_get t.0.1 j) p t.2 in
    let f = of_some (λ f. t.0.0 ∷ e.0.0 ∷ f) (field_names e.0.1 field) p e.2 in
    (t.0, member_at c i t.0 t.1, inr (e.0, member_at t.0.1 j e.0 e.1, by t.0.0 e.0 field f.0 f.1 f.2))
  where
    by : (t : List ℕ) (e : List ℕ × Entry) (at : Option ℕ) (f : List (List ℕ)) → field_names e.1 at ≡ Some f → t ∷ e.0 ∷ f ≡ p → IsEntryOf t e p
    by t e None f named whole = inl (sym (ap (λ g. t ∷ e.0 ∷ g) (same_Some [] f named) ∙ whole))
    by t e (Some k) f named whole =
        let g = of_some (λ (d : List ℕ × Value). d.0 ∷ []) (slice_get e.1 k) f named in
        inr (g.0, member_at e.1 k g.0 g.1, sym (ap (λ h. t ∷ e.0 ∷ h) g.2 ∙ whole))
