-- What stands at places of two and of three names.
use Rattle.std.proofs.Common.{◌≡◌, ℕ, List, [], ◌∷◌, refl, sym, ap, subst, ◌∙◌}
use Rattle.std.specs.Prelude.{Option, Some, None, option_map, option_and_then, IsSome}
use Rattle.conf_doc.specs.Changes.{part_at, HasPlace}
use Rattle.conf_doc.specs.Pairs.{find}
use Rattle.conf_doc.specs.declared.configuration.Config.{Config}
use Rattle.conf_doc.specs.declared.configuration.Entry.{Entry}
use Rattle.conf_doc.specs.declared.configuration.Table.{Table}
use Rattle.conf_doc.specs.declared.configuration.Value.{Value}
use Rattle.conf_doc.specs.declared.parts.Part.{Part}
use Rattle.conf_doc.specs.declared.parts.Part.TheVariants as part
use Rattle.move_core.specs.Moves.{Lacks}
use Rattle.move_gen.proofs.OwnPlaces.{mapped_as, mapped_some}

-- an entry stands in a table
pub record IsEntryAt (c : Config) (t k : List ℕ) (e : Entry) : Type 0 where
  pub table : Table
  pub there : find t c ≡ Some table
  pub is : find k table ≡ Some e

in_table : (c : Config) (t k : List ℕ) (e : Entry) (o : Option Table) → find t c ≡ o → option_and_then (λ table. option_map part.Entry (find k table)) o ≡ Some (part.Entry e) → IsEntryAt c t k e
in_table c t k e None there is = cc
in_table c t k e (Some table) there is = record { table = table; there = there; is = unmapped (find k table) is }
  where
    unmapped : (p : Option Entry) → option_map part.Entry p ≡ Some (part.Entry e) → p ≡ Some e
    unmapped None is = cc
    unmapped (Some x) is = cc

-- what stands at a place of two names
pub entry_there : (c : Config) (t k : List ℕ) (e : Entry) → part_at c (t ∷ k ∷ []) ≡ Some (part.Entry e) → IsEntryAt c t k e
entry_there c t k e is = in_table c t k e (find t c) refl is

pub there_entry : (c : Config) (t k : List ℕ) (e : Entry) → IsEntryAt c t k e → part_at c (t ∷ k ∷ []) ≡ Some (part.Entry e)
there_entry c t k e at = ap (option_and_then (λ table. option_map part.Entry (find k table))) at.there ∙ ap (option_map part.Entry) at.is

some_in : (c : Config) (t k : List ℕ) (o : Option Table) → find t c ≡ o → IsSome (option_and_then (λ table. option_map part.Entry (find k table)) o) → (e : Entry) × IsEntryAt c t k e
some_in c t k None there is = absurd cc
some_in c t k (Some table) there is = let at = inside (find k table) refl is in (at.0, record { table = table; there = there; is = at.1 })
  where
    inside : (p : Option Entry) → find k table ≡ p → IsSome (option_map part.Entry p) → (e : Entry) × (find k table ≡ Some e)
    inside None same is = absurd cc
    inside (Some e) same is = (e, same)

-- something stands there
pub some_there : (c : Config) (t k : List ℕ) → HasPlace c (t ∷ k ∷ []) → (e : Entry) × IsEntryAt c t k e
some_there c t k is = some_in c t k (find t c) refl is

entry_mapped : (k : List ℕ) (o : Option Table) → option_map part.Entry (option_and_then (find k) o) ≡ option_and_then (λ table. option_map part.Entry (find k table)) o
entry_mapped k None = refl
entry_mapped k (Some table) = refl

-- what a key finds in the table of a name stands at the place of both
pub found_there : (c : Config) (t k : List ℕ) (table : Option Table) (e : Option Entry) → e ≡ option_and_then (find k) table → table ≡ find t c
    → option_map part.Entry e ≡ part_at c (t ∷ k ∷ [])
found_there c t k table e found of =
    ap (option_map part.Entry) found ∙ ap (λ o. option_map part.Entry (option_and_then (find k) o)) of ∙ entry_mapped k (find t c)

-- ---- fields

-- what stands at a field of an entry
pub value_in : (c : Config) (t k f : List ℕ) (e : Entry) → IsEntryAt c t k e → part_at c (t ∷ k ∷ f ∷ []) ≡ option_map part.Value (find f e)
value_in c t k f e at =
    ap (option_and_then (λ table. option_and_then (λ entry. option_map part.Value (find f entry)) (find k table))) at.there
    ∙ ap (option_and_then (λ entry. option_map part.Value (find f entry))) at.is

-- a field that is there lies in an entry
has_entry : (c : Config) (t k f : List ℕ) (o : Option Table) → find t c ≡ o → IsSome (option_and_then (λ table. option_and_then (λ entry. option_map part.Value (find f entry)) (find k table)) o) → (e : Entry) × IsEntryAt c t k e
has_entry c t k f None there is = absurd cc
has_entry c t k f (Some table) there is = let at = inside (find k table) refl is in (at.0, record { table = table; there = there; is = at.1 })
  where
    inside : (p : Option Entry) → find k table ≡ p → IsSome (option_and_then (λ entry. option_map part.Value (find f entry)) p) → (e : Entry) × (find k table ≡ Some e)
    inside None same is = absurd cc
    inside (Some e) same is = (e, same)

-- a value stands in an entry
pub record IsValueAt (c : Config) (t k f : List ℕ) (v : Value) : Type 0 where
  pub entry : Entry
  pub at : IsEntryAt c t k entry
  pub is : find f entry ≡ Some v

pub some_value : (c : Config) (t k f : List ℕ) → HasPlace c (t ∷ k ∷ f ∷ []) → (v : Value) × IsValueAt c t k f v
some_value c t k f has =
    let e = has_entry c t k f (find t c) refl has in
    let v = mapped_some part.Value (find f e.0) (subst IsSome (value_in c t k f e.0 e.1) has) in
    (v.0, record { entry = e.0; at = e.1; is = v.1 })

pub value_there : (c : Config) (t k f : List ℕ) (x : Part) → part_at c (t ∷ k ∷ f ∷ []) ≡ Some x → (v : Value) × (x ≡ part.Value v) × IsValueAt c t k f v
value_there c t k f x is =
    let e = has_entry c t k f (find t c) refl (subst IsSome (sym is) refl) in
    let v = mapped_as part.Value (find f e.0) x (sym (value_in c t k f e.0 e.1) ∙ is) in
    (v.0, v.2, record { entry = e.0; at = e.1; is = v.1 })

-- nothing stands there
pub no_value : (c : Config) (t k f : List ℕ) (e : Entry) → IsEntryAt c t k e → Lacks c (t ∷ k ∷ f ∷ []) → find f e ≡ None
no_value c t k f e at lacks = unmapped (find f e) (sym (value_in c t k f e at) ∙ lacks)
  where
    unmapped : (o : Option Value) → option_map part.Value o ≡ None → o ≡ None
    unmapped None is = refl
    unmapped (Some v) is = cc

pub lacks_value : (c : Config) (t k f : List ℕ) (e : Entry) → IsEntryAt c t k e → find f e ≡ None → Lacks c (t ∷ k ∷ f ∷ [])
lacks_value c t k f e at none = value_in c t k f e at ∙ ap (option_map part.Value) none

pub there_value : (c : Config) (t k f : List ℕ) (e : Entry) (v : Value) → IsEntryAt c t k e → find f e ≡ Some v → part_at c (t ∷ k ∷ f ∷ []) ≡ Some (part.Value v)
there_value c t k f e v at is = value_in c t k f e at ∙ ap (option_map part.Value) is
