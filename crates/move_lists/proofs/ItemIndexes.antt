-- The indexes of items of lists of a configuration are finitely many.
use Rattle.std.proofs.Common.{◌≡◌, ◌⊎◌, inl, inr, ℕ, zero, suc, ◌<◌, ◌≤◌, List, [], ◌∷◌, length, Some, subst, arith}
use Rattle.std.specs.List.{Contains}
use Rattle.conf_doc.specs.declared.configuration.Config.{Config}
use Rattle.conf_doc.specs.declared.configuration.Entry.{Entry}
use Rattle.conf_doc.specs.declared.configuration.Table.{Table}
use Rattle.conf_doc.specs.declared.configuration.Value.{Value}
use Rattle.conf_doc.specs.declared.configuration.Value.TheVariants.{List as Listed}
use Rattle.move_core.specs.Moves.{Place, list_at}
use Rattle.move_core.proofs.OperationResults.{list_names}
use Rattle.move_core.proofs.WantedItems.{HasTextAt, texts_in}
use Rattle.move_lists.specs.Finite.{IsFinite}
use Rattle.move_lists.proofs.FiniteSets.{finite_some}
use Rattle.move_lists.proofs.Members.{first_member, later_member}
use Rattle.move_lists.proofs.RisingLists.{found_member}
use Rattle.move_lists.proofs.FinitePlaces.{member_at}

-- ---- numbers below one

order : (a b : ℕ) → (a < b) ⊎ (b ≤ a)
order zero zero = inr (omega arith)
order zero (suc b) = inl (omega arith)
order (suc a) zero = inr (omega arith)
order (suc a) (suc b) = lifted (order a b)
  where
    lifted : (a < b) ⊎ (b ≤ a) → (suc a < suc b) ⊎ (suc b ≤ suc a)
    lifted (inl less) = inl (omega arith)
    lifted (inr rest) = inr (omega arith)

abbrev below : ℕ → List ℕ
below zero = []
below (suc n) = n ∷ below n

is_below : (n i : ℕ) → i < n → Contains (below n) i
is_below zero i less = absurd (omega arith)
is_below (suc n) i less = by (is_below n i) (order i n)
  where
    by : (i < n → Contains (below n) i) → (i < n) ⊎ (n ≤ i) → Contains (below (suc n)) i
    by rest (inl before) = later_member n (below n) i (rest before)
    by rest (inr past) = let same : n ≡ i = omega arith in subst (Contains (below (suc n))) same (first_member n (below n))

finite_below : (n : ℕ) → IsFinite (λ i. i < n)
finite_below n = (below n, is_below n)

-- ---- indexes

abbrev IsOfField : List ℕ × Value → ℕ → Type 0
IsOfField f i = i < length (texts_in f.1)

abbrev IsOfEntry : List ℕ × Entry → ℕ → Type 0
IsOfEntry e i = (f : List ℕ × Value) × Contains e.1 f × IsOfField f i

abbrev IsOfTable : List ℕ × Table → ℕ → Type 0
IsOfTable t i = (e : List ℕ × Entry) × Contains t.1 e × IsOfEntry e i

-- some value of the configuration has a text at the index
abbrev pub IsIndexOf : Config → ℕ → Type 0
IsIndexOf c i = (t : List ℕ × Table) × Contains c t × IsOfTable t i

pub finite_indexes : (c : Config) → IsFinite (IsIndexOf c)
finite_indexes c =
    finite_some IsOfTable c
    (λ t. finite_some IsOfEntry t.1 (λ e. finite_some IsOfField e.1 (λ f. finite_below (length (texts_in f.1)))))

-- an item of a list that stands at a place
pub index_at : (c : Config) (p : Place) (items : List (List ℕ)) (i : ℕ) → list_at c p ≡ Some items → i < length items → IsIndexOf c i
index_at c p items i is within =
    let at = list_names c p items is in
    let found = at.found in (
      (at.table, found.table),
      found_member c at.table found.table found.at_table,
      (
        (at.key, found.entry),
        found_member found.table at.key found.entry found.at_entry,
        ((at.field, Listed items), found_member found.entry at.field (Listed items) found.at_field, within),
      ),
    )

-- ---- wants

-- the text that has it
pub text_index : (c : Config) (i : ℕ) → HasTextAt c i → IsIndexOf c i
text_index c i has = (
  has.t,
  member_at c has.table has.t has.is_table,
  (has.e, member_at has.t.1 has.key has.e has.is_entry, (has.f, member_at has.e.1 has.field has.f has.is_field, has.within)),
)
