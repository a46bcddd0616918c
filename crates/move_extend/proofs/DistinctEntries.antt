-- What one entry gives is given by no other.
use Rattle.std.proofs.Common.{◌≡◌, inl, inr, ℕ, List, [], ◌∷◌, map, get_or, slice_get, Option, Some, None, option_map, option_and_then, refl, sym, ap, ◌∙◌, arith}
use Rattle.std.proofs.lemmas.List.Elements.{All-contains, Contains-get_or}
use Rattle.std.proofs.lemmas.Option.{slice_get-map}
use Rattle.conf_doc.specs.Pairs.{IsRising}
use Rattle.conf_doc.specs.declared.configuration.Table.{Table}
use Rattle.conf_doc.proofs.Edits.{same_Some, first_from_at}
use Rattle.move_core.specs.Contexts.{field_names, item_at as item_number}
use Rattle.move_core.specs.Extensions.{removal}
use Rattle.move_core.specs.Moves.{Place, place}
use Rattle.move_core.specs.declared.moves.Move.{Move}
use Rattle.move_extend.specs.Found.{Finds, HasNone}
use Rattle.move_extend.specs.Mentions.{GivesOfEntry, GivesOfTable}
use Rattle.move_extend.specs.declared.changes.Change.{Change}
use Rattle.move_extend.proofs.DistinctLists.{GivenBefore, item_at}
use Rattle.move_extend.proofs.Names.{entry_names, table_names}

-- a name stands at one position
name_once : {A : Type 0} (ps : List (List ℕ × A)) (i j : ℕ) (k : List ℕ) → IsRising ps → slice_get (map (λ p. p.0) ps) i ≡ Some k → slice_get (map (λ p. p.0) ps) j ≡ Some k → i ≡ j
name_once ps i j k rising at there = first_from_at ps k i rising at ∙ sym (first_from_at ps k j rising there)

-- the names of the entry stand at the head of the place of what it gives
record IsOfEntry (u k : List ℕ) (x : Move) : Type 0 where
  table : slice_get (place x) 0 ≡ Some u
  key : slice_get (place x) 1 ≡ Some k

removal_place : (p : Place) (o : Option ℕ) → place (removal p o) ≡ p
removal_place p None = refl
removal_place p (Some i) = refl

of_names : (u k : List ℕ) (x : Move) (p : Place) (o : Option Place) → place x ≡ p → option_map (λ n. u ∷ k ∷ n) o ≡ Some p → IsOfEntry u k x
of_names u k x p None moved is = cc
of_names u k x p (Some n) moved is =
    let same : place x ≡ u ∷ k ∷ n = moved ∙ sym (same_Some (u ∷ k ∷ n) p is) in
    record { table = ap (λ q. slice_get q 0) same; key = ap (λ q. slice_get q 1) same }

of_entry : (c : Change) (t u k : List ℕ) (x : Move) → GivesOfEntry c t u k x → IsOfEntry u k x
of_entry c t u k x gives =
    let given = gives.given in
    let at = gives.at in
    of_names u k x given.place (field_names at.fields given.at.field)
    (ap place given.move ∙ removal_place given.place (item_number c.cur.now given.place given.at.item))
    (sym (ap (option_and_then (table_names given.at.key given.at.field)) at.at ∙ ap (option_and_then (entry_names given.at.field u)) at.at_key) ∙ given.names)

module _ (c : Change) (t : List ℕ) where
  -- nothing that was found is of the entry at an index, where it is of those before it or of no entry of the table
  pub fresh_entry : (u : List ℕ) (entries : Table) (old found : List Move) (i : ℕ) (k : List ℕ) → IsRising entries → slice_get (map (λ e. e.0) entries) i ≡ Some k
      → HasNone (GivesOfTable c t (u, entries)) old → Finds (GivenBefore (GivesOfEntry c t u) (map (λ e. e.0) entries) i) old found → HasNone (GivesOfEntry c t u k) found
  fresh_entry u entries old found i k rising at none finds n d below gives =
      let x : Move = get_or found n d in
      elim (finds.each x (Contains-get_or found n d below)) [
        | inl was ↦ All-contains (λ m. ¬ GivesOfTable c t (u, entries) m) old x none was (record { item = k; there = item_at (map (λ e. e.0) entries) i k at; gives = gives })
        | inr given ↦
            let one = of_entry c t u given.item x given.gives in
            let other = of_entry c t u k x gives in
            let same : given.item ≡ k = same_Some given.item k (sym one.key ∙ other.key) in
            let here : given.index ≡ i = name_once entries given.index i k rising (given.at ∙ ap Some same) at in
            let less = given.below in
            absurd (omega arith)
      ]

  -- nor of the table at an index, where it is of those before it
  pub fresh_table : (found : List Move) (i : ℕ) (u : List ℕ) (entries : Table) → IsRising c.cur.now → slice_get c.cur.now i ≡ Some (u, entries)
      → Finds (GivenBefore (GivesOfTable c t) c.cur.now i) [] found → HasNone (GivesOfTable c t (u, entries)) found
  fresh_table found i u entries rising at finds n d below gives =
      let x : Move = get_or found n d in
      elim (finds.each x (Contains-get_or found n d below)) [
        | inl was ↦ let none = was.1 in absurd (omega arith)
        | inr given ↦
            let one = of_entry c t given.item.0 given.gives.item x given.gives.gives in
            let other = of_entry c t u gives.item x gives.gives in
            let same : given.item.0 ≡ u = same_Some given.item.0 u (sym one.table ∙ other.table) in
            let named = slice_get-map (λ p. p.0) c.cur.now given.index ∙ ap (option_map (λ p. p.0)) given.at ∙ ap Some same in
            let here : given.index ≡ i = name_once c.cur.now given.index i u rising named (slice_get-map (λ p. p.0) c.cur.now i ∙ ap (option_map (λ p. p.0)) at) in
            let less = given.below in
            absurd (omega arith)
      ]
