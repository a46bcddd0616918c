-- Entries that both configurations have the same, or that both have where that is enough, are given nothing.
use Rattle.std.proofs.Common.{◌≡◌, ◌+◌, ◌-◌, ℕ, zero, suc, List, [], ◌∷◌, map, option_map, slice_get, Option, Some, None, refl, sym, ap, ◌∙◌, arith}
use Rattle.std.proofs.lemmas.Option.{slice_get-map}
use Rattle.conf_doc.specs.Changes.{part_at}
use Rattle.conf_doc.specs.Pairs.{IsRising, find}
use Rattle.conf_doc.specs.Runs.{IsRun}
use Rattle.conf_doc.specs.declared.configuration.Config.{Config}
use Rattle.conf_doc.specs.declared.configuration.Entry.{Entry}
use Rattle.conf_doc.specs.declared.configuration.Table.{Table}
use Rattle.conf_doc.specs.declared.parts.Part.{Part}
use Rattle.conf_doc.specs.declared.parts.Part.TheVariants as part
use Rattle.conf_doc.proofs.Edits.{find_at}
use Rattle.move_gen.specs.Given.{AreForDiffering, AreOfMissing, EntryGiver}
use Rattle.move_gen.specs.Giving.{IsNoneFrom}
use Rattle.move_gen.proofs.PlaceParts.{there_entry}

-- where a name stands, there is a part
part_beside : {A : Type 0} (ps : List (List ℕ × A)) (i : ℕ) (n : List ℕ) → slice_get (map (λ p. p.0) ps) i ≡ Some n
    → (a : A) × (slice_get (map (λ p. p.1) ps) i ≡ Some a)
part_beside [] i n at = cc
part_beside (p ∷ ps) zero n at = (p.1, refl)
part_beside (p ∷ ps) (suc i) n at = part_beside ps i n at

there_or_none : (o : Option Part) (x : Part) → o ≡ Some x → o ≡ None → ⊥
there_or_none o x some none = cc

module _ (Is : EntryGiver) (other : Config) (t : List ℕ) (table beside : Table) (i j n : ℕ) (there : find t other ≡ Some beside) (rising : IsRising beside) where
  stands : (key : List ℕ) (e : Entry) (l : ℕ) → slice_get (map (λ p. p.0) beside) l ≡ Some key → slice_get (map (λ p. p.1) beside) l ≡ Some e
      → part_at other (t ∷ key ∷ []) ≡ Some (part.Entry e)
  stands key e l named is = there_entry other t key e (record { table = beside; there = there; is = find_at beside key l rising named ∙ is })

  -- none is for an entry of a run
  pub none_for_same : AreForDiffering Is other → IsRun table i beside j n → IsNoneFrom (Is t) table i (i + n)
  none_for_same differing run k from before key e named is g given = differing t key e g given (stands key e l (across (λ p. p.0) ∙ named) (across (λ p. p.1) ∙ is))
    where
      l : ℕ
      l = j + (k - i)

      same : slice_get beside l ≡ slice_get table k
      same = sym (run.same (k - i) (omega (arith, from, before))) ∙ ap (slice_get table) (omega (arith, from))

      across : {B : Type 0} (f : List ℕ × Entry → B) → slice_get (map f beside) l ≡ slice_get (map f table) k
      across f = slice_get-map f beside l ∙ ap (option_map f) same ∙ sym (slice_get-map f table k)

  -- nor for one of a run of keys, where each is for an entry that the other configuration lacks
  pub none_for_both : AreOfMissing Is other → IsRun (map (λ p. p.0) table) i (map (λ p. p.0) beside) j n → IsNoneFrom (Is t) table i (i + n)
  none_for_both missing run k from before key e named is g given = there_or_none _ _ (stands key at.0 l across at.1) (missing t key e g given)
    where
      l : ℕ
      l = j + (k - i)

      across : slice_get (map (λ p. p.0) beside) l ≡ Some key
      across = sym (run.same (k - i) (omega (arith, from, before))) ∙ ap (slice_get (map (λ p. p.0) table)) (omega (arith, from)) ∙ named

      at : (a : Entry) × (slice_get (map (λ p. p.1) beside) l ≡ Some a)
      at = part_beside beside l key across
