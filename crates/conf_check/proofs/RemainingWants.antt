-- Which wants are ahead of an iterator, before and after one is handed out.
use Rattle.std.proofs.Common.{◌≡◌, ◌⊎◌, ◌↔◌, ℕ, true, false, List, Option, Some, None, length, sym, ap, ◌∙◌, subst, inl, inr, arith}
use Rattle.std.proofs.lemmas.Bool.{false≢true}
use Rattle.conf_doc.specs.declared.configuration.Config.{Config}
use Rattle.conf_check.specs.EntryShapes.{IsShapeAt}
use Rattle.conf_check.specs.FirstWants.{AreOfOneEntry, IsFirstOfEntry, IsFirstWant, start_of}
use Rattle.conf_check.specs.Rows.{IsEntryAt}
use Rattle.conf_check.specs.WantRuns.{after, GivesFirst, IsToCome, IsFirstAhead, IsWantAhead}
use Rattle.conf_check.specs.Wants.{Want, want_of, IsNamed, IsPlaceBefore, IsWantAt}
use Rattle.conf_check.specs.declared.want_iter.WantAt.{WantAt}
use Rattle.conf_check.specs.declared.want_iter.WantIter.{WantIter}
use Rattle.conf_check.specs.declared.want_iter.WantPlace.{WantPlace}
use Rattle.conf_check.proofs.RowPlaces.{past_tables}
use Rattle.conf_check.proofs.WantOrder.{after_behind, behind_after, not_before_through, place_cases}
use Rattle.conf_check.proofs.WantPlaces.{nothing_before}
use Rattle.conf_check.proofs.SingleWants.{wants_once}

module _ (s : WantIter) where
  -- the first want of the configuration
  pub first_of_all : (o : Option (WantPlace × WantAt)) → s.one_entry ≡ false → IsFirstWant s.models.now s.config.now s.from o → IsFirstAhead s o
  first_of_all None whole none = λ p w wanted. none p w wanted.0.behind wanted.1
  first_of_all (Some a) whole first = (
    (record { behind = first.0; within = λ one. absurd (false≢true (sym whole ∙ one)) }, first.1),
    λ p w wanted lt. first.2 p w wanted.0.behind lt wanted.1,
  )

  -- the first want of the entry
  pub first_of_one : (o : Option (WantPlace × WantAt)) → s.one_entry ≡ true → IsFirstOfEntry s.models.now s.config.now s.from o → IsFirstAhead s o
  first_of_one None one none = λ p w wanted. none p w (wanted.0.within one) wanted.0.behind wanted.1
  first_of_one (Some a) one first = (
    (record { behind = first.1; within = λ _. first.0 }, first.2),
    λ p w wanted lt. first.3 p w (wanted.0.within one) wanted.0.behind lt wanted.1,
  )

  -- the shape that is kept is that of the entry at a place
  abbrev Keeps : WantPlace → Type 0
  Keeps place = s.one_entry ≡ true → ∥ IsShapeAt s.models.now s.config.now place.table place.key s.shape ∥₁

  -- it is that of a further place of the entry
  pub shape_stays : (place : WantPlace) → (s.one_entry ≡ true → AreOfOneEntry place s.from) → Keeps place
  shape_stays place within one =
      subst (λ k. ∥ IsShapeAt s.models.now s.config.now place.table k s.shape ∥₁) (sym (within one).1)
      (subst (λ t. ∥ IsShapeAt s.models.now s.config.now t s.from.key s.shape ∥₁) (sym (within one).0) (s.shaped one))

  abbrev moved : (place : WantPlace) → Keeps place → WantIter
  moved place keeps =
      record { models = s.models; config = s.config; from = after place; one_entry = s.one_entry; shape = s.shape; shaped = keeps }

  -- it is handed out
  pub given : (place : WantPlace) (keeps : Keeps place) (a : WantAt) → IsFirstAhead s (Some (place, a)) → IsNamed s.config.now place a
      → GivesFirst s a (moved place keeps)
  given place keeps a first named = record { place = place; named = named; wanted = first.0; others = others; behind = behind }
    where
      still : (p : WantPlace) → IsToCome s p → IsPlaceBefore place p → IsToCome (moved place keeps) p
      still p ahead lt = record {
        behind = after_behind place p lt;
        within = λ one. (
          (ahead.within one).0 ∙ sym (first.0.0.within one).0,
          (ahead.within one).1 ∙ sym (first.0.0.within one).1,
        );
      }

      others : (p : WantPlace) (w : Want) → IsWantAhead s p w → ((p ≡ place) × (w ≡ want_of a.want)) ⊎ IsWantAhead (moved place keeps) p w
      others p w wanted =
          elim (place_cases p place) [
            | inl lt ↦ absurd (first.1 p w wanted lt)
            | inr o ↦ elim o [
              | inl same ↦
                  inl (same, wants_once s.models.now s.config.now place w (want_of a.want) (subst (λ q. IsWantAt s.models.now s.config.now q w) same wanted.1) first.0.1)
              | inr lt ↦ inr (still p wanted.0 lt, wanted.1)
            ]
          ]

      behind : (p : WantPlace) (w : Want) → IsWantAhead (moved place keeps) p w → IsPlaceBefore place p × IsWantAhead s p w
      behind p w wanted =
          let lt : IsPlaceBefore place p = behind_after place p wanted.0.behind in (
            lt,
            (
              record {
                behind = not_before_through s.from place p first.0.0.behind lt;
                within = λ one. (
                  (wanted.0.within one).0 ∙ (first.0.0.within one).0,
                  (wanted.0.within one).1 ∙ (first.0.0.within one).1,
                );
              },
              wanted.1,
            ),
          )

-- nothing stands before the start of an entry but what stands before the entry
not_before_start : (p : WantPlace) (t k : ℕ) → p.table ≡ t → p.key ≡ k → ¬ IsPlaceBefore p (start_of t k)
not_before_start p t k table key (inl lt) = omega (arith, table)
not_before_start p t k table key (inr a) = elim a.1 [ inl lt ↦ omega (arith, key) | inr b ↦ nothing_before p.field p.item b.1 ]

none_before_first : (p : WantPlace) → ¬ IsPlaceBefore p (start_of 0 0)
none_before_first p (inl lt) = omega arith
none_before_first p (inr a) = elim a.1 [ inl lt ↦ omega arith | inr b ↦ nothing_before p.field p.item b.1 ]

-- at the start
module _ (s : WantIter) where
  pub all_ahead : s.one_entry ≡ false → s.from ≡ start_of 0 0 → (p : WantPlace) (w : Want) → IsWantAt s.models.now s.config.now p w → IsWantAhead s p w
  all_ahead whole from p w wanted = (
    record {
      behind = subst (λ q. ¬ IsPlaceBefore p q) (sym from) (none_before_first p);
      within = λ one. absurd (false≢true (sym whole ∙ one));
    },
    wanted,
  )

  module _ (one : s.one_entry ≡ true) (table key : List ℕ) where
    pub entry_ahead : (config : Config) (t k : ℕ) → s.from ≡ start_of t k
        → ((u l : ℕ) → IsEntryAt config table key u l ↔ (u ≡ t) × (l ≡ k))
        → (p : WantPlace) (w : Want) → IsWantAhead s p w ↔ (IsEntryAt config table key p.table p.key × IsWantAt s.models.now s.config.now p w)
    entry_ahead config t k from placed p w = (
      λ wanted.
          let same = wanted.0.within one in
          ((placed p.table p.key).1 (same.0 ∙ ap (λ (q : WantPlace). q.table) from, same.1 ∙ ap (λ (q : WantPlace). q.key) from), wanted.1),
      λ has.
          let same = (placed p.table p.key).0 has.0 in (
            record {
              behind = subst (λ q. ¬ IsPlaceBefore p q) (sym from) (not_before_start p t k same.0 same.1);
              within = λ _. (same.0 ∙ sym (ap (λ (q : WantPlace). q.table) from), same.1 ∙ sym (ap (λ (q : WantPlace). q.key) from));
            },
            has.1,
          ),
    )

    pub absent_ahead : (config : Config) → s.from ≡ start_of (length s.config.now) 0 → ((u l : ℕ) → ¬ IsEntryAt config table key u l)
        → (p : WantPlace) (w : Want) → IsWantAhead s p w ↔ (IsEntryAt config table key p.table p.key × IsWantAt s.models.now s.config.now p w)
    absent_ahead config from absent p w = (
      λ wanted.
          let same : p.table ≡ length s.config.now = (wanted.0.within one).0 ∙ ap (λ (q : WantPlace). q.table) from in
          absurd (past_tables s.models.now s.config.now p.table p.key (omega (arith, same)) wanted.1.row wanted.1.at),
      λ has. absurd (absent p.table p.key has.0),
    )
