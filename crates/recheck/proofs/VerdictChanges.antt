-- Which verdicts are true in the next configuration.
use Rattle.std.proofs.Common.{◌≡◌, ◌⊎◌, ℕ, List, Some, None, cond, is_some, IsTrue, get_or, slice_get, Contains, refl, sym, ap, ◌∙◌, subst, inl, inr}
use Rattle.std.specs.List.{All}
use Rattle.std.proofs.lemmas.List.Elements.{All-contains, Contains-get_or}
use Rattle.conf_doc.specs.Pairs.{find}
use Rattle.conf_doc.specs.WellFormed.{IsConfig}
use Rattle.conf_doc.specs.declared.configuration.Config.{Config}
use Rattle.std.specs.Prelude.{IsSomeAnd}
use Rattle.yang_model.specs.ModelSets.{ModelSet, table_named}
use Rattle.yang_model.specs.declared.shapes.MustRule.{MustRule}
use Rattle.yang_model.specs.declared.shapes.Shape.{Shape}
use Rattle.conf_check.specs.Rows.{Row, row_at, row_of, HasShape, IsEntryAt, typed_text}
use Rattle.conf_check.specs.Belongings.{AreBelongings, Belongings}
use Rattle.conf_check.specs.MustReads.{AgreeOn, HasOneTruth, HaveEntry}
use Rattle.conf_check.specs.Validity.{Breach, Breaks, IsBreach, IsBreachAt, IsFalse}
use Rattle.ref_index.specs.Agreements.{entry_of}
use Rattle.recheck.specs.Changes.{IsHandled, IsTableHandled}
use Rattle.recheck.specs.Turned.{IsSame, IsTouched, Reads}
use Rattle.recheck.specs.Verdicts.{IsSound}
use Rattle.recheck.specs.declared.verdicts.Verdict.{Verdict}
use Rattle.recheck.proofs.ShapeDecisions.{belongings_known}
use Rattle.recheck.proofs.Lists.{entry_found, entry_there, found_key, key_placed, some_at}
use Rattle.recheck.proofs.Pairs.{contains_at, some_same}
use Rattle.recheck.proofs.Rows.{at_entry, row_only, row_there}
use Rattle.recheck.proofs.Survival.{AreFalseBack, AreMet, breaks_back, text_satisfied}

module _ (models : ModelSet) (a b : Config) (formed_a : IsConfig a) (formed_b : IsConfig b) (truth : HasOneTruth models) (v : Verdict)
    (same : IsSame a b v.table v.key)
    (keys : (table key : List ℕ) (t k : ℕ) → IsEntryAt a table key t k → IsTrue (is_some (entry_of table key b)) ⊎ (¬ IsTouched models a table key v))
    (tables : (name : List ℕ) → (find name a ≡ find name b) ⊎ (¬ Reads models name v)) where
  -- where the verdict's entry is the same in both
  module _ (t k : ℕ) (at : IsEntryAt a v.table v.key t k) where
    abbrev row : Row
    row = row_of v.table v.key at.fields

    met : AreMet models a b row
    met shape shaped field i w wanted =
        let sat = text_satisfied models a (typed_text shape row field i) w wanted in
        let place = key_placed a w.target.table sat.key sat.there in
        elim (keys w.target.table sat.key place.0 place.1 place.2) [
          | inl stays ↦
              let e = entry_there b w.target.table sat.key stays in
              let found : entry_of w.target.table sat.key b ≡ Some e.2.fields = entry_found b w.target.table sat.key e.0 e.1 formed_b e.2 in
              record { key = sat.key; there = found_key b w.target.table sat.key e.2.fields found; belongs = sat.belongs; part = sat.part }
          | inr none ↦ absurd (none (inr (record {
            place = record { table = t; key = k; field = field; item = i };
            want = w;
            at = at;
            wanted = record { row = row; at = row_there models a t k (v.table, at.entries) (v.key, at.fields) at.at at.at_key shape shaped; shape = shape; shaped = shaped; wanted = wanted };
            meets = record { in_table = refl; belongs = sat.belongs; part = sat.part };
          })))
        ]

    -- so are the tables that a must of it reads
    agree : (shape : Shape) → HasShape models row shape → (must : MustRule) → Contains shape.musts must → AgreeOn a b must.reads
    agree shape shaped must of name reads =
        elim (tables name) [
          | inl is ↦ is
          | inr none ↦ absurd (none (record { shape = shape; shaped = shaped; must = must; of_shape = of; reads = reads }))
        ]

    module _ (sound : IsSound models a v) (br : Breach) (is : IsBreachAt models b v.table v.key br) where
      abbrev there : IsEntryAt b v.table v.key br.table br.key
      there = is.entry

      fields_same : there.fields ≡ at.fields
      fields_same =
          some_same there.fields at.fields
          (sym (entry_found b v.table v.key br.table br.key formed_b there) ∙ same ∙ entry_found a v.table v.key t k formed_a at)

      row_is : row ≡ is.broken.row
      row_is =
          ap (row_of v.table v.key) (sym fields_same)
          ∙ row_only models b br.table br.key (v.table, there.entries) (v.key, there.fields) there.at there.at_key is.broken.row is.broken.at

      -- the row is in the first too
      row_stands : row_at models a t k ≡ Some row
      row_stands =
          at_entry models a t k (v.table, at.entries) (v.key, at.fields) at.at at.at_key
          ∙ ap (λ f. cond (is_some (table_named v.table models)) (Some (row_of v.table v.key f)) None) (sym fields_same)
          ∙ sym (at_entry models b br.table br.key (v.table, there.entries) (v.key, there.fields) there.at there.at_key)
          ∙ is.broken.at
          ∙ ap Some (sym row_is)

      module _ (p : (b : Belongings) × AreBelongings models a b) (q : (c : Belongings) × AreBelongings models b c) where
        both : (shape : Shape) → HasShape models row shape → HaveEntry models a b row shape t k br.table br.key
        both shape shaped =
            record {
              formed_a = formed_a;
              formed_b = formed_b;
              shaped = shaped;
              at_a = record { entry = at; fields = refl };
              at_b = record { entry = there; fields = fields_same };
              known_a = p;
              known_b = q;
            }

        -- a must that is false in the second is false in the first
        musts_back : AreFalseBack models a b row t k br.table br.key met
        musts_back shape shaped n is =
            let must = some_at (IsFalse models b br.table br.key) (slice_get shape.musts n) is in
            let of : Contains shape.musts must.0 = contains_at shape.musts n must.0 must.1 in
            let one = truth a b row shape t k br.table br.key must.0 (both shape shaped) of (agree shape shaped must.0 of) in
            let there_false : IsFalse models b br.table br.key must.0 = subst (λ o. IsSomeAnd o (IsFalse models b br.table br.key)) must.1 is in
            subst (λ o. IsSomeAnd o (IsFalse models a t k)) (sym must.1) (one.1 there_false)

        broken : IsBreach models a (record { table = t; key = k; rule = br.rule; field = br.field })
        broken =
            record {
              row = row;
              at = row_stands;
              breaks = breaks_back models a b row t k br.table br.key met musts_back br.rule br.field
                  (subst (λ r. Breaks models b br.table br.key r br.rule br.field) (sym row_is) is.broken.breaks);
            }

      none_broken : ⊥
      none_broken =
          belongings_known models a (λ p.
          belongings_known models b (λ q.
          sound.valid (record { table = t; key = k; rule = br.rule; field = br.field }) (record { entry = at; broken = broken p q })))

  -- a verdict that is true in the first is true in the second
  pub sound_one : IsSound models a v → IsSound models b v
  sound_one sound =
      let at = entry_there a v.table v.key sound.there in
      record {
        there = subst (λ o. IsTrue (is_some o)) (sym same) sound.there;
        valid = λ br is. none_broken at.0 at.1 at.2 sound br is;
      }

module _ (models : ModelSet) (a b : Config) (formed_a : IsConfig a) (formed_b : IsConfig b) (verdicts : List Verdict)
    (handled : (table key : List ℕ) (t k : ℕ) → IsEntryAt a table key t k → IsHandled models a b verdicts table key)
    (tables : (name : List ℕ) → IsTableHandled models a b verdicts name) (truth : HasOneTruth models) where
  module _ (v : Verdict) (has : Contains verdicts v) where
    untouched : (table key : List ℕ) (t k : ℕ) → IsEntryAt a table key t k → IsSame a b table key ⊎ (¬ IsTouched models a table key v)
    untouched table key t k at =
        elim (handled table key t k at) [
          | inl is ↦ inl is
          | inr none ↦ inr (All-contains (λ x. ¬ IsTouched models a table key x) verdicts v none has)
        ]

    -- a verdict that is left and true in the first is true in the second
    sound_on : IsSound models a v → IsSound models b v
    sound_on sound =
        let at = entry_there a v.table v.key sound.there in
        let same : IsSame a b v.table v.key =
        elim (untouched v.table v.key at.0 at.1 at.2) [ inl is ↦ is | inr none ↦ absurd (none (inl (refl, refl))) ] in
        sound_one models a b formed_a formed_b truth v same
        (λ table key t k is.
        elim (untouched table key t k is) [
          | inl e ↦ inl (ap is_some (e ∙ entry_found a table key t k formed_a is))
          | inr none ↦ inr none
        ])
        (λ name. elim (tables name) [ inl e ↦ inl e | inr none ↦ inr (All-contains (λ x. ¬ Reads models name x) verdicts v none has) ])
        sound

  -- so are all of them
  pub all_sound : All (IsSound models a) verdicts → All (IsSound models b) verdicts
  all_sound all i d within =
      let has = Contains-get_or verdicts i d within in
      sound_on (get_or verdicts i d) has (all i d within)
