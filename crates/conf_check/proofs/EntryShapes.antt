-- The shape of an entry among those of a configuration.
use Rattle.std.proofs.Common.{◌≡◌, ℕ, zero, suc, List, [], ◌∷◌, Option, Some, slice_get, option_and_then, refl, sym, ap, ◌∙◌, subst}
use Rattle.conf_doc.specs.declared.configuration.Config.{Config}
use Rattle.conf_doc.specs.declared.configuration.Entry.{Entry}
use Rattle.conf_doc.specs.declared.configuration.Table.{Table}
use Rattle.yang_model.specs.Belongs.{Belongs, Belongs-once}
use Rattle.yang_model.specs.ModelSets.{ModelSet, shapes_of}
use Rattle.conf_check.specs.Belongings.{Belongings, AreBelongings, AreBelongingsOf, shape_at}

some_same : {A : Type 0} (x y : A) → Some x ≡ Some y → x ≡ y
some_same x y e = cc

module _ (models : ModelSet) where
  answers_at : (name : List ℕ) (t : Table) (answers : List (Option ℕ)) (k : ℕ) (e : List ℕ × Entry) (o : Option ℕ) → AreBelongingsOf models name t answers
      → slice_get t k ≡ Some e → Belongs (shapes_of name models) e.0 o → slice_get answers k ≡ Some o
  answers_at name [] answers k e o all at b = cc
  answers_at name (x ∷ t) [] k e o all at b = absurd all
  answers_at name (x ∷ t) (a ∷ answers) zero e o all at b =
      let P : List ℕ × Entry → Type 0 = λ y. Belongs (shapes_of name models) y.0 o in
      ap Some (Belongs-once (shapes_of name models) x.0 a o all.0 (subst P (sym (some_same x e at)) b))
  answers_at name (x ∷ t) (a ∷ answers) (suc k) e o all at b = answers_at name t answers k e o all.1 at b

  table_at : (config : Config) (b : Belongings) (t : ℕ) (p : List ℕ × Table) → AreBelongings models config b → slice_get config t ≡ Some p
      → (answers : List (Option ℕ)) × (slice_get b t ≡ Some answers) × AreBelongingsOf models p.0 p.1 answers
  table_at [] b t p all at = cc
  table_at (x ∷ config) [] t p all at = absurd all
  table_at (x ∷ config) (a ∷ b) zero p all at =
      let P : List ℕ × Table → Type 0 = λ y. AreBelongingsOf models y.0 y.1 a in
      (a, refl, subst P (some_same x p at) all.0)
  table_at (x ∷ config) (a ∷ b) (suc t) p all at = table_at config b t p all.1 at

  -- an entry belongs to that shape
  pub belongings_at : (config : Config) (b : Belongings) (t k : ℕ) (p : List ℕ × Table) (e : List ℕ × Entry) (o : Option ℕ) → AreBelongings models config b
      → slice_get config t ≡ Some p → slice_get p.1 k ≡ Some e → Belongs (shapes_of p.0 models) e.0 o → shape_at b t k ≡ o
  belongings_at config b t k p e o all at at_key belongs =
      let table = table_at config b t p all at in
      ap (λ o. option_and_then (λ answers. option_and_then (λ (answer : Option ℕ). answer) (slice_get answers k)) o) table.1
      ∙ ap (option_and_then (λ (answer : Option ℕ). answer)) (answers_at p.0 p.1 table.0 k e o table.2 at_key belongs)
