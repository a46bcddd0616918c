-- A shape that is kept is known to be that of the entry, since that can be told.
use Rattle.std.proofs.Common.{◌≡◌, ◌↔◌, ℕ, Bool, List, Option, Some, None, slice_get, IsTrue, subst}
use Rattle.std.specs.Coded.{Coded-set, coded_option}
use Rattle.std.proofs.Math.Logic.{∥∥₁_elim, ∥∥₁_prop}
use denote.Ref.{Bor}
use Rattle.conf_doc.specs.declared.configuration.Config.{Config}
use Rattle.yang_model.specs.Belongs.{Belongs, Belongs-once}
use Rattle.yang_model.specs.ModelSets.{ModelSet, shapes_of}
use Rattle.yang_model.specs.ShapeCodes.{coded_shape}
use Rattle.yang_model.specs.declared.shapes.Shape.{Shape}
use Rattle.yang_types.specs.Accepts.{Accepts}
use Rattle.yang_types.specs.DataType.{DataType}
use Rattle.conf_check.specs.EntryShapes.{IsShapeAt}
use Rattle.conf_check.specs.Rows.{IsShapeOf}
use Rattle.conf_check.proofs.ShapeDecisions.{belongs_told}

some_same : {A : Type 0} (x y : A) → Some x ≡ Some y → x ≡ y
some_same x y e = cc

none_some : {A : Type 0} (x : A) → ¬ (None ≡ Some x)
none_some x e = cc

never : {A : Type 0} → ∥ A ∥₁ → ¬ (¬ A)
never h not = ∥∥₁_elim h (λ a b. absurd a) not

-- what belongs to a shape, by what it is told to belong to
shape_by : (models : ModelSet) (table key : List ℕ) (shape : Shape) → ∥ IsShapeOf models table key shape ∥₁
    → (o : Option ℕ) → Belongs (shapes_of table models) key o → IsShapeOf models table key shape
shape_by models table key shape h None none =
    absurd (never h (λ s. none_some s.place (Belongs-once (shapes_of table models) key None (Some s.place) none s.belongs)))
shape_by models table key shape h (Some i) belongs = record {
  place = i;
  belongs = belongs;
  is = ∥∥₁_elim h (Coded-set (coded_option coded_shape) (slice_get (shapes_of table models) i) (Some shape))
      (λ s. subst (λ n. slice_get (shapes_of table models) n ≡ Some shape)
      (some_same s.place i (Belongs-once (shapes_of table models) key (Some s.place) (Some i) s.belongs belongs)) s.is);
}

-- by a test of which texts the types accept
module _ (test : DataType → List ℕ → Bool) (tells : (t : DataType) (s : List ℕ) → IsTrue (test t s) ↔ Accepts t s) where
  pub kept_told : (models : ModelSet) (config : Config) (t k : ℕ) (shape : Option (Bor Shape)) → ∥ IsShapeAt models config t k shape ∥₁
      → IsShapeAt models config t k shape
  kept_told models config t k None h table key at = λ i d lt fits. never h (λ found. found table key at i d lt fits)
  kept_told models config t k (Some s) h table key at =
      let told = belongs_told test tells (shapes_of table models) key in
      shape_by models table key s.now (∥∥₁_elim h ∥∥₁_prop (λ found. ∣ found table key at ∣₁)) told.0 told.1
