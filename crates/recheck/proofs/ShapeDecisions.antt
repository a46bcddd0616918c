-- That each entry belongs to a shape or to none can't be refuted. So where nothing is to be shown but that something
-- can't be, the shapes of all entries are known, and no call asks for them.
use Rattle.std.proofs.Common.{ℕ, suc, List, [], ◌∷◌, Option, Some, None, take, arith}
use Rattle.std.proofs.lemmas.List.Elements.{All-cons, All-nil}
use Rattle.conf_doc.specs.declared.configuration.Config.{Config}
use Rattle.conf_doc.specs.declared.configuration.Table.{Table}
use Rattle.yang_model.specs.Belongs.{Belongs, Fits}
use Rattle.yang_model.specs.ModelSets.{ModelSet, shapes_of}
use Rattle.yang_model.specs.declared.shapes.Shape.{Shape}
use Rattle.conf_check.specs.Belongings.{AreBelongings, AreBelongingsOf, Belongings}

module _ (key : List ℕ) where
  here : (s : Shape) (ss : List Shape) → Fits s key → Belongs (s ∷ ss) key (Some 0)
  here s ss fits = (omega arith, λ d. fits, All-nil (λ x. ¬ Fits x key))

  later : (s : Shape) (ss : List Shape) (o : Option ℕ) → ¬ Fits s key → Belongs ss key o → (p : Option ℕ) × Belongs (s ∷ ss) key p
  later s ss None not is = (None, All-cons (λ x. ¬ Fits x key) s ss not is)
  later s ss (Some i) not is = (Some (suc i), (omega (arith, is.0), λ d. is.1 d, All-cons (λ x. ¬ Fits x key) s (take i ss) not is.2))

  one_more : (s : Shape) (ss : List Shape) → ¬ ¬ ((o : Option ℕ) × Belongs ss key o) → ¬ ¬ ((o : Option ℕ) × Belongs (s ∷ ss) key o)
  one_more s ss more never =
      let misfit : ¬ Fits s key = λ fits. never (Some 0, here s ss fits) in
      more (λ known. never (later s ss known.0 misfit known.1))

  belongs_known : (ss : List Shape) → ¬ ¬ ((o : Option ℕ) × Belongs ss key o)
  belongs_known [] never = never (None, All-nil (λ x. ¬ Fits x key))
  belongs_known (s ∷ ss) never = one_more s ss (belongs_known ss) never

module _ (models : ModelSet) where
  table_known : (name : List ℕ) (t : Table) → ¬ ¬ ((answers : List (Option ℕ)) × AreBelongingsOf models name t answers)
  table_known name [] never = never ([], tt)
  table_known name (e ∷ t) never =
      belongs_known e.0 (shapes_of name models) (λ first. table_known name t (λ rest. never (first.0 ∷ rest.0, (first.1, rest.1))))

  pub belongings_known : (config : Config) → ¬ ¬ ((b : Belongings) × AreBelongings models config b)
  belongings_known [] never = never ([], tt)
  belongings_known (t ∷ config) never =
      table_known t.0 t.1 (λ first. belongings_known config (λ rest. never (first.0 ∷ rest.0, (first.1, rest.1))))
