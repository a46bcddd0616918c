-- Which shape of its table an entry belongs to.
use Rattle.std.proofs.Common.{◌≡◌, ◌==◌, ◌↔◌, ℕ, List, Option, Some, None, slice_get, IsTrue, eq-eqb, sym, ap, ◌∙◌, subst, arith}
use Rattle.yang_model.specs.Belongs.{Belongs, Belongs-once}
use Rattle.yang_model.specs.ModelSets.{ModelSet, shapes_of}
use Rattle.yang_model.specs.declared.shapes.Shape.{Shape}
use Rattle.conf_check.specs.Rows.{Row, HasShape, HasNoShape}

module _ (models : ModelSet) (key table name : List ℕ) (same : table ≡ name) where
  moved : (o : Option ℕ) → Belongs (shapes_of table models) key o → Belongs (shapes_of name models) key o
  moved o b = subst (λ t. Belongs (shapes_of t models) key o) same b

  pub belongs_here : (o : Option ℕ) (place wanted : ℕ) → o ≡ Some place → Belongs (shapes_of table models) key o
      → IsTrue (place == wanted) ↔ Belongs (shapes_of name models) key (Some wanted)
  belongs_here o place wanted is b =
      let here : Belongs (shapes_of name models) key (Some place) = moved (Some place) (subst (λ o. Belongs (shapes_of table models) key o) is b) in (
        λ e. let p : place ≡ wanted = grind (arith, e) in subst (λ n. Belongs (shapes_of name models) key (Some n)) p here,
        λ w.
            let e : Some place ≡ Some wanted = Belongs-once (shapes_of name models) key (Some place) (Some wanted) here w in
            let p : place ≡ wanted = cc in
            eq-eqb place wanted p,
      )

  pub belongs_nowhere : (o : Option ℕ) (wanted : ℕ) → o ≡ None → Belongs (shapes_of table models) key o
      → ¬ Belongs (shapes_of name models) key (Some wanted)
  belongs_nowhere o wanted is b w =
      let here : Belongs (shapes_of name models) key None = moved None (subst (λ o. Belongs (shapes_of table models) key o) is b) in
      let e : None ≡ Some wanted = Belongs-once (shapes_of name models) key None (Some wanted) here w in
      cc

module _ (models : ModelSet) (row : Row) where
  -- an entry has one shape
  pub shape_once : (a b : Shape) → HasShape models row a → HasShape models row b → a ≡ b
  shape_once a b p q =
      let e : Some p.place ≡ Some q.place = Belongs-once (shapes_of row.table models) row.key _ _ p.belongs q.belongs in
      let place : p.place ≡ q.place = cc in
      let s : Some a ≡ Some b = sym p.is ∙ ap (slice_get (shapes_of row.table models)) place ∙ q.is in
      cc

  -- or none
  pub not_both : (a : Shape) → HasShape models row a → HasNoShape models row → ⊥
  not_both a p none =
      let e : Some p.place ≡ None = Belongs-once (shapes_of row.table models) row.key _ _ p.belongs none in
      cc
