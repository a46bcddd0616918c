-- A must that is false over the nodes as they are walked is false.
use Rattle.std.proofs.Common.{◌≡◌, ◌↔◌, ℕ, Bool, true, false, not, Option, IsTrue, IsSomeAnd, refl, sym, subst}
use Rattle.std.specs.Coded.{Coded-set, coded_bool}
use Rattle.std.proofs.Math.Logic.{∥∥₁_elim}
use Rattle.std.proofs.lemmas.Bool.{false≢true}
use Rattle.xpath_part.specs.Expressions.{expression}
use Rattle.xpath_part.specs.Truth.{truth}
use Rattle.xpath_part.specs.declared.nodes.Node.{Node}
use Rattle.yang_model.specs.declared.shapes.MustRule.{MustRule}
use Rattle.conf_check.specs.Belongings.{AreBelongings-once, Belongings, Belongings-set}
use Rattle.conf_check.specs.ConfigTree.{entry_node, node_tree}
use Rattle.conf_check.specs.NodeTrees.{tree_of}
use Rattle.conf_check.specs.Validity.{IsFalse, IsFalseIn, context_of}
use Rattle.conf_check.specs.declared.config_nodes.ConfigNodes.{ConfigNodes}

module _ (s : ConfigNodes) (t k : ℕ) (must : MustRule) where
  abbrev IsFalseOver : Belongings → Type 0
  IsFalseOver b = IsFalseIn (node_tree s.models.now s.config.now b) (entry_node t k) must

  to_false : IsFalseOver s.known.0 → IsFalse s.models.now s.config.now t k must
  to_false here b are =
      let same : s.known.0 ≡ b =
      ∥∥₁_elim s.known.1 (Belongings-set s.known.0 b) (λ a. AreBelongings-once s.models.now s.config.now s.known.0 b a are) in
      subst IsFalseOver same here

  from_false : (r : Bool) → (IsFalseOver s.known.0 → r ≡ true) → IsFalse s.models.now s.config.now t k must → r ≡ true
  from_false r to not = ∥∥₁_elim s.known.1 (Coded-set coded_bool r true) (λ a. to (not s.known.0 a))

  abbrev IsFalseWhere : Option Node → Type 0
  IsFalseWhere o = IsSomeAnd o (λ n. truth (tree_of s) (expression must.expr) n ≡ false)

  pub false_where : (o : Option Node) (r : Bool) → o ≡ context_of (tree_of s) (entry_node t k) must.leaf
      → IsTrue r ↔ IsFalseWhere o → IsTrue r ↔ IsFalse s.models.now s.config.now t k must
  false_where o r is tells = (
    λ e. to_false (subst IsFalseWhere is (tells.0 e)),
    from_false r (λ here. tells.1 (subst IsFalseWhere (sym is) here)),
  )

not_tells : (h : Bool) → IsTrue (not h) ↔ (h ≡ false)
not_tells true = (λ e. absurd (false≢true e), λ e. absurd (false≢true (sym e)))
not_tells false = (λ _. refl, λ _. refl)

-- what is not true is false
pub not_true : (h value : Bool) → h ≡ value → IsTrue (not h) ↔ (value ≡ false)
not_true h value is = subst (λ v. IsTrue (not h) ↔ (v ≡ false)) is (not_tells h)
