-- The rule against tables without keys looks at the move's table alone.
use Rattle.std.proofs.Common.{◌≡◌, ◌≢◌, ℕ, List, [], Bool, true, false, not, Some, IsTrue, ◌↔◌, refl, sym, ap, ◌∙◌, subst}
use Rattle.std.specs.Ordering.{eq_by_cmp}
use Rattle.host_core.specs.Names.{name_cmp}
use Rattle.conf_doc.specs.Pairs.{find}
use Rattle.conf_doc.specs.declared.configuration.Config.{Config}
use Rattle.move_core.specs.Moves.{part_after, place, step}
use Rattle.move_core.specs.Rules.{EmptiesNoTable}
use Rattle.move_core.specs.Services.{table_of}
use Rattle.move_core.specs.declared.moves.Move.{Move}
use Rattle.move_rules.proofs.UntouchedPlaces.{apart_by, other_table, same_by}

module _ (cur next : Config) (m : Move) (is : next ≡ step cur m) where
  elsewhere : (u : List ℕ) → u ≢ table_of (place m) → find u next ≡ find u cur
  elsewhere u other = ap (find u) is ∙ other_table cur (place m) (part_after cur m) u other

  by_table : (find (table_of (place m)) next ≡ Some [] → find (table_of (place m)) cur ≡ Some []) → EmptiesNoTable cur next
  by_table here u empty =
      elim (eq_by_cmp name_cmp u (table_of (place m))) as (λ b. eq_by_cmp name_cmp u (table_of (place m)) ≡ b → find u cur ≡ Some []) [
        | true ↦ λ e.
            let same = same_by u (table_of (place m)) e in
            subst (λ t. find t cur ≡ Some []) (sym same) (here (subst (λ t. find t next ≡ Some []) same empty))
        | false ↦ λ e. sym (elsewhere u (apart_by u (table_of (place m)) e)) ∙ empty
      ] refl

  -- the move's table has keys in next, or isn't there
  pub after_has_keys : (t : List ℕ) → t ≡ table_of (place m) → (a : Bool) → a ≡ false → IsTrue a ↔ (find t next ≡ Some []) → IsTrue (not a) ↔ EmptiesNoTable cur next
  after_has_keys t at a none after =
      let empties : EmptiesNoTable cur next = by_table (λ empty. let there : a ≡ true = after.1 (subst (λ u. find u next ≡ Some []) (sym at) empty) in absurd cc) in
      (λ _. empties, λ _. ap not none)

  -- it is there without keys
  pub after_is_empty : (t : List ℕ) → t ≡ table_of (place m) → (a b : Bool) → a ≡ true → IsTrue a ↔ (find t next ≡ Some []) → IsTrue b ↔ (find t cur ≡ Some [])
      → IsTrue b ↔ EmptiesNoTable cur next
  after_is_empty t at a b empty after before =
      (λ passes. by_table (λ _. subst (λ u. find u cur ≡ Some []) at (before.0 passes)), λ keeps. before.1 (keeps t (after.0 empty)))
