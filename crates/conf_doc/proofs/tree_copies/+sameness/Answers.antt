use Rattle.std.proofs.Common.{◌≤◌, ap, ◌∙◌, sym, refl, arith}
use Rattle.conf_doc.specs.Document.{items_of, members_of, weight, items_weight, members_weight}
use Rattle.conf_doc.specs.Trees.{document}
use Rattle.conf_doc.proofs.Equalities.{both_lists, both_maps, all_same, all_same_pairs, item_light, member_light}
use Rattle.conf_doc.proofs.tree_copies.+sameness.Goals as goal

pub same_items-same_trees-requires : goal.same_items-same_trees-requires
same_items-same_trees-requires t c =
    let lighter : weight (document c.at.result.now) ≤ items_weight (items_of c.args.left.now) = item_light _ _ _ c.at.ensures in
    (omega arith, tt)

pub same_items-returns : goal.same_items-returns
same_items-returns t c = (λ yes. all_same _ _ (sym c.len.ensures ∙ c.if-len.false ∙ c.len-2.ensures) (λ k within. c.loop-i.invariant k (omega arith)), λ e. refl)

pub same_members-same_trees-requires : goal.same_members-same_trees-requires
same_members-same_trees-requires t c =
    let lighter : weight (document c.at.result.now) ≤ members_weight (members_of c.args.left.now) = member_light _ _ _ c.at.ensures in
    (omega arith, tt)

pub same_members-returns : goal.same_members-returns
same_members-returns t c = (λ yes. all_same_pairs _ _ (sym c.len.ensures ∙ c.if-len.false ∙ c.len-2.ensures) (λ k within. c.loop-i.invariant k (omega arith)), λ e. refl)

pub same_trees-returns-in-List-List : goal.same_trees-returns-in-List-List
same_trees-returns-in-List-List t c = both_lists _ _ c.in-List-List.left c.in-List-List.right _ (ap document c.in-List-List.is-0) (ap document c.in-List-List.is-1) c.same_items.ensures

pub same_trees-returns-in-Map-Map : goal.same_trees-returns-in-Map-Map
same_trees-returns-in-Map-Map t c = both_maps _ _ c.in-Map-Map.left c.in-Map-Map.right _ (ap document c.in-Map-Map.is-0) (ap document c.in-Map-Map.is-1) c.same_members.ensures
