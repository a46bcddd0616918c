-- A tree, its items and its members written token by token.
use Rattle.std.proofs.Common.{◌≤◌, [], ◌∷◌, ◌++◌, ap, ◌∙◌, append_assoc, take_all, arith}
use Rattle.json.specs.Token.{begin_array, begin_object, key}
use Rattle.conf_doc.specs.Document.{items_of, items_weight, members_of, members_weight, weight}
use Rattle.conf_doc.specs.Texts.{document_tokens}
use Rattle.conf_doc.specs.Tokens.{opened_items, opened_members}
use Rattle.conf_doc.specs.Trees.{document}
use Rattle.conf_doc.proofs.Equalities.{item_light, member_light}
use Rattle.conf_doc.proofs.Lists.{take_more}
use Rattle.conf_doc.proofs.Tokens.{item_written, member_written}
use Rattle.gcu_output.proofs.TreeTexts.{itself, list_written, member_at, object_written}
use Rattle.gcu_output.proofs.tree_text.+writing.Goals as goal

pub write_items-write_tree-requires : goal.write_items-write_tree-requires
write_items-write_tree-requires t c =
    let light : weight (document c.at.result.now) ≤ items_weight (items_of c.args.items.now) = item_light
    c.args.items.now c.loop-i.i _ c.at.ensures in
    (omega arith, tt)

pub write_items-loop-i-preserved : goal.write_items-loop-i-preserved
write_items-loop-i-preserved t c =
    item_written itself _ _ (document c.at.result.now) _ _ _ (take_more c.args.items.now c.loop-i.i _ c.at.ensures)
    c.loop-i.invariant c.in_ok-write_tree.ensures

pub write_items-returns : goal.write_items-returns
write_items-returns t c =
    let all = c.loop-i.invariant ∙ ap (λ ds. c.args.out.now ++ begin_array ∷ opened_items itself ds)
    (take_all _ c.args.items.now (omega arith)) in
    list_written c.args.items.now _ _ _ all c.in_ok-token-2.ensures.ok

pub write_members-write_tree-requires : goal.write_members-write_tree-requires
write_members-write_tree-requires t c =
    let light : weight (document c.at.result.now) ≤ members_weight (members_of c.args.members.now) = member_light
    c.args.members.now c.loop-i.i _ c.at.ensures in
    (omega arith, tt)

pub write_members-loop-i-preserved : goal.write_members-loop-i-preserved
write_members-loop-i-preserved t c =
    let name = c.name_at.result.now in
    let d = document c.at.result.now in
    let more = take_more c.args.members.now c.loop-i.i (name, d)
    (member_at c.args.members.now c.loop-i.i name d c.name_at.ensures c.at.ensures) in
    let written =
    c.in_ok-write_tree.ensures ∙ ap (λ ts. ts ++ document_tokens d) c.in_ok-token-2.ensures.ok
    ∙ append_assoc c.loop-i.out (key name ∷ []) (document_tokens d) in
    member_written itself _ _ (name, d) _ _ _ more c.loop-i.invariant written

pub write_members-returns : goal.write_members-returns
write_members-returns t c =
    let all = c.loop-i.invariant ∙ ap (λ ms. c.args.out.now ++ begin_object ∷ opened_members itself ms)
    (take_all _ c.args.members.now (omega arith)) in
    object_written c.args.members.now _ _ _ all c.in_ok-token-3.ensures.ok
