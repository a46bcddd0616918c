use Rattle.std.proofs.Common.{ℕ, ◌≤◌, List, [], ◌∷◌, ◌++◌, ap, ◌∙◌, subst, take_all, append_assoc, arith}
use Rattle.std.proofs.lemmas.Result.{on_ok_weaker}
use Rattle.json.specs.Token.{begin_array, begin_object, key}
use Rattle.conf_doc.specs.Document.{Document, items_of, list, members_of, object, weight, items_weight, members_weight}
use Rattle.conf_doc.specs.Texts.{document_tokens}
use Rattle.conf_doc.specs.Tokens.{opened_items, opened_members}
use Rattle.conf_doc.specs.Trees.{document}
use Rattle.conf_doc.proofs.Lists.{take_more, take_step}
use Rattle.conf_doc.proofs.Tokens.{item_lighter, item_written, items_written, member_lighter, member_written, members_written}
use Rattle.checkpoints.proofs.TreeMembers.{item_is, pair_at, themselves, within}
use Rattle.checkpoints.proofs.tree_text.+writing.Goals as goal

pub write_items-write_tree-requires : goal.write_items-write_tree-requires
write_items-write_tree-requires t c =
    let lighter : weight (document c.item-item.result) ≤ items_weight (items_of c.args.items.now) = rw c.items-item-items.ensures at (item_lighter document c.items-item-items.result.now _ _ c.loop-item-test.true c.item-item.is) in
    (omega arith, tt)

pub write_items-loop-item-preserved : goal.write_items-loop-item-preserved
write_items-loop-item-preserved t c =
    let more = take_step c.items-item-items.result.now _ c.item-item.result c.loop-item-test.true c.item-item.is in
    item_written document _ _ c.item-item.result _ _ _ more c.loop-item.invariant c.in_ok-write_tree.ensures

pub write_items-returns : goal.write_items-returns
write_items-returns t c =
    let start = c.args.text.now in
    let all = c.loop-item.invariant ∙ ap (λ ts. start ++ begin_array ∷ opened_items document ts) (take_all _ c.items-item-items.result.now c.loop-item-test.false) in
    on_ok_weaker c.token-2.result (λ closed. items_written document _ _ _ _ all closed ∙ ap (λ ds. start ++ document_tokens (list (items_of ds))) c.items-item-items.ensures) c.token-2.ensures.ok

pub write_members-write_tree-requires : goal.write_members-write_tree-requires
write_members-write_tree-requires t c =
    let ms = c.args.members.now in
    let p : List ℕ × Document = (c.name_at.result.now, document c.at.result.now) in
    let here = pair_at ms c.loop-i.i p.0 p.1 c.name_at.ensures c.at.ensures in
    let lighter : weight (document c.at.result.now) ≤ members_weight (members_of ms) =
    subst (λ ns. weight p.1 ≤ members_weight (members_of ns)) (themselves ms) (member_lighter (λ d. d) ms c.loop-i.i p (within ms c.loop-i.i p here) (item_is ms c.loop-i.i p here)) in
    (omega arith, tt)

pub write_members-loop-i-preserved : goal.write_members-loop-i-preserved
write_members-loop-i-preserved t c =
    let ms = c.args.members.now in
    let p : List ℕ × Document = (c.name_at.result.now, document c.at.result.now) in
    let here = pair_at ms c.loop-i.i p.0 p.1 c.name_at.ensures c.at.ensures in
    let added = c.in_ok-write_tree.ensures ∙ ap (λ ts. ts ++ document_tokens p.1) c.in_ok-token-2.ensures.ok ∙ append_assoc c.loop-i.text (key p.0 ∷ []) (document_tokens p.1) in
    member_written (λ d. d) _ _ p _ _ _ (take_more ms c.loop-i.i p here) c.loop-i.invariant added

pub write_members-returns : goal.write_members-returns
write_members-returns t c =
    let start = c.args.text.now in
    let all = c.loop-i.invariant ∙ ap (λ ms. start ++ begin_object ∷ opened_members (λ d. d) ms) (take_all _ c.args.members.now (omega arith)) in
    on_ok_weaker c.token-2.result (λ closed. members_written (λ d. d) _ _ _ _ all closed ∙ ap (λ ms. start ++ document_tokens (object (members_of ms))) (themselves c.args.members.now)) c.token-2.ensures.ok
