use Rattle.std.proofs.Common.{◌≤◌, [], ◌∷◌, ◌++◌, map, ap, subst, ◌∙◌, take_all, append_assoc, arith}
use Rattle.std.proofs.lemmas.Result.{on_ok_weaker}
use Rattle.json.specs.Token.{begin_array, begin_object, key}
use Rattle.conf_doc.specs.Document.{items_of, list, members_of, object, weight, items_weight, members_weight}
use Rattle.conf_doc.specs.Sound.{AreSoundMembers}
use Rattle.conf_doc.specs.Texts.{document_tokens}
use Rattle.conf_doc.specs.Tokens.{opened_items, opened_members}
use Rattle.conf_doc.specs.Trees.{document, named_document}
use Rattle.conf_doc.proofs.Lists.{take_step}
use Rattle.conf_doc.proofs.SoundTrees.{sound_items, sound_members, sound_object}
use Rattle.conf_doc.proofs.Tokens.{item_lighter, item_written, items_written, member_lighter, member_written, members_written}
use Rattle.conf_doc.proofs.tree_texts.+writing.Goals as goal

pub write_items-write_tree-requires : goal.write_items-write_tree-requires
write_items-write_tree-requires t c =
    let lighter : weight (document c.item-item.result) ≤ items_weight (items_of c.args.items.now) = rw c.items-item-items.ensures at (item_lighter document c.items-item-items.result.now _ _ c.loop-item-test.true c.item-item.is) in
    (omega arith, tt)

pub write_items-loop-item-preserved : goal.write_items-loop-item-preserved
write_items-loop-item-preserved t c =
    let inv = c.loop-item.invariant in
    let added = c.in_ok-write_tree.ensures.added in
    let more = take_step c.items-item-items.result.now _ c.item-item.result c.loop-item-test.true c.item-item.is in record {
      before = added.before ∙ inv.before;
      tokens = item_written document _ _ c.item-item.result _ _ _ more inv.tokens added.tokens;
      sound = sound_items document _ _ c.item-item.result more inv.sound c.in_ok-write_tree.ensures.sound;
    }

pub write_items-returns-clause-added : goal.write_items-returns-clause-added
write_items-returns-clause-added t c =
    let inv = c.loop-item.invariant in
    let start = c.args.text.now.tokens in
    let all = inv.tokens ∙ ap (λ ts. start ++ begin_array ∷ opened_items document ts) (take_all _ c.items-item-items.result.now c.loop-item-test.false) in
    on_ok_weaker c.end_array.result (λ closed. record {
      before = c.end_array.ensures.room.0 ∙ inv.before;
      tokens = items_written document _ _ _ _ all closed ∙ ap (λ ds. start ++ document_tokens (list (items_of ds))) c.items-item-items.ensures;
    }) c.end_array.ensures.ok

pub write_members-write_tree-requires : goal.write_members-write_tree-requires
write_members-write_tree-requires t c =
    let lighter : weight (document c.loop-name-item.result.1) ≤ members_weight (members_of c.args.members.now) = rw c.members-name-items.ensures.list at (member_lighter document c.members-name-items.result.now _ _ c.loop-name-test.true c.loop-name-item.is) in
    (omega arith, tt)

pub write_members-loop-name-preserved : goal.write_members-loop-name-preserved
write_members-loop-name-preserved t c =
    let inv = c.loop-name.invariant in
    let p = c.loop-name-item.result in
    let name = c.in_ok-write_name.ensures.added in
    let added = c.in_ok-write_tree.ensures.added in
    let more = take_step c.members-name-items.result.now _ p c.loop-name-test.true c.loop-name-item.is in
    let tokens = added.tokens ∙ ap (λ ts. ts ++ document_tokens (document p.1)) name.tokens ∙ append_assoc c.loop-name.text.tokens (key p.0 ∷ []) (document_tokens (document p.1)) in record {
      before = added.before ∙ name.before ∙ inv.before;
      tokens = member_written document _ _ p _ _ _ more inv.tokens tokens;
      sound = sound_members document _ _ p more inv.sound c.in_ok-write_name.ensures.utf8 c.in_ok-write_tree.ensures.sound;
    }

pub write_members-returns-clause-added : goal.write_members-returns-clause-added
write_members-returns-clause-added t c =
    let inv = c.loop-name.invariant in
    let start = c.args.text.now.tokens in
    let all = inv.tokens ∙ ap (λ ms. start ++ begin_object ∷ opened_members document ms) (take_all _ c.members-name-items.result.now c.loop-name-test.false) in
    on_ok_weaker c.end_object.result (λ closed. record {
      before = c.end_object.ensures.room.0 ∙ inv.before;
      tokens = members_written document _ _ _ _ all closed ∙ ap (λ ms. start ++ document_tokens (object (members_of ms))) c.members-name-items.ensures.list;
    }) c.end_object.ensures.ok

pub write_members-returns-clause-sound : goal.write_members-returns-clause-sound
write_members-returns-clause-sound t c =
    let sound = subst (λ ms. AreSoundMembers (members_of (map named_document ms))) (take_all _ c.members-name-items.result.now c.loop-name-test.false) c.loop-name.invariant.sound in
    on_ok_weaker c.end_object.result (λ _. sound_object c.args.members.now c.members-name-items.ensures.rising (subst (λ ms. AreSoundMembers (members_of ms)) c.members-name-items.ensures.list sound)) c.end_object.ensures.ok
