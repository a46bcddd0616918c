use Rattle.std.proofs.Common.{◌∷◌, ◌++◌, sym, ap, subst, string_bytes, ◌∙◌, append_assoc, append-nil, take_all}
use Rattle.conf_doc.specs.Joined.{ArePlain, ended, item_mark, joined_items}
use Rattle.conf_doc.proofs.Joined.{joined_items-more, plain_more}
use Rattle.conf_doc.proofs.Lists.{take_step}
use Rattle.conf_doc.proofs.joining.join_items.Goals as goal

pub loop-item-init : goal.loop-item-init
loop-item-init c = record { text = sym (append-nil _); plain = tt }

pub loop-item-preserved : goal.loop-item-preserved
loop-item-preserved c =
    let item = c.item-item.result in
    let more = take_step c.items-item-items.result.now _ item c.loop-item-test.true c.item-item.is in
    let ensures = c.in_ok-join_item.ensures in
    record {
      text =
          ensures.joined ∙ ap (λ t. t ++ item_mark ∷ ended item) c.loop-item.invariant.text
          ∙ append_assoc (string_bytes c.args.joined.now) _ (item_mark ∷ ended item)
          ∙ ap (λ t. string_bytes c.args.joined.now ++ t) (sym (joined_items-more _ item) ∙ ap joined_items (sym more));
      plain = subst ArePlain (sym more) (plain_more _ item c.loop-item.invariant.plain ensures.plain);
    }

pub returns-clause-joined : goal.returns-clause-joined
returns-clause-joined c =
    let all = take_all _ c.items-item-items.result.now c.loop-item-test.false ∙ c.items-item-items.ensures in
    c.loop-item.invariant.text ∙ ap (λ ts. string_bytes c.args.joined.now ++ joined_items ts) all

pub returns-clause-plain : goal.returns-clause-plain
returns-clause-plain c =
    let all = take_all _ c.items-item-items.result.now c.loop-item-test.false ∙ c.items-item-items.ensures in
    subst ArePlain all c.loop-item.invariant.plain
