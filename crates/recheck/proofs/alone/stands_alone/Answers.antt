use Rattle.std.proofs.Common.{IsTrue, subst}
use Rattle.conf_doc.specs.declared.configuration.Config.{Config}
use Rattle.recheck.specs.SoleEntries.{IsUnread}
use Rattle.recheck.proofs.SoleEntries.{alone_gone, alone_there}
use Rattle.recheck.proofs.alone.stands_alone.Goals as goal

pub returns-then-has_entry : goal.returns-then-has_entry
returns-then-has_entry c = λ _.
    alone_there c.args.models.now c.args.index.now.config c.args.next.now c.args.table.now c.args.key.now c.modelled.result c.is_unread.result c.has_entry.result
    c.modelled.ensures c.if-not-modelled.false
    (subst (λ (x : Config). IsTrue c.is_unread.result → IsUnread c.args.models.now x c.args.table.now) c.config.ensures c.is_unread.ensures)
    c.if-not-is_unread.false c.has_entry.ensures c.if-has_entry.true

pub returns : goal.returns
returns c = λ yes.
    alone_gone c.args.models.now c.args.index.now.config c.args.next.now c.args.table.now c.args.key.now c.modelled.result c.is_unread.result c.is_wanted.result
    c.modelled.ensures c.if-not-modelled.false
    (subst (λ (x : Config). IsTrue c.is_unread.result → IsUnread c.args.models.now x c.args.table.now) c.config.ensures c.is_unread.ensures)
    c.if-not-is_unread.false c.is_wanted.ensures yes
