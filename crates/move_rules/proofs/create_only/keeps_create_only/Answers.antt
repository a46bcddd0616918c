use Rattle.std.proofs.Common.{IsTrue, ◌↔◌, ◌∙◌, slice_get, ap, subst, sym}
use Rattle.conf_doc.specs.Pairs.{find}
use Rattle.move_rules.specs.Entries.{AreKeys, KeepsFields}
use Rattle.move_rules.proofs.CreateOnlys.{create_only_at, create_only_in}
use Rattle.move_rules.proofs.create_only.keeps_create_only.Goals as goal

pub returns-then-len-gt1 : goal.returns-then-len-gt1
returns-then-len-gt1 c =
    create_only_at c.args.settings.now c.args.cur.now c.args.next.now c.args.mv.now c.table.result.now c.requires.is c.table.ensures c.name_at.result.now
    (ap (λ p. slice_get p 1) (sym c.place-place.ensures) ∙ c.name_at.ensures.name) c.keeps_fields.result
    (subst (λ rs. IsTrue c.keeps_fields.result ↔ KeepsFields rs c.args.cur.now c.args.next.now c.table.result.now c.name_at.result.now) c.items-rules.ensures c.keeps_fields.ensures)

pub returns-else-len-gt1 : goal.returns-else-len-gt1
returns-else-len-gt1 c =
    let t = c.table-else-len-gt1.result.now in
    create_only_in c.args.settings.now c.args.cur.now c.args.next.now c.args.mv.now t c.requires.is c.table-else-len-gt1.ensures c.keeps_table.result
    (subst (λ rs. IsTrue c.keeps_table.result ↔ AreKeys (KeepsFields rs c.args.cur.now c.args.next.now t) (find t c.args.next.now)) c.items-rules.ensures c.keeps_table.ensures)
