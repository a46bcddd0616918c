use Rattle.std.proofs.Common.{IsTrue, ◌↔◌, ◌∙◌, slice_get, ap, subst, sym}
use Rattle.conf_doc.specs.Pairs.{find}
use Rattle.move_rules.specs.Entries.{AreKeys, KeepsAllPlaces}
use Rattle.move_rules.proofs.Requireds.{required_at, required_in, required_not}
use Rattle.move_rules.proofs.required.keeps_required.Goals as goal

pub returns-then-len-gt1 : goal.returns-then-len-gt1
returns-then-len-gt1 c =
    let t = c.table-table.result.now in
    required_at c.args.settings.now c.args.cur.now c.args.next.now c.args.mv.now t c.requires.is c.table-table.ensures c.name_at.result.now
    (ap (λ p. slice_get p 1) (sym c.place-place.ensures) ∙ c.name_at.ensures.name) c.keeps_rules.result
    (subst (λ rs. IsTrue c.keeps_rules.result ↔ KeepsAllPlaces rs t c.args.cur.now c.args.next.now c.name_at.result.now) c.items-rules.ensures c.keeps_rules.ensures)

pub returns-then-keeps_table : goal.returns-then-keeps_table
returns-then-keeps_table c =
    let t = c.table-table.result.now in
    required_in c.args.settings.now c.args.cur.now c.args.next.now c.args.mv.now t c.requires.is c.table-table.ensures c.keeps_table.result
    c.keeps_table-then-keeps_table.result
    (subst (λ rs. IsTrue c.keeps_table.result ↔ AreKeys (KeepsAllPlaces rs t c.args.cur.now c.args.next.now) (find t c.args.cur.now)) c.items-rules.ensures c.keeps_table.ensures)
    c.if-keeps_table.true
    (subst (λ rs. IsTrue c.keeps_table-then-keeps_table.result ↔ AreKeys (KeepsAllPlaces rs t c.args.cur.now c.args.next.now) (find t c.args.next.now)) c.items-rules.ensures c.keeps_table-then-keeps_table.ensures)

pub returns-else-keeps_table : goal.returns-else-keeps_table
returns-else-keeps_table c =
    let t = c.table-table.result.now in
    required_not c.args.settings.now c.args.cur.now c.args.next.now c.args.mv.now t c.requires.is c.table-table.ensures c.keeps_table.result
    (subst (λ rs. IsTrue c.keeps_table.result ↔ AreKeys (KeepsAllPlaces rs t c.args.cur.now c.args.next.now) (find t c.args.cur.now)) c.items-rules.ensures c.keeps_table.ensures)
    c.if-keeps_table.false
