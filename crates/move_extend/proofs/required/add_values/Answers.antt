use Rattle.std.proofs.Common.{ap, slice_get, subst, sym, ◌∙◌}
use Rattle.std.proofs.lemmas.Result.{on_ok_weaker}
use Rattle.conf_doc.specs.Pairs.{find}
use Rattle.move_core.specs.Contexts.{rulebook}
use Rattle.move_core.specs.Extensions.{IsRequired}
use Rattle.move_extend.specs.Found.{Finds}
use Rattle.move_extend.specs.Requireds.{RulesGive, TableGives}
use Rattle.move_extend.proofs.DistinctLists.{finds_as, finds_both}
use Rattle.move_extend.proofs.Requireds.{required_at, required_in}
use Rattle.move_extend.proofs.required.add_values.Goals as goal

pub returns-then-len-gt1 : goal.returns-then-len-gt1
returns-then-len-gt1 c =
    let t = c.table-table.result.now in
    let k = c.name_at.result.now in
    let d = c.args.change.now in
    on_ok_weaker c.add_rules.result
    (λ finds. finds_as (RulesGive d c.args.ctx.now.settings.required t k) (IsRequired (rulebook c.args.ctx.now) d.cur.now c.args.mv.now) c.args.found.now c.add_rules.new.found
    (λ x. required_at c.args.ctx.now d c.args.mv.now x t c.requires.models c.requires.next c.table-table.ensures k
    (ap (λ p. slice_get p 1) (sym c.place-place.ensures) ∙ c.name_at.ensures.name))
    (subst (λ rs. Finds (RulesGive d rs t k) c.args.found.now c.add_rules.new.found) c.items-rules.ensures finds))
    c.add_rules.ensures

pub returns-in_ok-add_table : goal.returns-in_ok-add_table
returns-in_ok-add_table c =
    let t = c.table-table.result.now in
    let d = c.args.change.now in
    let rules = c.args.ctx.now.settings.required in
    let old = c.args.found.now in
    let mid = c.add_table.new.found in
    let new = c.add_table-else-len-gt1.new.found in
    let before : Finds (TableGives d rules t (find t d.cur.now)) old mid =
    subst (λ rs. Finds (TableGives d rs t (find t d.cur.now)) old mid) c.items-rules.ensures c.in_ok-add_table.ensures in
    on_ok_weaker c.add_table-else-len-gt1.result
    (λ finds. finds_both (TableGives d rules t (find t d.cur.now)) (TableGives d rules t (find t d.next.now)) (IsRequired (rulebook c.args.ctx.now) d.cur.now c.args.mv.now) old mid new
    (λ x. required_in c.args.ctx.now d c.args.mv.now x t c.requires.models c.requires.next c.table-table.ensures) before
    (subst (λ rs. Finds (TableGives d rs t (find t d.next.now)) mid new) c.items-rules.ensures finds))
    c.add_table-else-len-gt1.ensures
