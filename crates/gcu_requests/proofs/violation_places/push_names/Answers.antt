use Rattle.std.proofs.Common.{◌≡◌, ◌∷◌, ◌++◌, [], Some, slice_get, ap, ◌∙◌, subst}
use Rattle.std.proofs.lemmas.Result.{on_ok_weaker}
use Rattle.gcu_requests.proofs.RowNames.{pair_at, entry_at, rule_is, names_added}
use Rattle.gcu_requests.proofs.violation_places.push_names.Goals as goal

pub returns-in-Some : goal.returns-in-Some
returns-in-Some c = λ b is breach.
    let v = c.args.violation.now in
    let config = c.args.config.now in
    let table = c.name_at-table.result.now in
    let entries = c.part_at-entries.result.now in
    let key = c.name_at-key.result.now in
    let fields = c.part_at-fields.result.now in
    let at : slice_get config b.table ≡ Some (table, entries) =
    subst (λ i. slice_get config i ≡ Some (table, entries)) (ap (λ w. w.table) is)
    (pair_at config v.table table entries c.name_at-table.ensures c.part_at-entries.ensures.part) in
    let at_key : slice_get entries b.key ≡ Some (key, fields) =
    subst (λ i. slice_get entries i ≡ Some (key, fields)) (ap (λ w. w.key) is)
    (pair_at entries v.key key fields c.name_at-key.ensures c.part_at-fields.ensures.part) in
    on_ok_weaker c.push_field.result
    (names_added c.args.models.now config b breach.row table key fields
    c.in-Some.rule v.field c.args.names.now c.push.new.self c.push-2.new.self c.push_field.new.names
    breach.at (entry_at c.args.models.now config b.table b.key table key entries fields breach.row at at_key breach.at)
    (rule_is b v c.rule_numbered.result c.in-Some.rule is c.rule_numbered.ensures c.in-Some.is) (ap (λ w. w.field) is)
    (c.in_ok-push.ensures.ok ∙ ap (λ n. c.args.names.now ++ n ∷ []) c.in_ok-new.ensures)
    (c.in_ok-push-2.ensures.ok ∙ ap (λ n. c.push.new.self ++ n ∷ []) c.in_ok-new-2.ensures))
    c.push_field.ensures
