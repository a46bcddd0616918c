use Rattle.std.proofs.Common.{◌&&◌, None, ◌∙◌, sym, ap}
use Rattle.yang_faults.specs.Rows.{row, kind_found, holds_remarks, is_remark}
use Rattle.yang_faults.proofs.Entries.{find-allowed}
use Rattle.yang_faults.proofs.rows.kind_below.Goals as goal

pub returns-in-Some : goal.returns-in-Some
returns-in-Some c =
    let remark = holds_remarks c.args.kind && is_remark c.args.keyword.now in
    sym (ap (λ o. kind_found o remark) (find-allowed c.row.result.now _ c.args.keyword.now (row c.args.kind) c.in-Some.ensures c.row.ensures))

pub returns-in-None : goal.returns-in-None
returns-in-None c =
    let remark = holds_remarks c.args.kind && is_remark c.args.keyword.now in
    c.word_if.ensures
    ∙ ap (λ b. kind_found None b) c.is_remark_below.ensures
    ∙ sym (ap (λ o. kind_found o remark) (find-allowed c.row.result.now _ c.args.keyword.now (row c.args.kind) c.in-None.ensures c.row.ensures))
