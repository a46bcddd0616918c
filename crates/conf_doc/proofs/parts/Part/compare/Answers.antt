use Rattle.std.proofs.Common.{sym, ◌∙◌}
use Rattle.conf_doc.specs.PartOrder.{part_cmp}
use Rattle.conf_doc.proofs.PartOrders.{table_named, entry_named, value_named}
use Rattle.conf_doc.proofs.parts.Part.compare.Goals as goal

pub returns-in-Table-Table : goal.returns-in-Table-Table
returns-in-Table-Table c =
    let both = c.in-Table-Table in
    c.cmp.ensures ∙ table_named both.left both.right ∙ sym (λ j. part_cmp (both.is-0 j) (both.is-1 j))

pub returns-in-Entry-Entry : goal.returns-in-Entry-Entry
returns-in-Entry-Entry c =
    let both = c.in-Entry-Entry in
    c.cmp-in-Entry-Entry.ensures ∙ entry_named both.left both.right ∙ sym (λ j. part_cmp (both.is-0 j) (both.is-1 j))

pub returns-in-Value-Value : goal.returns-in-Value-Value
returns-in-Value-Value c =
    let both = c.in-Value-Value in
    c.cmp-in-Value-Value.ensures ∙ value_named both.left both.right ∙ sym (λ j. part_cmp (both.is-0 j) (both.is-1 j))
