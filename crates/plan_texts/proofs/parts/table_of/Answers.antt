use Rattle.std.proofs.Common.{None, Some, option_map, ap, ◌∙◌, refl, subst}
use Rattle.conf_doc.specs.Trees.{document}
use Rattle.conf_doc.specs.declared.parts.Part.TheVariants as part
use Rattle.plan_texts.specs.Parts.{IsShapedAs, wrap}
use Rattle.plan_texts.proofs.PartLemmas.{found_part, found_table, no_part, table_inside, table_wrapped}
use Rattle.plan_texts.proofs.parts.table_of.Goals as goal

pub returns-in_default : goal.returns-in_default
returns-in_default c =
    let d = document c.args.tree in
    let outer = c.in_ok-around.ensures in
    let shaped = subst (IsShapedAs (document c.in_ok-around.around)) c.in_default.is c.in_ok-config.ensures in
    no_part 1 d (wrap d) found_table (table_wrapped d) table_inside (subst (λ x. IsShapedAs x None) outer shaped)

pub returns-in-Some-table : goal.returns-in-Some-table
returns-in-Some-table c =
    let d = document c.args.tree in
    let config = c.in-Some.config in
    let outer = c.in_ok-around.ensures in
    let shaped = subst (IsShapedAs (document c.in_ok-around.around)) c.in-Some.is c.in_ok-config.ensures in
    let copied = c.in_ok-copy-in-Some-table.ensures in
    let finds = ap (λ x. Some (part.Table x)) copied.copy ∙ ap (option_map part.Table) c.in-Some-table.ensures.table in
    found_part 1 d (wrap d) found_table (table_wrapped d) table_inside config
    (subst (λ x. IsShapedAs x (Some config)) outer shaped) (Some (part.Table c.in_ok-copy-in-Some-table.field-0)) finds (refl, copied.formed)
