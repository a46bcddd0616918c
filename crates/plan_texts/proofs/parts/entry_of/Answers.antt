use Rattle.std.proofs.Common.{None, Some, option_map, ap, ◌∙◌, refl, subst}
use Rattle.conf_doc.specs.Trees.{document}
use Rattle.conf_doc.specs.declared.parts.Part.TheVariants as part
use Rattle.plan_texts.specs.Parts.{IsShapedAs, wrap}
use Rattle.plan_texts.proofs.PartLemmas.{found_part, found_entry, no_part, entry_inside, entry_wrapped}
use Rattle.plan_texts.proofs.parts.entry_of.Goals as goal

pub returns-in_default : goal.returns-in_default
returns-in_default c =
    let d = document c.args.tree in
    let outer = c.in_ok-around.ensures ∙ ap wrap c.in_ok-table.ensures in
    let shaped = subst (IsShapedAs (document c.in_ok-around.around)) c.in_default.is c.in_ok-config.ensures in
    no_part 2 d (wrap (wrap d)) found_entry (entry_wrapped d) entry_inside (subst (λ x. IsShapedAs x None) outer shaped)

pub returns-in-Some-entry : goal.returns-in-Some-entry
returns-in-Some-entry c =
    let d = document c.args.tree in
    let config = c.in-Some.config in
    let outer = c.in_ok-around.ensures ∙ ap wrap c.in_ok-table.ensures in
    let shaped = subst (IsShapedAs (document c.in_ok-around.around)) c.in-Some.is c.in_ok-config.ensures in
    let copied = c.in_ok-copy-in-Some-entry.ensures in
    let finds = ap (λ x. Some (part.Entry x)) copied.copy ∙ ap (option_map part.Entry) c.in-Some-entry.ensures.entry in
    found_part 2 d (wrap (wrap d)) found_entry (entry_wrapped d) entry_inside config
    (subst (λ x. IsShapedAs x (Some config)) outer shaped) (Some (part.Entry c.in_ok-copy-in-Some-entry.field-0)) finds (refl, copied.formed)
