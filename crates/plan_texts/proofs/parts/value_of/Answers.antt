use Rattle.std.proofs.Common.{None, Some, option_map, ap, ◌∙◌, refl, subst}
use Rattle.conf_doc.specs.Trees.{document}
use Rattle.conf_doc.specs.declared.parts.Part.TheVariants as part
use Rattle.plan_texts.specs.Parts.{IsShapedAs, wrap}
use Rattle.plan_texts.proofs.PartLemmas.{found_part, found_value, no_part, value_inside, value_wrapped}
use Rattle.plan_texts.proofs.parts.value_of.Goals as goal

pub returns-in_default : goal.returns-in_default
returns-in_default c =
    let d = document c.args.tree in
    let outer = c.in_ok-around.ensures ∙ ap wrap (c.in_ok-table.ensures ∙ ap wrap c.in_ok-entry.ensures) in
    let shaped = subst (IsShapedAs (document c.in_ok-around.around)) c.in_default.is c.in_ok-config.ensures in
    no_part 3 d (wrap (wrap (wrap d))) found_value (value_wrapped d) value_inside (subst (λ x. IsShapedAs x None) outer shaped)

pub returns-in-Some-value : goal.returns-in-Some-value
returns-in-Some-value c =
    let d = document c.args.tree in
    let config = c.in-Some.config in
    let outer = c.in_ok-around.ensures ∙ ap wrap (c.in_ok-table.ensures ∙ ap wrap c.in_ok-entry.ensures) in
    let shaped = subst (IsShapedAs (document c.in_ok-around.around)) c.in-Some.is c.in_ok-config.ensures in
    let copied = c.in_ok-copy-in-Some-value.ensures in
    let finds = ap (λ x. Some (part.Value x)) copied.copy ∙ ap (option_map part.Value) c.in-Some-value.ensures.value in
    found_part 3 d (wrap (wrap (wrap d))) found_value (value_wrapped d) value_inside config
    (subst (λ x. IsShapedAs x (Some config)) outer shaped) (Some (part.Value c.in_ok-copy-in-Some-value.field-0)) finds (refl, copied.formed)
