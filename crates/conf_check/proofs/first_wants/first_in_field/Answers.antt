use Rattle.std.proofs.Common.{true, false, [], ◌∷◌, Some, option_copied, sym, ap, ◌∙◌}
use Rattle.conf_check.specs.Rows.{texts_by_kind}
use Rattle.conf_check.proofs.WantSteps.{field_first}
use Rattle.conf_check.proofs.first_wants.first_in_field.Goals as goal

pub returns-else-rule-clause-first : goal.returns-else-rule-clause-first
returns-else-rule-clause-first c =
    field_first c.args.models.now c.args.config.now c.args.shape.now (c.args.name.now, c.args.value.now) c.in-Some.rule.now
    (c.as_str.result.now ∷ []) c.args.from c.first_in_text.result
    (sym c.rule_of_field.ensures ∙ ap option_copied c.in-Some.is)
    (ap (λ b. texts_by_kind b c.args.value.now) c.if-rule.false ∙ ap (texts_by_kind false) c.in-Text.is ∙ ap (λ s. Some (s ∷ [])) (sym c.as_str.ensures.text))
    c.first_in_text.ensures.first

pub returns-then-rule-2-clause-first : goal.returns-then-rule-2-clause-first
returns-then-rule-2-clause-first c =
    field_first c.args.models.now c.args.config.now c.args.shape.now (c.args.name.now, c.args.value.now) c.in-Some.rule.now
    c.items.result.now c.args.from c.first_in_texts.result
    (sym c.rule_of_field.ensures ∙ ap option_copied c.in-Some.is)
    (ap (λ b. texts_by_kind b c.args.value.now) c.if-rule-2.true ∙ ap (texts_by_kind true) c.in-List.is ∙ ap Some (sym c.items.ensures))
    c.first_in_texts.ensures.first
