use Rattle.std.proofs.Common.{◌<◌, ◌∷◌, [], length, subst, sym, ap, ◌∙◌, arith}
use Rattle.std.proofs.lemmas.Result.{on_ok_weaker}
use Rattle.conf_doc.specs.declared.configuration.Value.TheVariants.{Text}
use Rattle.conf_doc.specs.declared.parts.Part.TheVariants as part
use Rattle.plan_check.proofs.Loops.{not_so}
use Rattle.plan_check.proofs.Taking.{other_table, puts_required}
use Rattle.plan_check.proofs.candidates.add_required.Goals as goal

pub returns-then-not-is_name : goal.returns-then-not-is_name
returns-then-not-is_name c =
    other_table c.args.table.now c.args.key.now c.args.rule.now c.args.found.now.items
    (λ same. not_so c.is_name.result c.is_name.ensures.1 c.if-not-is_name.true (c.as_str.ensures.text ∙ same))

pub new-requires : goal.new-requires
new-requires c =
    let table : 0 < length c.args.table.now = subst (λ n. 0 < length n) (sym c.as_str.ensures.text ∙ c.is_name.ensures.0 c.if-not-is_name.false) c.requires.rule.0 in
    let field : 0 < length c.as_str-field.result.now = subst (λ n. 0 < length n) (sym c.as_str-field.ensures.text) c.requires.rule.1 in
    record { some = omega arith; few = omega arith; named = (table, (c.requires.key, (field, tt))) }

pub returns : goal.returns
returns c =
    let t = c.args.table.now in
    let k = c.args.key.now in
    on_ok_weaker c.add_puts.result
    (λ takes. puts_required t k c.args.rule.now c.in_ok-place.place (part.Value (Text c.in_ok-value.value)) c.args.found.now.items c.add_puts.new.found.items
    (c.in_ok-place.ensures ∙ ap (λ f. t ∷ k ∷ f ∷ []) c.as_str-field.ensures.text) (ap (λ v. part.Value (Text v)) c.in_ok-value.ensures) takes)
    c.add_puts.ensures
