use Rattle.std.proofs.Common.{[], ◌∷◌, sym, ◌∙◌}
use Rattle.gcu_words.specs.ScopeForm.{resume_word}
use Rattle.gcu_words.proofs.Choices.{first_by, second_by}
use Rattle.gcu_words.proofs.scope_form.cut_options.Goals as goal

pub returns-then-is_scope-clause-cut : goal.returns-then-is_scope-clause-cut
returns-then-is_scope-clause-cut c = (
  resume_word ∷ c.args.c.now ∷ c.args.d.now ∷ [],
  first_by _ _ _ c.if-is_scope.ensures,
  sym c.resumed_by-form.ensures.form,
)

pub returns-then-is_scope-2-clause-cut : goal.returns-then-is_scope-2-clause-cut
returns-then-is_scope-2-clause-cut c = (
  resume_word ∷ c.args.a.now ∷ c.args.b.now ∷ [],
  second_by _ _ _ c.if-is_scope.ensures ∙ first_by _ _ _ c.if-is_scope-2.ensures,
  sym c.resumed_by-form-then-is_scope-2.ensures.form,
)
