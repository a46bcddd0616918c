use Rattle.std.proofs.Common.{[], ◌∷◌, sym}
use Rattle.gcu_words.proofs.Choices.{first_by_both}
use Rattle.gcu_words.proofs.scope_form.cut_interruption.Goals as goal

pub returns-then-is_scope-clause-cut : goal.returns-then-is_scope-clause-cut
returns-then-is_scope-clause-cut c = (
  c.args.command.now ∷ [],
  first_by_both _ _ _ _ c.if-takes_scope.ensures c.if-is_scope.ensures,
  sym c.form_of_one-form.ensures.form,
)
