use Rattle.gcu_words.specs.FormView.{form_view}
use Rattle.gcu_words.proofs.ManyWords.{more_is}
use Rattle.gcu_words.proofs.form.read_form.Goals as goal

-- three words or more
pub returns-in-len2-up-clause-form : goal.returns-in-len2-up-clause-form
returns-in-len2-up-clause-form c =
    more_is c.args.words.now c.command-item-2.result c.word-item-2.result (form_view c.form_of_more.result) c.in-len2-up.len_at_least c.command-item-2.is c.word-item-2.is c.form_of_more.ensures.form
