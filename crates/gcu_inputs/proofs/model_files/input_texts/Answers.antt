use Rattle.std.proofs.lemmas.Result.{err_from_is_err_and}
use Rattle.gcu_inputs.proofs.ModelTexts.{no_files, texts_read}
use Rattle.gcu_inputs.proofs.model_files.input_texts.Goals as goal

pub returns-in_err-files-clause-answer : goal.returns-in_err-files-clause-answer
returns-in_err-files-clause-answer g c =
    let p = err_from_is_err_and c.from_residual-in_err-files.result c.from_residual-in_err-files.ensures.1 in
    rw (p.1, p.2)
    (no_files (g.H.Host.told c.args.host.now) c.in_ok-paths.paths c.in_err-files.field-0.0 c.in_ok-paths.ensures.answer
    (rw (c.in_ok-paths.ensures.reads.state, c.items.ensures, c.new.ensures) at c.in_err-files.ensures.answer))

pub returns-clause-answer : goal.returns-clause-answer
returns-clause-answer g c =
    texts_read (g.H.Host.told c.args.host.now) c.in_ok-paths.paths c.in_ok-files.files c.texts_of.result
    c.in_ok-paths.ensures.answer
    (rw (c.in_ok-paths.ensures.reads.state, c.items.ensures, c.new.ensures) at c.in_ok-files.ensures.answer)
    (rw (c.items-2.ensures, c.new-2.ensures) at c.texts_of.ensures.answer) c.texts_of.ensures.cause
