use Rattle.std.proofs.lemmas.Result.{err_from_is_err_and}
use Rattle.gcu_inputs.proofs.ModelTexts.{no_list, list_read}
use Rattle.gcu_inputs.proofs.model_files.input_paths.Goals as goal

pub returns-in_err-bytes-clause-answer : goal.returns-in_err-bytes-clause-answer
returns-in_err-bytes-clause-answer g c =
    let p = err_from_is_err_and c.from_residual-in_err-bytes.result c.from_residual-in_err-bytes.ensures.1 in
    rw (p.1, p.2)
    (no_list (g.H.Host.told c.args.host.now) c.in_ok-path.path c.in_err-bytes.field-0.0 c.in_ok-path.ensures c.in_err-bytes.ensures.answer)

pub returns-clause-answer : goal.returns-clause-answer
returns-clause-answer g c =
    list_read (g.H.Host.told c.args.host.now) c.in_ok-path.path c.in_ok-bytes.bytes c.paths_in.result
    c.in_ok-path.ensures c.in_ok-bytes.ensures.answer
    (rw c.items.ensures at c.paths_in.ensures.answer) c.paths_in.ensures.cause
