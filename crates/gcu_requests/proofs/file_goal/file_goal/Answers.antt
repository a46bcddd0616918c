use Rattle.std.proofs.lemmas.Result.{err_from_is_err_and}
use Rattle.gcu_inputs.proofs.Finding.{always_refuses}
use Rattle.gcu_requests.proofs.PlanFinding.{file_found, no_file}
use Rattle.gcu_requests.proofs.file_goal.file_goal.Goals as goal

-- there is no file
pub returns-in_err-bytes-clause-answer : goal.returns-in_err-bytes-clause-answer
returns-in_err-bytes-clause-answer g c =
    let p = err_from_is_err_and c.from_residual.result c.from_residual.ensures.1 in
    rw (p.1, p.2)
    (no_file (g.H.Host.told c.args.host.now) c.args.path.now c.in_err-bytes.field-0.0 c.in_err-bytes.ensures.answer)

-- there is a file
pub returns-clause-answer : goal.returns-clause-answer
returns-clause-answer g c =
    file_found (g.H.Host.told c.args.host.now) c.args.path.now c.in_ok-bytes.bytes c.find_config.result
    c.in_ok-bytes.ensures.answer (rw c.items.ensures at c.find_config.ensures.answer) c.find_config.ensures.cause

pub returns-clause-cause : goal.returns-clause-cause
returns-clause-cause g c =
    always_refuses c.find_config.result (g.H.Host.counts c.args.host.now) (g.H.Host.counts c.input_bytes.new.host)
    c.find_config.ensures.cause
