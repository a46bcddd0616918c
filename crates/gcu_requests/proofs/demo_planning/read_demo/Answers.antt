use Rattle.std.proofs.lemmas.Result.{err_from_is_err_and}
use Rattle.gcu_inputs.proofs.Finding.{always_refuses}
use Rattle.gcu_requests.proofs.DemoFinding.{demo_found, no_demo_ctx}
use Rattle.gcu_requests.proofs.demo_planning.read_demo.Goals as goal

-- there is nothing to judge by
pub returns-in_err-ctx-clause-answer : goal.returns-in_err-ctx-clause-answer
returns-in_err-ctx-clause-answer g c =
    let p = err_from_is_err_and c.from_residual.result c.from_residual.ensures.1 in
    rw (p.1, p.2)
    (no_demo_ctx (g.H.Host.told c.args.host.now)
    c.args.size.seed c.args.size.ports c.in_err-ctx.field-0.0 c.in_err-ctx.ensures.answer)

-- there is what is generated
pub returns-clause-answer : goal.returns-clause-answer
returns-clause-answer g c =
    demo_found (g.H.Host.told c.args.host.now) c.args.size.seed c.args.size.ports c.in_ok-ctx.ctx c.generate.result
    c.in_ok-ctx.ensures.answer c.generate.ensures.answer

pub returns-clause-cause : goal.returns-clause-cause
returns-clause-cause g c =
    always_refuses c.generate.result (g.H.Host.counts c.args.host.now) (g.H.Host.counts c.input_ctx.new.host)
    c.generate.ensures.cause
