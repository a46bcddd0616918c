use Rattle.std.proofs.Common.{refl}
use Rattle.scope_commands.proofs.ScopesSolving.{solved_found, unsolved_found, unsolved_refuses}
use Rattle.scope_commands.proofs.plan_scopes.find_one.Goals as goal

pub returns-in-Ok-clause-answer : goal.returns-in-Ok-clause-answer
returns-in-Ok-clause-answer g c =
    solved_found c.args.ctx.now c.args.budget c.args.from.now _ refl c.in-Ok.ensures.answer

pub returns-in-Err-clause-answer : goal.returns-in-Err-clause-answer
returns-in-Err-clause-answer g c =
    unsolved_found c.args.ctx.now c.args.budget c.args.from.now c.in-Err.refusal c.refuse_scope.result
    c.in-Err.ensures.answer c.refuse_scope.ensures

pub returns-in-Err-clause-cause : goal.returns-in-Err-clause-cause
returns-in-Err-clause-cause g c =
    unsolved_refuses c.args.ctx.now c.args.budget c.args.from.now c.in-Err.refusal c.refuse_scope.result
    c.in-Err.ensures.answer c.refuse_scope.ensures
