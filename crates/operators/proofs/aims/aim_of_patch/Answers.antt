use Rattle.patch_core.specs.Operation.{operations}
use Rattle.operators.specs.Aims.{aim_view}
use Rattle.operators.proofs.ScriptRuns.{refused_aims}
use Rattle.operators.proofs.aims.aim_of_patch.Goals as goal

pub returns-in-Err-clause-aim : goal.returns-in-Err-clause-aim
returns-in-Err-clause-aim g c =
    refused_aims c.args.budget c.args.ctx.now (operations c.args.patch.now) c.args.now.now aim_view
    c.in-Err.refusal c.refused_unless_memory.result
    c.in-Err.ensures.answer c.in-Err.ensures.cause c.refused_unless_memory.ensures.other
    c.refused_unless_memory.ensures.aim
