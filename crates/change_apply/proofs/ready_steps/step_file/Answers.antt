use Rattle.patch_core.specs.Operation.{operation_of}
use Rattle.change_apply.proofs.ReadySteps.{reads_of}
use Rattle.change_apply.proofs.ready_steps.step_file.Goals as goal

pub returns-clause-reads : goal.returns-clause-reads
returns-clause-reads c =
    reads_of c.args.mv.now (operation_of c.in_ok-operation.operation) c.in_ok-operation.ensures c.step_bytes.result c.step_bytes.ensures.text c.step_bytes.ensures.reads_back
