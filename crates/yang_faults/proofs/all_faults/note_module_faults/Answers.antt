use Rattle.std.proofs.Common.{List, ap, ◌∙◌, sym, refl, arith, slice_get}
use Rattle.yang_scope.specs.Faults.{least_of}
use Rattle.yang_scope.specs.Modules.{Module}
use Rattle.yang_scope.specs.Statements.{each_from}
use Rattle.yang_scope.proofs.Tables.{take_end}
use Rattle.yang_faults.specs.AllFaults.{module_faults_at, faults_of_module}
use Rattle.yang_faults.proofs.FaultLists.{least_of-two}
use Rattle.yang_faults.proofs.ModuleSteps.{each_from-one_more}
use Rattle.std.proofs.Common.{take}
use Rattle.yang_faults.proofs.all_faults.note_module_faults.Goals as goal

pub loop-number-init : goal.loop-number-init
loop-number-init c = λ tests decide. refl

pub loop-number-preserved : goal.loop-number-preserved
loop-number-preserved c = λ tests decide.
    let modules = c.args.names.now in
    let n = c.loop-number.number in
    let f = module_faults_at modules tests in
    least_of-two c.args.least.now c.loop-number.least c.note_module.new.least
    (each_from f 0 (take n modules))
    (faults_of_module modules n (slice_get modules n) tests)
    (c.loop-number.invariant tests decide)
    (c.in_ok-note_module.ensures tests decide)
    ∙ ap (least_of c.args.least.now) (sym (each_from-one_more f modules n (omega arith)))

pub returns : goal.returns
returns c = λ tests decide.
    let modules = c.args.names.now in
    c.loop-number.invariant tests decide
    ∙ ap (λ (ms : List Module). least_of c.args.least.now (each_from (module_faults_at modules tests) 0 ms))
    (take_end c.loop-number.number modules (omega arith) (omega arith))
