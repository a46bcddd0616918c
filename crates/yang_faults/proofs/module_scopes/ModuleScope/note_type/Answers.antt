use Rattle.std.proofs.Common.{List, sym, subst}
use Rattle.yang_text.specs.Statements.{declaration}
use Rattle.yang_scope.specs.Modules.{Module}
use Rattle.yang_values.specs.Circles.{DecidesCircles, circle}
use Rattle.yang_faults.specs.Types.{type_faults}
use Rattle.yang_faults.proofs.FaultLists.{least_of-two}
use Rattle.yang_faults.proofs.module_scopes.ModuleScope.note_type.Goals as goal

pub returns : goal.returns
returns c = λ tests decide.
    let s = c.args.self.now in
    let d = declaration c.args.statement.now in
    least_of-two c.args.least.now c.note_if_circle.new.least c.note_type_alone.new.least
    (circle (tests.is_on_circle s.names.now) s.file s.number d)
    (type_faults s.names.now tests s.file s.number c.args.kind d)
    (c.in_ok-note_if_circle.ensures (tests.is_on_circle s.names.now)
    (subst (λ (ms : List Module). DecidesCircles ms (tests.is_on_circle s.names.now)) (sym s.same) (decide.circles s.names.now)))
    (c.in_ok-note_type_alone.ensures tests decide)
