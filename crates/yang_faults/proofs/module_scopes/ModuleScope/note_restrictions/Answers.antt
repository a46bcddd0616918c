use Rattle.yang_text.specs.Statements.{declaration}
use Rattle.yang_scope.specs.TypeFaults.{bad_patterns}
use Rattle.yang_values.specs.BoundFaults.{bad_bounds}
use Rattle.yang_faults.proofs.FaultLists.{least_of-two}
use Rattle.yang_faults.proofs.module_scopes.ModuleScope.note_restrictions.Goals as goal

pub returns : goal.returns
returns c = λ tests decide.
    let s = c.args.self.now in
    let d = declaration c.args.statement.now in
    least_of-two c.args.least.now c.note_bad_patterns.new.least c.note_bad_bounds.new.least
    (bad_patterns tests.is_pattern s.file d)
    (bad_bounds s.names.now s.file s.number d)
    (c.in_ok-note_bad_patterns.ensures tests.is_pattern decide.patterns)
    c.in_ok-note_bad_bounds.ensures
