use Rattle.std.proofs.Common.{List, ap, ◌∙◌}
use Rattle.yang_text.specs.Statements.{declaration}
use Rattle.yang_scope.specs.Faults.{least_of}
use Rattle.yang_scope.specs.Modules.{Module}
use Rattle.yang_values.specs.Defaults.{bad_default}
use Rattle.yang_values.specs.WrittenTypes.{written_type}
use Rattle.yang_faults.proofs.defaults.note_default_of.Goals as goal

pub returns : goal.returns
returns c = λ tests decide.
    let s = c.args.scope.now in
    c.in_ok-note_default.ensures tests.is_pattern decide.patterns tests.accepts decide.texts
    ∙ ap (λ (ms : List Module). least_of c.args.least.now (bad_default tests.accepts s.file (written_type tests.is_pattern ms s.number (declaration c.args.ty.now)) (declaration c.args.default.now))) s.same
