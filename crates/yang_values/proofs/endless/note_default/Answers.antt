use Rattle.std.proofs.Common.{◌≡◌, ◌∙◌, List, Result, Ok, Err, IfOk, ap}
use Rattle.yang_text.specs.Statements.{declaration}
use Rattle.yang_types.specs.DataType.{DataType}
use Rattle.yang_scope.specs.Faults.{least_of}
use Rattle.yang_scope.specs.declared.faults.Fault.{Fault}
use Rattle.yang_values.specs.Defaults.{bad_default}
use Rattle.yang_values.specs.WrittenTypes.{written_type}
use Rattle.yang_values.proofs.WrittenTypes.{default_alike, value_flat}
use Rattle.yang_values.proofs.endless.note_default.Goals as goal

then_ok : {T E : Type 0} (r : Result T E) (P Q : Type 0) → (P → Q) → IfOk r (λ _. P) → IfOk r (λ _. Q)
then_ok (Ok x) P Q next h = next h
then_ok (Err e) P Q next h = tt

pub returns : goal.returns
returns c =
    then_ok c.note_by_type.result _ _
    (λ h is_pattern decides accepts tells.
    let d = declaration c.args.statement.now in
    let e = declaration c.args.default.now in
    h is_pattern decides accepts tells
    ∙ ap (λ (fs : List Fault). least_of c.args.least.now fs)
    (ap (λ (t : DataType). bad_default accepts c.args.file t e) (value_flat is_pattern c.args.endings.now c.args.number d)
    ∙ default_alike accepts tells c.args.file (written_type is_pattern c.args.endings.now c.args.number d) e))
    c.note_by_type.ensures
