use Rattle.std.proofs.Common.{sym}
use Rattle.yang_must.proofs.Reading.{reads_nothing, if_bad}
use Rattle.yang_must.proofs.must_values.read_expression.Goals as goal

pub returns-in-Ok : goal.returns-in-Ok
returns-in-Ok c = λ read is. sym ((is.reads _ _).1 c.in-Ok.ensures.spelled)

pub returns-in-Err-Bad : goal.returns-in-Err-Bad
returns-in-Err-Bad c = λ read is. reads_nothing read c.args.text.now is (if_bad c.in-Err-Bad.field-0 c.in-Err-Bad.field-0-0 _ c.in-Err-Bad.field-0-is c.in-Err-Bad.ensures.unspelled)
