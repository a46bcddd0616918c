use Rattle.std.proofs.Common.{[]}
use Rattle.yang_faults.proofs.fields.note_fixed_fields.Goals as goal

pub returns : goal.returns
returns c = c.note_fields.ensures [] c.new.ensures
