use Rattle.std.proofs.Common.{map}
use Rattle.yang_text.specs.Statements.{declaration}
use Rattle.yang_faults.specs.Fields.{key_names}
use Rattle.yang_faults.proofs.fields.note_list_fields.Goals as goal

pub returns : goal.returns
returns c = c.note_fields.ensures (key_names (map declaration c.args.statements.now)) c.in_ok-keys.ensures
