use Rattle.std.proofs.Common.{map}
use Rattle.std.specs.List.{flat_map}
use Rattle.yang_text.specs.Statements.{declaration}
use Rattle.yang_faults.specs.Fields.{field_faults, key_names}
use Rattle.yang_faults.specs.Keys.{keys_faults}
use Rattle.yang_faults.proofs.FaultLists.{least_of-two}
use Rattle.yang_faults.proofs.own.note_list.Goals as goal

pub returns : goal.returns
returns c =
    let ds = map declaration c.args.statements.now in
    least_of-two c.args.least.now c.note_keys.new.least c.note_list_fields.new.least
    (keys_faults c.args.file ds)
    (flat_map (field_faults c.args.file (key_names ds)) ds)
    c.in_ok-note_keys.ensures
    c.in_ok-note_list_fields.ensures
