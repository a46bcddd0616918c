use Rattle.std.proofs.Common.{map}
use Rattle.std.specs.List.{flat_map}
use Rattle.yang_text.specs.Statements.{declaration}
use Rattle.yang_faults.specs.Duplicates.{prefixes_twice}
use Rattle.yang_faults.specs.Own.{misnamed}
use Rattle.yang_faults.proofs.FaultLists.{least_of-two}
use Rattle.yang_faults.proofs.own.note_module.Goals as goal

pub returns : goal.returns
returns c =
    let ds = map declaration c.args.statements.now in
    least_of-two c.args.least.now c.note_all_misnamed.new.least c.note_prefixes.new.least
    (flat_map (misnamed c.args.file c.args.name.now) ds)
    (prefixes_twice c.args.file ds)
    c.note_all_misnamed.ensures
    c.in_ok-note_prefixes.ensures
