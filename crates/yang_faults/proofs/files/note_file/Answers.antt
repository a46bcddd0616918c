use Rattle.std.proofs.Common.{◌++◌, map}
use Rattle.std.specs.List.{flat_map}
use Rattle.yang_text.specs.Statements.{declaration}
use Rattle.yang_faults.specs.declared.kinds.Kind.TheVariants.{File}
use Rattle.yang_faults.specs.Files.{no_module, no_statements}
use Rattle.yang_faults.specs.Sentences.{repeated_in}
use Rattle.yang_faults.proofs.FaultLists.{least_of-two}
use Rattle.yang_faults.proofs.files.note_file.Goals as goal

pub returns : goal.returns
returns c =
    let f = c.args.file in
    let ds = map declaration c.args.statements.now in
    least_of-two c.args.least.now c.note_empty.new.least c.note_no_modules.new.least (no_statements f ds) (repeated_in f File ds ++ flat_map (no_module f) ds)
    c.note_empty.ensures
    (least_of-two c.note_empty.new.least c.note_repeated_in.new.least c.note_no_modules.new.least (repeated_in f File ds) (flat_map (no_module f) ds) c.note_repeated_in.ensures c.note_no_modules.ensures)
