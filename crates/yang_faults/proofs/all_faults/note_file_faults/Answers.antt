use Rattle.std.proofs.Common.{List, map}
use Rattle.yang_text.specs.Declarations.{Declaration}
use Rattle.yang_faults.specs.Files.{in_files, file_faults, modules_twice, tables_twice}
use Rattle.yang_faults.proofs.FaultLists.{least_of-two}
use Rattle.yang_faults.proofs.all_faults.note_file_faults.Goals as goal

pub returns : goal.returns
returns c =
    let ds : List (List Declaration) = map (λ f. f.1) c.args.files.now in
    least_of-two c.args.least.now c.note_files.new.least c.note_tables_twice.new.least
    (in_files file_faults 0 ds) _
    c.note_files.ensures
    (least_of-two c.note_files.new.least c.note_modules_twice.new.least c.note_tables_twice.new.least
    (modules_twice ds) (tables_twice ds)
    c.in_ok-note_modules_twice.ensures c.in_ok-note_tables_twice.ensures)
