use Rattle.std.proofs.Common.{ℕ, List, map, take, ap, sym, ◌∙◌}
use Rattle.yang_scope.specs.Faults.{least_of}
use Rattle.yang_text.specs.Declarations.{Declaration}
use Rattle.yang_faults.specs.Files.{in_files, file_faults}
use Rattle.yang_faults.proofs.FaultLists.{least_of-two}
use Rattle.yang_faults.proofs.FileSteps.{in_files-one_more}
use Rattle.yang_faults.proofs.files.note_files.Goals as goal

pub loop-i-preserved : goal.loop-i-preserved
loop-i-preserved c =
    let fs = c.args.files.now in
    let i = c.loop-i.i in
    let f = c.index-files-i.result in
    let v : List ℕ × List Declaration → List Declaration = λ x. x.1 in
    least_of-two c.args.least.now c.loop-i.least c.note_file.new.least (in_files file_faults 0 (map v (take i fs))) (file_faults i (v f))
    c.loop-i.invariant
    (c.note_file.ensures ∙ ap (λ (ds : List Declaration). least_of c.loop-i.least (file_faults i ds)) c.items.ensures)
    ∙ ap (least_of c.args.least.now) (sym (in_files-one_more file_faults v fs i f c.loop-i-test.true c.index-files-i.is))
