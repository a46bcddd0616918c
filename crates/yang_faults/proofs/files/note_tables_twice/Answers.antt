use Rattle.std.proofs.Common.{ℕ, [], List, map, take, take_all, ap, sym, subst, ◌∙◌}
use Rattle.yang_scope.specs.Faults.{least_of}
use Rattle.yang_text.specs.Declarations.{Declaration}
use Rattle.yang_faults.specs.Duplicates.{Given}
use Rattle.yang_faults.specs.Files.{in_files, tables_given, tables_twice}
use Rattle.yang_faults.specs.NameSets.{NotesGiven}
use Rattle.yang_faults.proofs.FileSteps.{in_files-one_more}
use Rattle.yang_faults.proofs.NameSequences.{NotesGiven-none, NotesGiven-append}
use Rattle.yang_faults.proofs.files.note_tables_twice.Goals as goal

pub loop-i-init : goal.loop-i-init
loop-i-init c = NotesGiven-none c.args.least.now c.new-set.result

pub loop-i-preserved : goal.loop-i-preserved
loop-i-preserved c =
    let fs = c.args.files.now in
    let i = c.loop-i.i in
    let f = c.index-files-i.result in
    let v : List ℕ × List Declaration → List Declaration = λ x. x.1 in
    let P : List Given → Type 0 = λ gs. NotesGiven c.args.least.now c.note_file_tables.new.least c.new-set.result c.note_file_tables.new.set gs in
    let Q : List Declaration → Type 0 = λ ds. NotesGiven c.loop-i.least c.note_file_tables.new.least c.loop-i.set c.note_file_tables.new.set (tables_given i ds) in
    subst P (sym (in_files-one_more tables_given v fs i f c.loop-i-test.true c.index-files-i.is))
    (NotesGiven-append c.args.least.now c.loop-i.least c.note_file_tables.new.least c.new-set.result c.loop-i.set c.note_file_tables.new.set (in_files tables_given 0 (map v (take i fs))) (tables_given i (v f))
    c.loop-i.invariant (subst Q c.items.ensures c.in_ok-note_file_tables.ensures))

pub returns : goal.returns
returns c =
    (c.loop-i.invariant [] c.new-set.ensures).0
    ∙ ap (λ (fs : List (List ℕ × List Declaration)). least_of c.args.least.now (tables_twice (map (λ x. x.1) fs))) (take_all c.loop-i.i c.args.files.now c.loop-i-test.false)
