use Rattle.std.proofs.Common.{List, map, take_all, subst}
use Rattle.std.specs.List.{flat_map}
use Rattle.yang_text.specs.Statements.{declaration}
use Rattle.yang_text.specs.declared.statements.Statement.{Statement}
use Rattle.yang_faults.specs.Duplicates.{given_by}
use Rattle.yang_faults.specs.Entries.{needed}
use Rattle.yang_faults.specs.NameSets.{NotesGiven}
use Rattle.yang_faults.proofs.NameSequences.{NotesGiven-none, NotesGiven-more}
use Rattle.yang_faults.proofs.duplicates.note_all_given.Goals as goal

pub loop-statement-init : goal.loop-statement-init
loop-statement-init c = NotesGiven-none c.args.least.now c.args.set.now

pub loop-statement-preserved : goal.loop-statement-preserved
loop-statement-preserved c =
    NotesGiven-more (given_by c.args.file (needed c.args.need.now)) c.args.statements.now c.loop-statement.statement-index c.statement-item.result c.loop-statement-test.true c.statement-item.is
    c.args.least.now c.loop-statement.least c.note_given.new.least c.args.set.now c.loop-statement.set c.note_given.new.set
    c.loop-statement.invariant c.in_ok-note_given.ensures

pub returns : goal.returns
returns c =
    let P : List Statement → Type 0 = λ ss. NotesGiven c.args.least.now c.loop-statement.least c.args.set.now c.loop-statement.set (flat_map (given_by c.args.file (needed c.args.need.now)) (map declaration ss)) in
    subst P (take_all c.loop-statement.statement-index c.args.statements.now c.loop-statement-test.false) c.loop-statement.invariant
