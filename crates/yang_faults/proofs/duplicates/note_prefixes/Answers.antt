use Rattle.std.proofs.Common.{[], List, map, take_all, ap, ◌∙◌}
use Rattle.yang_text.specs.Statements.{declaration}
use Rattle.yang_text.specs.declared.statements.Statement.{Statement}
use Rattle.yang_scope.specs.Faults.{least_of}
use Rattle.yang_faults.specs.Duplicates.{prefixes_given, prefixes_twice}
use Rattle.yang_faults.proofs.NameSequences.{NotesGiven-none, NotesGiven-more}
use Rattle.yang_faults.proofs.duplicates.note_prefixes.Goals as goal

pub loop-statement-init : goal.loop-statement-init
loop-statement-init c = NotesGiven-none c.args.least.now c.new-set.result

pub loop-statement-preserved : goal.loop-statement-preserved
loop-statement-preserved c =
    NotesGiven-more (prefixes_given c.args.file) c.args.statements.now c.loop-statement.statement-index c.statement-item.result c.loop-statement-test.true c.statement-item.is
    c.args.least.now c.loop-statement.least c.note_prefixes_of.new.least c.new-set.result c.loop-statement.set c.note_prefixes_of.new.set
    c.loop-statement.invariant c.in_ok-note_prefixes_of.ensures

pub returns : goal.returns
returns c =
    (c.loop-statement.invariant [] c.new-set.ensures).0
    ∙ ap (λ (ss : List Statement). least_of c.args.least.now (prefixes_twice c.args.file (map declaration ss))) (take_all c.loop-statement.statement-index c.args.statements.now c.loop-statement-test.false)
