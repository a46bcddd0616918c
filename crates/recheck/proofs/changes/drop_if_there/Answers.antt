use Rattle.std.proofs.Common.{ap, ◌∙◌}
use Rattle.conf_doc.specs.declared.configuration.Config.{Config}
use Rattle.ref_index.specs.Agreements.{entry_of}
use Rattle.recheck.proofs.VerdictDrops.{among_itself}
use Rattle.recheck.proofs.RemainingVerdicts.{one_handled, one_turns, there_none}
use Rattle.recheck.proofs.ParallelWalks.{left_for, left_itself}
use Rattle.recheck.proofs.changes.drop_if_there.Goals as goal

pub returns-in_default-clause-among : goal.returns-in_default-clause-among
returns-in_default-clause-among c = among_itself c.args.verdicts.now.items

pub returns-in_default-clause-handled : goal.returns-in_default-clause-handled
returns-in_default-clause-handled c = λ there.
    absurd (there_none (entry_of c.args.table.now c.args.key.now c.args.index.now.config)
    (c.in_default.ensures.entry ∙ ap (λ (x : Config). entry_of c.args.table.now c.args.key.now x) c.config.ensures) there)

pub returns-in_default-clause-left : goal.returns-in_default-clause-left
returns-in_default-clause-left c = left_itself _ c.args.verdicts.now.items

pub returns-clause-handled : goal.returns-clause-handled
returns-clause-handled c = λ _.
    one_handled c.args.models.now c.args.index.now.config c.args.next.now c.args.table.now c.args.key.now c.in-Some.entry.now c.entry-2.result
    (c.in-Some.ensures.entry ∙ ap (λ (x : Config). entry_of c.args.table.now c.args.key.now x) c.config.ensures)
    c.entry-2.ensures.entry c.drop_unless_same.new.verdicts.items c.drop_unless_same.ensures.handled

pub returns-clause-left : goal.returns-clause-left
returns-clause-left c =
    left_for _ _
    (one_turns c.args.models.now c.args.index.now.config c.args.next.now c.args.table.now c.args.key.now c.in-Some.entry.now c.entry-2.result
    (c.in-Some.ensures.entry ∙ ap (λ (x : Config). entry_of c.args.table.now c.args.key.now x) c.config.ensures) c.entry-2.ensures.entry)
    c.args.verdicts.now.items c.drop_unless_same.new.verdicts.items c.drop_unless_same.ensures.left
