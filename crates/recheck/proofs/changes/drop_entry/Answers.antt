use Rattle.std.proofs.Common.{subst, inr}
use Rattle.conf_doc.specs.WellFormed.{IsConfig}
use Rattle.conf_doc.specs.declared.configuration.Config.{Config}
use Rattle.recheck.specs.Changes.{IsTableHandled}
use Rattle.recheck.specs.Turned.{IsTurned, IsTurnedByTable}
use Rattle.recheck.specs.Within.{IsLeft}
use Rattle.recheck.proofs.OneEntry.{one_sound}
use Rattle.recheck.proofs.VerdictDrops.{among_among, one_truth, still_table}
use Rattle.recheck.proofs.ParallelWalks.{left_then}
use Rattle.recheck.proofs.VerdictOrder.{ordered_on}
use Rattle.recheck.proofs.changes.drop_entry.Goals as goal

pub returns-clause-among : goal.returns-clause-among
returns-clause-among c =
    among_among c.args.verdicts.now.items c.drop_readers_unless_same.new.verdicts.items c.drop_if_there.new.verdicts.items c.drop_readers_unless_same.ensures.among
    c.drop_if_there.ensures.among

pub returns-clause-left : goal.returns-clause-left
returns-clause-left c =
    let models = c.args.models.now in
    let config = c.args.index.now.config in
    let next = c.args.next.now in
    let old = c.args.verdicts.now.items in
    let mid = c.drop_readers_unless_same.new.verdicts.items in
    left_then (IsTurnedByTable models config next) (IsTurned models config next) (IsTurned models config next) (λ v is. inr is) (λ v is. is)
    old mid c.drop_if_there.new.verdicts.items
    (subst (λ (x : Config). IsLeft (IsTurnedByTable models x next) old mid) c.config-2.ensures c.drop_readers_unless_same.ensures.left) c.drop_if_there.ensures.left

pub returns-clause-sound : goal.returns-clause-sound
returns-clause-sound c =
    let models = c.args.models.now in
    let config = c.args.index.now.config in
    let next = c.args.next.now in
    let mid = c.drop_readers_unless_same.new.verdicts.items in
    let new = c.drop_if_there.new.verdicts.items in
    one_sound models config next c.args.verdicts.now.items new c.args.table.now c.args.key.now
    (subst (λ x. IsConfig x) c.config.ensures c.len.ensures.formed) c.len-2.ensures.formed (one_truth models c.have_files.ensures c.musts_have_one_truth.ensures)
    c.requires.agree (among_among c.args.verdicts.now.items mid new c.drop_readers_unless_same.ensures.among c.drop_if_there.ensures.among)
    c.drop_if_there.ensures.handled
    (still_table models config next mid new c.args.table.now c.drop_if_there.ensures.among
    (subst (λ (x : Config). IsTableHandled models x next mid c.args.table.now) c.config-2.ensures c.drop_readers_unless_same.ensures.handled))

pub returns-clause-ordered : goal.returns-clause-ordered
returns-clause-ordered c = λ sound within.
    ordered_on c.args.models.now (IsTurned c.args.models.now c.args.index.now.config c.args.next.now) c.args.index.now.config c.args.next.now
    c.args.verdicts.now.items c.drop_if_there.new.verdicts.items
    (subst (λ x. IsConfig x) c.config.ensures c.len.ensures.formed) c.len-2.ensures.formed (returns-clause-left c) within (returns-clause-sound c sound)
