use Rattle.std.proofs.Common.{◌≡◌, ◌≤◌, None, length, sym, ap, subst, inr, arith}
use Rattle.conf_doc.specs.WellFormed.{IsConfig}
use Rattle.recheck.proofs.VerdictDrops.{among_among, among_itself, names_past, names_start, names_step, one_truth, still_handled, tables_end, tables_more, tables_start}
use Rattle.conf_doc.specs.Pairs.{find}
use Rattle.conf_doc.specs.declared.configuration.Config.{Config}
use Rattle.recheck.specs.Turned.{IsTurned, IsTurnedByTable}
use Rattle.recheck.specs.Within.{IsLeft}
use Rattle.recheck.proofs.RemainingVerdicts.{left_more}
use Rattle.recheck.proofs.ParallelWalks.{left_itself, left_then}
use Rattle.recheck.proofs.VerdictOrder.{ordered_on}
use Rattle.recheck.proofs.changes.drop_changed.Goals as goal

pub loop-table-init : goal.loop-table-init
loop-table-init c =
    let old = c.args.verdicts.now.items in
    record {
      among = among_itself old;
      left = left_itself _ old;
      handled = tables_start c.args.models.now c.args.index.now.config c.args.next.now old;
      firsts = names_start c.args.models.now c.args.index.now.config c.args.next.now old c.args.index.now.config;
    }

pub loop-table-preserved : goal.loop-table-preserved
loop-table-preserved c =
    let models = c.args.models.now in
    let config = c.args.index.now.config in
    let next = c.args.next.now in
    let t = c.loop-table.table in
    let old = c.loop-table.verdicts.items in
    let new = c.drop_keys.new.verdicts.items in
    record {
      among = among_among c.args.verdicts.now.items old new c.loop-table.invariant.among c.drop_keys.ensures.among;
      left = left_more (IsTurned models config next) c.args.verdicts.now.items old new c.loop-table.invariant.left c.drop_keys.ensures.left;
      handled = tables_more models config next old new t c.loop-table.invariant.handled c.drop_keys.ensures.among c.drop_keys.ensures.handled;
      firsts = names_step models config next old new config t c.loop-table.invariant.firsts c.drop_keys.ensures.among c.drop_keys.ensures.table;
    }

pub returns-clause-among : goal.returns-clause-among
returns-clause-among c =
    among_among c.args.verdicts.now.items c.loop-table.verdicts.items c.drop_added.new.verdicts.items c.loop-table.invariant.among c.drop_added.ensures.among

pub returns-clause-left : goal.returns-clause-left
returns-clause-left c =
    let models = c.args.models.now in
    let config = c.args.index.now.config in
    let next = c.args.next.now in
    let old = c.loop-table.verdicts.items in
    let new = c.drop_added.new.verdicts.items in
    left_then (IsTurned models config next) (IsTurnedByTable models config next) (IsTurned models config next) (λ v is. is) (λ v is. inr is)
    c.args.verdicts.now.items old new c.loop-table.invariant.left
    (subst (λ (x : Config). IsLeft (IsTurnedByTable models x next) old new) c.config-2.ensures c.drop_added.ensures.left)

pub returns-clause-sound : goal.returns-clause-sound
returns-clause-sound c =
    let models = c.args.models.now in
    let config = c.args.index.now.config in
    let next = c.args.next.now in
    let first = c.args.verdicts.now.items in
    let old = c.loop-table.verdicts.items in
    let new = c.drop_added.new.verdicts.items in
    let among = c.drop_added.ensures.among in
    let same : length c.config.result.now ≡ length config = ap length c.config.ensures in
    let past : length config ≤ c.loop-table.table = omega (arith, same, c.len-table-end.ensures.len, c.loop-table-test.false) in
    tables_end models config next first new (subst (λ x. IsConfig x) c.config.ensures c.len-table-end.ensures.formed) c.len.ensures.formed
    (one_truth models c.have_files.ensures c.musts_have_one_truth.ensures)
    (among_among first old new c.loop-table.invariant.among among)
    (λ table key t k is lt. still_handled models config next old new table key among (c.loop-table.invariant.handled table key t k is (omega (arith, lt, past))))
    (names_past models config next old new config c.loop-table.table (length config) c.loop-table.invariant.firsts among past)
    (λ u name lt at lacks. c.drop_added.ensures.dropped u name lt at (subst (λ (x : Config). find name x ≡ None) (sym c.config-2.ensures) lacks))

pub returns-clause-ordered : goal.returns-clause-ordered
returns-clause-ordered c = λ sound within.
    ordered_on c.args.models.now (IsTurned c.args.models.now c.args.index.now.config c.args.next.now) c.args.index.now.config c.args.next.now
    c.args.verdicts.now.items c.drop_added.new.verdicts.items
    (subst (λ x. IsConfig x) c.config.ensures c.len-table-end.ensures.formed) c.len.ensures.formed (returns-clause-left c) within (returns-clause-sound c sound)
