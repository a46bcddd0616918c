use Rattle.std.proofs.Common.{arith}
use Rattle.recheck.proofs.EntryValidity.{tables_end, tables_more, tables_start}
use Rattle.recheck.proofs.EntryCounts.{tables_all, tables_walked, walked_none}
use Rattle.recheck.proofs.LookedEntries.{looked_all, looked_none, looked_tables}
use Rattle.recheck.proofs.rechecks.check_rest.Goals as goal

pub loop-table-preserved : goal.loop-table-preserved
loop-table-preserved c = record {
  valid =
      tables_more c.args.models.now c.args.config.now c.loop-table.table c.loop-table.valid c.in_ok-holds.holds c.both-valid.result c.loop-table.invariant.valid
      c.in_ok-holds.ensures.valid c.both-valid.ensures;
  sound = c.check_table.ensures.sound;
  rises = omega (arith, c.loop-table.invariant.rises, c.check_table.ensures.rises);
  walked =
      tables_walked c.args.models.now c.args.config.now c.loop-table.table c.args.walk.now.verdicts.items c.loop-table.walk.verdicts.items
      c.check_table.new.walk.verdicts.items c.args.walk.now.behind c.loop-table.walk.behind c.check_table.new.walk.behind
      c.args.checked.now c.loop-table.checked c.check_table.new.checked c.loop-table.valid c.in_ok-holds.holds c.both-valid.result
      (omega (arith, c.len-table-end.ensures.len, c.loop-table-test.true)) c.loop-table.invariant.walked c.in_ok-holds.ensures.walked c.both-valid.ensures.0;
  looked =
      looked_tables c.args.models.now c.args.config.now c.loop-table.table c.args.walk.now.verdicts.items c.loop-table.walk.verdicts.items
      c.check_table.new.walk.verdicts.items (omega (arith, c.len-table-end.ensures.len, c.loop-table-test.true)) c.loop-table.invariant.looked
      c.in_ok-holds.ensures.looked;
}

pub returns-clause-valid : goal.returns-clause-valid
returns-clause-valid c =
    tables_end c.args.models.now c.args.config.now c.loop-table.table c.loop-table.valid (omega (arith, c.len-table-end.ensures.len, c.loop-table-test.false))
    c.loop-table.invariant.valid

pub returns-clause-walked : goal.returns-clause-walked
returns-clause-walked c =
    tables_all c.args.models.now c.args.config.now c.loop-table.table c.args.walk.now.verdicts.items c.loop-table.walk.verdicts.items
    c.args.walk.now.behind c.loop-table.walk.behind c.args.checked.now c.loop-table.checked c.loop-table.valid
    (omega (arith, c.len-table-end.ensures.len, c.loop-table-test.false)) c.loop-table.invariant.walked

pub loop-table-init : goal.loop-table-init
loop-table-init c = record {
  valid = tables_start c.args.models.now c.args.config.now;
  sound = c.requires.sound;
  rises = omega arith;
  walked = walked_none c.args.walk.now.verdicts.items c.args.walk.now.behind c.args.checked.now;
  looked = looked_none c.args.models.now c.args.config.now c.args.walk.now.verdicts.items;
}

pub returns-clause-looked : goal.returns-clause-looked
returns-clause-looked c =
    looked_all c.args.models.now c.args.config.now c.loop-table.table c.args.walk.now.verdicts.items c.loop-table.walk.verdicts.items
    (omega (arith, c.len-table-end.ensures.len, c.loop-table-test.false)) c.loop-table.invariant.looked
