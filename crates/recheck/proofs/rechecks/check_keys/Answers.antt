use Rattle.std.proofs.Common.{sym, ◌∙◌, arith}
use Rattle.recheck.proofs.EntryValidity.{keys_end, keys_more, keys_start}
use Rattle.recheck.proofs.Pairs.{pair_at, some_same}
use Rattle.recheck.proofs.VerdictWalks.{entry_at, there_at}
use Rattle.recheck.proofs.EntryCounts.{keys_all, keys_walked, walked_none}
use Rattle.recheck.proofs.LookedEntries.{looked_keys, looked_none, looked_table}
use Rattle.recheck.proofs.rechecks.check_keys.Goals as goal

pub check_at-requires-clause-there : goal.check_at-requires-clause-there
check_at-requires-clause-there c =
    there_at c.args.config.now c.args.table c.loop-i.i c.name_at-name.result.now c.name_at.result.now c.part_at-entries.ensures.formed
    (entry_at c.args.config.now c.args.table c.loop-i.i c.name_at-name.result.now c.name_at.result.now c.part_at-entries.result.now c.name_at-name.ensures
    c.part_at-entries.ensures.part c.name_at.ensures)

pub loop-i-preserved : goal.loop-i-preserved
loop-i-preserved c = record {
  valid =
      keys_more c.args.models.now c.args.config.now c.part_at-entries.ensures.formed c.args.table c.loop-i.i c.name_at-name.result.now c.name_at.result.now
      (entry_at c.args.config.now c.args.table c.loop-i.i c.name_at-name.result.now c.name_at.result.now c.part_at-entries.result.now c.name_at-name.ensures
      c.part_at-entries.ensures.part c.name_at.ensures)
      c.loop-i.valid c.in_ok-holds.holds c.both-valid.result c.loop-i.invariant.valid c.in_ok-holds.ensures.valid c.both-valid.ensures;
  sound = c.check_at.ensures.sound;
  rises = omega (arith, c.loop-i.invariant.rises, c.check_at.ensures.rises);
  walked =
      keys_walked c.name_at-name.result.now c.part_at-entries.result.now c.loop-i.i c.name_at.result.now c.args.walk.now.verdicts.items
      c.loop-i.walk.verdicts.items c.check_at.new.walk.verdicts.items c.args.walk.now.behind c.loop-i.walk.behind c.check_at.new.walk.behind
      c.args.checked.now c.loop-i.checked c.check_at.new.checked c.loop-i.valid c.in_ok-holds.holds c.both-valid.result c.name_at.ensures
      c.loop-i.invariant.walked c.in_ok-holds.ensures.walked c.both-valid.ensures.0;
  looked =
      looked_keys c.args.models.now c.args.config.now c.name_at-name.result.now c.part_at-entries.result.now c.loop-i.i c.name_at.result.now
      c.args.walk.now.verdicts.items c.loop-i.walk.verdicts.items c.check_at.new.walk.verdicts.items c.name_at.ensures
      c.loop-i.invariant.looked c.in_ok-holds.ensures.looked;
}

pub returns-clause-valid : goal.returns-clause-valid
returns-clause-valid c =
    keys_end c.args.models.now c.args.config.now c.args.table c.loop-i.i c.name_at-name.result.now c.part_at-entries.result.now c.loop-i.valid
    (pair_at c.args.config.now c.args.table c.name_at-name.result.now c.part_at-entries.result.now c.name_at-name.ensures c.part_at-entries.ensures.part)
    (omega (arith, c.len-i-end.ensures.len, c.loop-i-test.false)) c.loop-i.invariant.valid

pub returns-clause-walked : goal.returns-clause-walked
returns-clause-walked c = λ p at.
    let pair = pair_at c.args.config.now c.args.table c.name_at-name.result.now c.part_at-entries.result.now c.name_at-name.ensures c.part_at-entries.ensures.part in
    keys_all p c.name_at-name.result.now c.part_at-entries.result.now c.loop-i.i c.args.walk.now.verdicts.items c.loop-i.walk.verdicts.items
    c.args.walk.now.behind c.loop-i.walk.behind c.args.checked.now c.loop-i.checked c.loop-i.valid
    (some_same (c.name_at-name.result.now, c.part_at-entries.result.now) p (sym pair ∙ at)) (omega (arith, c.len-i-end.ensures.len, c.loop-i-test.false))
    c.loop-i.invariant.walked

pub loop-i-init : goal.loop-i-init
loop-i-init c = record {
  valid = keys_start c.args.models.now c.args.config.now c.args.table;
  sound = c.requires.sound;
  rises = omega arith;
  walked = walked_none c.args.walk.now.verdicts.items c.args.walk.now.behind c.args.checked.now;
  looked = looked_none c.args.models.now c.args.config.now c.args.walk.now.verdicts.items;
}

pub returns-clause-looked : goal.returns-clause-looked
returns-clause-looked c = λ p at.
    let pair = pair_at c.args.config.now c.args.table c.name_at-name.result.now c.part_at-entries.result.now c.name_at-name.ensures c.part_at-entries.ensures.part in
    looked_table c.args.models.now c.args.config.now p c.name_at-name.result.now c.part_at-entries.result.now c.loop-i.i c.args.walk.now.verdicts.items
    c.loop-i.walk.verdicts.items (some_same (c.name_at-name.result.now, c.part_at-entries.result.now) p (sym pair ∙ at))
    (omega (arith, c.len-i-end.ensures.len, c.loop-i-test.false)) c.loop-i.invariant.looked
