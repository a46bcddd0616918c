use Rattle.std.proofs.Common.{◌↔◌, ◌≤◌, IsTrue, take}
use Rattle.recheck.specs.Entries.{entries_in}
use Rattle.recheck.specs.Rechecks.{AreLooked, AreWalked, AreKeysValid}
use Rattle.recheck.specs.Verdicts.{AreSound}
use Rattle.recheck.proofs.rechecks.check_keys.Given as goal

abbrev pub invariant-loop-i : goal.invariant-loop-i
invariant-loop-i l = record {
  valid : IsTrue l.valid ↔ AreKeysValid l.models l.config l.table l.i;
  sound : AreSound l.models l.config l.walk.verdicts.items;
  rises : l.fn.checked ≤ l.checked;
  walked : AreWalked (take l.i (entries_in (l.name, l.entries))) l.fn.walk.verdicts.items l.fn.walk.behind l.walk.verdicts.items l.walk.behind
      l.fn.checked l.checked l.valid;
  looked : AreLooked l.models l.config (take l.i (entries_in (l.name, l.entries))) l.fn.walk.verdicts.items l.walk.verdicts.items;
}
