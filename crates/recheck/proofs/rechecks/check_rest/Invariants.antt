use Rattle.std.proofs.Common.{◌↔◌, ◌≤◌, IsTrue, take}
use Rattle.recheck.specs.Entries.{entries_of}
use Rattle.recheck.specs.Rechecks.{AreLooked, AreWalked, AreTablesValid}
use Rattle.recheck.specs.Verdicts.{AreSound}
use Rattle.recheck.proofs.rechecks.check_rest.Given as goal

abbrev pub invariant-loop-table : goal.invariant-loop-table
invariant-loop-table l = record {
  valid : IsTrue l.valid ↔ AreTablesValid l.models l.config l.table;
  sound : AreSound l.models l.config l.walk.verdicts.items;
  rises : l.fn.checked ≤ l.checked;
  walked : AreWalked (entries_of l.models (take l.table l.config)) l.fn.walk.verdicts.items l.fn.walk.behind l.walk.verdicts.items l.walk.behind
      l.fn.checked l.checked l.valid;
  looked : AreLooked l.models l.config (entries_of l.models (take l.table l.config)) l.fn.walk.verdicts.items l.walk.verdicts.items;
}
