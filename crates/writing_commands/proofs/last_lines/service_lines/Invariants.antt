use Rattle.std.proofs.Common.{◌≡◌, ◌<◌, ℕ, List, length, map, Some}
use Rattle.std.specs.Prelude.{slice_get}
use Rattle.change_apply.specs.Change.{restarts_of}
use Rattle.change_apply.specs.declared.ready.Restart.{Restart}
use Rattle.writing_commands.specs.FaultLines.{lines_for}
use Rattle.writing_commands.proofs.last_lines.service_lines.Given as goal

-- the lines of the steps so far
abbrev pub invariant-loop-step : goal.invariant-loop-step
invariant-loop-step l = record {
  many : length l.lines ≡ l.step;
  so_far : (j : ℕ) (rs : List Restart) → j < l.step → slice_get (map (restarts_of l.settings) l.services) j ≡ Some rs
      → slice_get l.lines j ≡ Some (lines_for j rs);
}
