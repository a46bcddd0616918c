use Rattle.std.proofs.Common.{◌≡◌, ◌+◌, ◌≤◌, ◌++◌, length}
use Rattle.std.specs.Prelude.{All}
use Rattle.move_core.specs.Operations.{plan_lines}
use Rattle.plan_texts.specs.PlanTexts.{IsMove}
use Rattle.plan_texts.proofs.reading.read_steps.Given as goal

abbrev pub invariant-loop-number : goal.invariant-loop-number
invariant-loop-number l = record {
  begins : l.steps ≡ plan_lines 1 l.plan ++ l.rest;
  count : length l.plan ≡ l.number;
  moves : All IsMove l.plan;
  short : length l.rest + l.number ≤ length l.steps;
}
