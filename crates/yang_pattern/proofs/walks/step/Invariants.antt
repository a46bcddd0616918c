use Rattle.std.proofs.Common.{ℕ, List, ◌↔◌}
use Rattle.yang_pattern.specs.PlaceSets.{contains}
use Rattle.yang_pattern.specs.Machine.{machine_of, From}
use Rattle.yang_pattern.specs.Symbols.{reads_token}
use Rattle.yang_pattern.proofs.Walking.{Visited}
use Rattle.yang_pattern.proofs.walks.step.Given as goal

abbrev pub invariant-loop-number : goal.invariant-loop-number
invariant-loop-number l = (u : List ℕ)
    → From (machine_of (reads_token l.tokens) l.fragment) (contains l.reached.next) l.reached.ended u
    ↔ Visited (machine_of (reads_token l.tokens) l.fragment) (contains l.next) l.c l.number u
