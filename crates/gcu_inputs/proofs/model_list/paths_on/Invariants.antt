use Rattle.std.proofs.Common.{◌≡◌, ◌≤◌, ℕ, List, length, map, take, Bor}
use Rattle.gcu_inputs.specs.ModelList.{named_from}
use Rattle.gcu_inputs.proofs.model_list.paths_on.Given as goal

abbrev pub invariant-loop-i : goal.invariant-loop-i
invariant-loop-i l =
    (l.paths ≡ map (λ n. n.1) (named_from 1 (map (λ (t : Bor (List ℕ)). t.now) (take l.i l.lines))))
    × (length l.paths ≤ 256)
