use Rattle.std.proofs.Common.{◌<◌, ℕ}
use Rattle.recheck.specs.Agreements.{AgreeAt}
use Rattle.recheck.proofs.agreements.agree_but.Given as goal

abbrev pub invariant-loop-i : goal.invariant-loop-i
invariant-loop-i l = (j : ℕ) → j < l.i → AgreeAt l.first l.second l.table l.key j
