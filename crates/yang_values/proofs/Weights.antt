-- What statements weigh.
use Rattle.std.proofs.Common.{◌≡◌, ◌<◌, ◌≤◌, ℕ, zero, suc, List, [], ◌∷◌, map, length, get_or, arith}
use Rattle.yang_text.specs.Declarations.{weight, total_weight}
use Rattle.yang_text.specs.Statements.{declaration}
use Rattle.yang_text.specs.declared.statements.Statement.{Statement}

-- a statement weighs no more than the list it stands in
pub weight-at : (ss : List Statement) (i : ℕ) (s : Statement) → i < length ss → s ≡ get_or ss i s → weight (declaration s) ≤ total_weight (map declaration ss)
weight-at [] i s within is = absurd (omega arith)
weight-at (x ∷ ss) zero s within is = rw is (omega arith)
weight-at (x ∷ ss) (suc i) s within is = omega (arith, weight-at ss i s (omega arith) is)
