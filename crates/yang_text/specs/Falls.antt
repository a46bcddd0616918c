-- A list of statements weighs more than what stands in it.
use Rattle.std.specs.Prelude.{◌≡◌, ◌≤◌, ◌+◌, List, [], ◌∷◌, map, max}
use Rattle.std.proofs.Common.{refl, ap, arith}
use Rattle.yang_text.specs.Declarations.{Declaration, block_of, block_weight, total_weight, weight}
use Rattle.yang_text.specs.Statements.{declaration}
use Rattle.yang_text.specs.declared.statements.Statement.{Statement}
use Rattle.yang_text.specs.declared.statements.Statements.TheDeep.{deep-Statement}
use denote.Param.Weighed.{most, w_this}

-- a block weighs what its list does
pub block_weighs : (ds : List Declaration) → block_weight (block_of ds) ≡ total_weight ds
block_weighs [] = refl
block_weighs (d ∷ ds) = ap (λ n. weight d + n) (block_weighs ds)

-- a statement is no deeper than it weighs
pub deep_weight : (s : Statement) → deep-Statement s ≤ weight (declaration s)
deep_weight s = omega (arith, block_weighs s.block)

-- a list weighs more than what stands in it
pub statements_fall : (ss : List Statement)
    → max (most (λ s. w_this.weight _ deep-Statement s) ss) 0 ≤ total_weight (map declaration ss)
statements_fall [] = omega arith
statements_fall (s ∷ ss) = omega (arith, statements_fall ss, deep_weight s)
