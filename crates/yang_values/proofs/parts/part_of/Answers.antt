use Rattle.std.proofs.Common.{ℕ, List, arith}
use denote.Ref.{Bor}
use Rattle.yang_values.proofs.ElementResults.{no_part}
use Rattle.yang_values.proofs.parts.part_of.Goals as goal

pub returns-in_default-2 : goal.returns-in_default-2
returns-in_default-2 c = no_part c.args.values.now (λ (b : Bor (List ℕ)). b.now) c.args.pieces.now (λ e. omega arith) (λ e. omega arith)

pub returns-in_default-3 : goal.returns-in_default-3
returns-in_default-3 c = no_part c.args.values.now (λ (b : Bor (List ℕ)). b.now) c.args.pieces.now (λ e. omega arith) (λ e. omega arith)
