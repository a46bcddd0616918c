-- What a test that failed says.
use Rattle.std.proofs.Common.{false, IsTrue}

-- it isn't so
pub failed : {P : Type 0} → (P → IsTrue false) → ¬ P
failed says is = let no = says is in absurd cc
