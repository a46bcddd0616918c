use Rattle.scopes.proofs.DistinctFiles.{other_asic}
use Rattle.scopes.proofs.laws.asics_have_files_of_their_own.Goals as goal

pub returns : goal.returns
returns c = λ m n small less apart plain. other_asic m n small less apart plain
