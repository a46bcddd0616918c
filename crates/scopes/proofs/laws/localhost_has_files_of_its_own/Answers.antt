use Rattle.scopes.proofs.DistinctFiles.{no_asic}
use Rattle.scopes.proofs.laws.localhost_has_files_of_its_own.Goals as goal

pub returns : goal.returns
returns c = λ n less name of. no_asic n less name of
