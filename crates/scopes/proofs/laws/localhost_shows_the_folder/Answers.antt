use Rattle.scopes.proofs.LocalhostFiles.{whole_folder}
use Rattle.scopes.proofs.laws.localhost_shows_the_folder.Goals as goal

pub returns : goal.returns
returns c = λ s. whole_folder s
