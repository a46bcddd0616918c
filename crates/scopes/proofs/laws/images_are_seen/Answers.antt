use Rattle.scopes.proofs.LocalhostFiles.{image_of, image_seen}
use Rattle.scopes.proofs.laws.images_are_seen.Goals as goal

pub returns : goal.returns
returns c = λ scope s left. (image_of scope s left, image_seen scope s left)
