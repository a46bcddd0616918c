use Rattle.scope_changes.proofs.PointFiles.{points_stay}
use Rattle.scope_changes.proofs.laws.scopes_keep_points.Goals as goal

pub returns : goal.returns
returns c = λ works before after keeps. points_stay c.points_are_in_their_files.ensures works before after keeps
