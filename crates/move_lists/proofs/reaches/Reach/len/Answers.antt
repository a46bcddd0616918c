use Rattle.move_lists.proofs.MoveMaps.{entries_once}
use Rattle.move_lists.proofs.reaches.Reach.len.Goals as goal

pub returns-clause-once : goal.returns-clause-once
returns-clause-once c = entries_once c.self.inside.depths c.args.self.now c.self.view_is c.len.ensures.unique
