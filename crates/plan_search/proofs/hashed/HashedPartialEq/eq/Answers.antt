use Rattle.std.proofs.lemmas.Bool.Decides.{same_from_decides}
use Rattle.plan_search.specs.ConfigKeys.{configs_decide}
use Rattle.plan_search.proofs.hashed.HashedPartialEq.eq.Goals as goal

pub returns : goal.returns
returns c = same_from_decides c.same.result _ c.same.ensures (configs_decide c.args.self.now c.args.other.now)
