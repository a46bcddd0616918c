use Rattle.plan_search.specs.ConfigKeys.{config_eq, configs_decide}
use Rattle.plan_search.proofs.SetAnswers.{added}
use Rattle.plan_search.proofs.met_set.Met.insert.Goals as goal

pub returns : goal.returns
returns c =
    added config_eq configs_decide c.self.inside.configs.keys c.args.self.now c.insert.new.self.keys c.args.config c.in_ok-insert.field-0
    c.self.view_is c.in_ok-insert.ensures.added c.in_ok-insert.ensures.keys
