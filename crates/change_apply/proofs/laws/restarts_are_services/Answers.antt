use Rattle.change_apply.proofs.TiedServices.{restarted_are}
use Rattle.change_apply.proofs.laws.restarts_are_services.Goals as goal

pub returns : goal.returns
returns c = λ stored moves settings k. restarted_are settings moves k
