use Rattle.gcu_engine.proofs.RulesValues.{rules_read, rules_said}
use Rattle.gcu_engine.proofs.laws.settings_read_are_said.Goals as goal

pub returns : goal.returns
returns c = record {
  said = λ bytes settings e. rules_said bytes settings e;
  read = λ bytes d settings is says.
      rules_read bytes d settings is says;
}
