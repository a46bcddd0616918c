use Rattle.recheck.proofs.EntryValidity.{not_valid, valid}
use Rattle.recheck.proofs.rule.is_valid.Goals as goal

pub returns-in-Ok : goal.returns-in-Ok
returns-in-Ok c = valid c.args.models.now c.args.config.now c.in-Ok.ensures

pub returns-in-Err : goal.returns-in-Err
returns-in-Err c = not_valid c.args.models.now c.args.config.now _ c.in-Err.ensures
