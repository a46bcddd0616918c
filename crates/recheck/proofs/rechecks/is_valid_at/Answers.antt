use Rattle.recheck.proofs.EntryValidity.{not_valid_at, valid_at}
use Rattle.recheck.proofs.rechecks.is_valid_at.Goals as goal

pub returns-in-Ok : goal.returns-in-Ok
returns-in-Ok c = valid_at c.args.models.now c.args.config.now c.args.table.now c.args.key.now c.in-Ok.ensures

pub returns-in-Err : goal.returns-in-Err
returns-in-Err c = not_valid_at c.args.models.now c.args.config.now c.args.table.now c.args.key.now _ c.in-Err.ensures
