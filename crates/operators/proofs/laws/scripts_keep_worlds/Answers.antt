use Rattle.operators.proofs.WorldInvariants.{operated_ctx, operated_few, operated_kept, operated_opening}
use Rattle.operators.proofs.laws.scripts_keep_worlds.Goals as goal

pub returns-clause-kept : goal.returns-clause-kept
returns-clause-kept c p text after valid is = operated_kept p text after is valid

pub returns-clause-ctx : goal.returns-clause-ctx
returns-clause-ctx c p text after is = operated_ctx p text after is

pub returns-clause-opening : goal.returns-clause-opening
returns-clause-opening c p text after is = operated_opening p text after is

pub returns-clause-few : goal.returns-clause-few
returns-clause-few c p text after is = operated_few p text after is
