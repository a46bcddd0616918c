use Rattle.move_core.specs.ListedOrderLaws.{listed_total, listed_same}
use Rattle.move_core.proofs.laws.listed_order_is_total.Goals as goal

pub returns-clause-total : goal.returns-clause-total
returns-clause-total c = listed_total

pub returns-clause-tied : goal.returns-clause-tied
returns-clause-tied c = listed_same
