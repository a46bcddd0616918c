use Rattle.gcu_requests.proofs.TableDifferences.{found}
use Rattle.gcu_requests.proofs.tables_elsewhere.difference_elsewhere.Goals as goal

pub returns : goal.returns
returns c =
    found c.args.ctx.now c.args.a.now c.args.b.now c.first_difference.result c.first_difference-2.result c.lesser.result
    c.first_difference.ensures c.first_difference-2.ensures c.lesser.ensures
