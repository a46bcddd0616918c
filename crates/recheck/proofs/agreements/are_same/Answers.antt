use Rattle.std.proofs.lemmas.Bool.{leb-true}
use Rattle.recheck.proofs.OneEntry.{same_in_run}
use Rattle.recheck.proofs.agreements.are_same.Goals as goal

pub returns : goal.returns
returns c = λ enough.
    same_in_run c.args.first.now c.args.second.now c.args.i c.args.j c.count_same.result c.args.count
    (leb-true c.args.count c.count_same.result enough) c.count_same.ensures.run
