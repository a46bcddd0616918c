use Rattle.std.proofs.lemmas.Result.{err_from_is_err_and}
use Rattle.conf_store.specs.Applied.{AreApplied}
use Rattle.conf_store.proofs.Finds.{loads_count, loads_not}
use Rattle.conf_store.proofs.loading.count_steps.Goals as goal

pub returns-in_err-_tree-clause-loads : goal.returns-in_err-_tree-clause-loads
returns-in_err-_tree-clause-loads g c =
    let p = err_from_is_err_and c.from_residual.result c.from_residual.ensures.1 in
    rw (p.1, p.2)
    (loads_not (g.H.Host.told c.args.host.now) c.in_err-_tree.field-0.0 AreApplied c.in_err-_tree.ensures.found)

pub returns-clause-loads : goal.returns-clause-loads
returns-clause-loads g c =
    loads_count (g.H.Host.told c.args.host.now) c.in_ok-_tree._tree c.in_ok-_tree._folded c.in_ok-_tree.count
    c.in_ok-_tree.ensures.shaped c.in_ok-_tree.ensures.found c.in_ok-_tree.ensures.counted
