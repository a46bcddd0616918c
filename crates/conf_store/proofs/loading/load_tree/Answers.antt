use Rattle.std.proofs.lemmas.Result.{err_from_is_err_and}
use Rattle.conf_doc.specs.Trees.{document}
use Rattle.conf_store.specs.Loads.{IsStoredTree}
use Rattle.conf_store.proofs.Finds.{loads_not, loads_tree}
use Rattle.conf_store.proofs.loading.load_tree.Goals as goal

pub returns-in_err-tree-clause-loads : goal.returns-in_err-tree-clause-loads
returns-in_err-tree-clause-loads g c =
    let p = err_from_is_err_and c.from_residual.result c.from_residual.ensures.1 in
    rw (p.1, p.2)
    (loads_not (g.H.Host.told c.args.host.now) c.in_err-tree.field-0.0 (λ files t. IsStoredTree files (document t)) c.in_err-tree.ensures.found)

pub returns-clause-loads : goal.returns-clause-loads
returns-clause-loads g c =
    loads_tree (g.H.Host.told c.args.host.now) c.in_ok-tree.tree c.in_ok-tree._folded c.in_ok-tree.ensures.shaped c.in_ok-tree.ensures.found
