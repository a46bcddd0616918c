use Rattle.std.proofs.Common.{◌≡◌, Ok, IfSome, subst}
use Rattle.std.proofs.lemmas.Result.{err_from_is_err_and}
use Rattle.conf_doc.specs.Trees.{document}
use Rattle.conf_store.specs.Files.{step_names}
use Rattle.conf_store.specs.Folds.{StandsFor}
use Rattle.conf_store.proofs.Finds.{loads, loads_not, loads_shape_not, ok_of}
use Rattle.conf_store.proofs.loading.load.Goals as goal

-- there is no such document
pub returns-in_err-tree-clause-loads : goal.returns-in_err-tree-clause-loads
returns-in_err-tree-clause-loads g c =
    let p = err_from_is_err_and c.from_residual.result c.from_residual.ensures.1 in
    rw (p.1, p.2)
    (loads_not (g.H.Host.told c.args.host.now) c.in_err-tree.field-0.0 (λ files what. StandsFor what files) c.in_err-tree.ensures.found)

-- there is no memory for its configuration
pub returns-in_err-config-clause-loads : goal.returns-in_err-config-clause-loads
returns-in_err-config-clause-loads g c =
    let p = err_from_is_err_and c.from_residual-in_err-config.result c.from_residual-in_err-config.ensures.1 in
    rw (p.1, p.2)
    (loads_shape_not (g.H.Host.told c.args.host.now) (document c.in_ok-tree.tree) c.in_ok-tree.folded c.in_err-config.field-0.0
    c.in_ok-tree.ensures.found c.in_err-config.ensures.config)

-- the whole
pub returns-clause-loads : goal.returns-clause-loads
returns-clause-loads g c =
    loads (g.H.Host.told c.args.host.now) _ (document c.in_ok-tree.tree) c.in_ok-tree.ensures.found c.in_ok-config.ensures.config
    (subst (λ o. IfSome o (λ s. ok_of (step_names s.files) ≡ Ok c.in_ok-steps.steps)) c.find_tree.ensures.reads.state c.in_ok-steps.ensures.found)
