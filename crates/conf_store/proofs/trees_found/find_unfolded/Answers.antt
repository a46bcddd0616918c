use Rattle.std.proofs.Common.{None, Some, IfSome, refl, subst}
use Rattle.std.proofs.lemmas.Result.{err_from_is_err_and}
use Rattle.host_core.specs.Answers.{Gives}
use Rattle.conf_doc.specs.Trees.{document}
use Rattle.conf_store.specs.Files.{config_file}
use Rattle.conf_store.specs.Reads.{load_fault}
use Rattle.conf_store.specs.Walk.{document_after_all, stepped_tree}
use Rattle.conf_store.proofs.Finds.{all_steps, bad_config, has_file, no_config}
use Rattle.conf_store.proofs.trees_found.find_unfolded.Goals as goal

-- there is no such file
pub returns-in-None-clause-found : goal.returns-in-None-clause-found
returns-in-None-clause-found g c =
    no_config (g.H.Host.told c.args.host.now)
    (has_file (g.H.Host.told c.args.host.now) (g.H.Host.told c.args.host.now) refl config_file c.in_ok-read_file.field-0 None c.in-None.is c.in_ok-read_file.ensures.found)

-- it holds no configuration
pub returns-in_err-start-in-Some-clause-found : goal.returns-in_err-start-in-Some-clause-found
returns-in_err-start-in-Some-clause-found g c =
    let p = err_from_is_err_and c.from_residual-in_err-start-in-Some.result c.from_residual-in_err-start-in-Some.ensures.1 in
    rw (p.1, p.2)
    (bad_config (g.H.Host.told c.args.host.now) c.in-Some.bytes.items c.in_err-start-in-Some.field-0.0
    (has_file (g.H.Host.told c.args.host.now) (g.H.Host.told c.args.host.now) refl config_file c.in_ok-read_file.field-0 (Some c.in-Some.bytes) c.in-Some.is c.in_ok-read_file.ensures.found)
    (rw c.deref.ensures.value at c.in_err-start-in-Some.ensures.document))

-- the steps decide
pub returns-in_ok-start-in-Some-clause-found : goal.returns-in_ok-start-in-Some-clause-found
returns-in_ok-start-in-Some-clause-found g c =
    all_steps (g.H.Host.told c.args.host.now) c.in-Some.bytes.items (document c.in_ok-start-in-Some.start) c.apply_steps.result
    (has_file (g.H.Host.told c.args.host.now) (g.H.Host.told c.args.host.now) refl config_file c.in_ok-read_file.field-0 (Some c.in-Some.bytes) c.in-Some.is c.in_ok-read_file.ensures.found)
    (rw c.deref.ensures.value at c.in_ok-start-in-Some.ensures.document)
    (subst (λ o. IfSome o (λ s. Gives stepped_tree load_fault c.apply_steps.result (document_after_all s.files (document c.in_ok-start-in-Some.start)))) c.read_file.ensures.reads.state c.apply_steps.ensures.found)
