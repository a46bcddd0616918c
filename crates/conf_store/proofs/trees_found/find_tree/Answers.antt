use Rattle.std.proofs.Common.{◌≡◌, None, Ok, Some, IfSome, refl, subst}
use Rattle.std.proofs.lemmas.Result.{err_from_is_err_and}
use Rattle.host_core.specs.Answers.{FailsAs}
use Rattle.conf_doc.specs.Trees.{document}
use Rattle.conf_store.specs.Files.{folded_file, last_step}
use Rattle.conf_store.specs.Reads.{load_fault}
use Rattle.conf_store.specs.Walk.{document_stepped}
use Rattle.conf_store.specs.Applied.{steps_there}
use Rattle.conf_store.proofs.StepCount.{all_applied, none_applied}
use Rattle.conf_store.proofs.Finds.{folded_bad, folded_found, has_file, unfolded_bad, unfolded_found}
use Rattle.conf_store.proofs.trees_found.find_tree.Goals as goal

-- the folded file is there
pub returns-in_err-tree-in-Some-clause-found : goal.returns-in_err-tree-in-Some-clause-found
returns-in_err-tree-in-Some-clause-found g c =
    let p = err_from_is_err_and c.from_residual-in_err-tree-in-Some.result c.from_residual-in_err-tree-in-Some.ensures.1 in
    rw (p.1, p.2)
    (folded_bad (g.H.Host.told c.args.host.now) c.in-Some.bytes.items c.in_err-tree-in-Some.field-0.0
    (has_file (g.H.Host.told c.args.host.now) (g.H.Host.told c.args.host.now) refl folded_file c.in_ok-bytes.field-0 (Some c.in-Some.bytes) c.in-Some.is c.in_ok-bytes.ensures.found)
    (rw c.deref.ensures.value at c.in_err-tree-in-Some.ensures.document))

pub returns-in_ok-tree-in-Some-clause-found : goal.returns-in_ok-tree-in-Some-clause-found
returns-in_ok-tree-in-Some-clause-found g c =
    folded_found (g.H.Host.told c.args.host.now) c.in-Some.bytes.items (document c.in_ok-tree-in-Some.tree)
    (has_file (g.H.Host.told c.args.host.now) (g.H.Host.told c.args.host.now) refl folded_file c.in_ok-bytes.field-0 (Some c.in-Some.bytes) c.in-Some.is c.in_ok-bytes.ensures.found)
    (rw c.deref.ensures.value at c.in_ok-tree-in-Some.ensures.document)

pub returns-in_ok-tree-in-Some-clause-counted : goal.returns-in_ok-tree-in-Some-clause-counted
returns-in_ok-tree-in-Some-clause-counted g c =
    none_applied (g.H.Host.told c.args.host.now) c.in-Some.bytes.items
    (has_file (g.H.Host.told c.args.host.now) (g.H.Host.told c.args.host.now) refl folded_file c.in_ok-bytes.field-0 (Some c.in-Some.bytes) c.in-Some.is c.in_ok-bytes.ensures.found)

-- it isn't
pub returns-in_err-tree-in-None-clause-found : goal.returns-in_err-tree-in-None-clause-found
returns-in_err-tree-in-None-clause-found g c =
    let p = err_from_is_err_and c.from_residual-in_err-tree-in-None.result c.from_residual-in_err-tree-in-None.ensures.1 in
    rw (p.1, p.2)
    (unfolded_bad (g.H.Host.told c.args.host.now) c.in_err-tree-in-None.field-0.0
    (has_file (g.H.Host.told c.args.host.now) (g.H.Host.told c.args.host.now) refl folded_file c.in_ok-bytes.field-0 None c.in-None.is c.in_ok-bytes.ensures.found)
    (subst (λ o. IfSome o (λ s. FailsAs (load_fault c.in_err-tree-in-None.field-0.0) (document_stepped s.files))) c.read_file.ensures.reads.state c.in_err-tree-in-None.ensures.found))

pub returns-in_ok-tree-in-None-clause-found : goal.returns-in_ok-tree-in-None-clause-found
returns-in_ok-tree-in-None-clause-found g c =
    unfolded_found (g.H.Host.told c.args.host.now) (document c.in_ok-tree-in-None.tree)
    (has_file (g.H.Host.told c.args.host.now) (g.H.Host.told c.args.host.now) refl folded_file c.in_ok-bytes.field-0 None c.in-None.is c.in_ok-bytes.ensures.found)
    (subst (λ o. IfSome o (λ s. document_stepped s.files ≡ Ok (document c.in_ok-tree-in-None.tree))) c.read_file.ensures.reads.state c.in_ok-tree-in-None.ensures.found)

pub returns-in_ok-tree-in-None-clause-counted : goal.returns-in_ok-tree-in-None-clause-counted
returns-in_ok-tree-in-None-clause-counted g c =
    all_applied (g.H.Host.told c.args.host.now) c.in_ok-tree-in-None.steps
    (has_file (g.H.Host.told c.args.host.now) (g.H.Host.told c.args.host.now) refl folded_file c.in_ok-bytes.field-0 None c.in-None.is c.in_ok-bytes.ensures.found)
    (subst (λ o. IfSome o (λ s. c.in_ok-tree-in-None.steps ≡ steps_there last_step 1 s.files)) c.read_file.ensures.reads.state c.in_ok-tree-in-None.ensures.counted)
