use Rattle.std.specs.Prelude.{ℕ, List, Result, IfOk, length}
use Rattle.std.proofs.Common.{subst, sym}
use Rattle.conf_doc.specs.Document.{Document}
use Rattle.conf_doc.specs.Trees.{document}
use Rattle.host_core.specs.Answers.{Gives}
use Rattle.patch_core.specs.Stops.{stop_fault}
use Rattle.patch_core.specs.Apply.{target}
use Rattle.patch_core.specs.Edits.{HandsOut}
use Rattle.patch_core.specs.Measures.{IsMeasured}
use Rattle.patch_core.specs.declared.errors.FailWhy.{FailWhy}
use Rattle.patch_core.specs.declared.node_edits.Change.{Change}
use Rattle.patch_core.proofs.Paths.{edit_is_after, first_and_rest}
use Rattle.patch_core.proofs.path_edits.edit_at.Goals as goal

pub returns-in-len1-up-clause-left : goal.returns-in-len1-up-clause-left
returns-in-len1-up-clause-left c =
    subst (λ (r : Result Document FailWhy). Gives (λ (e : Change). document e.tree) stop_fault c.edit_along.result r)
    (edit_is_after c.args.edit c.args.path.now c.token-item.result (document c.args.tree) c.in-len1-up.len_at_least c.token-item.is) c.edit_along.ensures.left

pub returns-in-len1-up-clause-taken : goal.returns-in-len1-up-clause-taken
returns-in-len1-up-clause-taken c =
    subst (λ (ts : List (List ℕ)). IfOk c.edit_along.result (λ (e : Change). HandsOut c.args.edit e.out (target ts (document c.args.tree))))
    (sym (first_and_rest c.token-item.result c.args.path.now c.in-len1-up.len_at_least c.token-item.is)) c.edit_along.ensures.taken

pub returns-in-len1-up-clause-measured : goal.returns-in-len1-up-clause-measured
returns-in-len1-up-clause-measured c =
    subst (λ (ts : List (List ℕ)). IfOk c.edit_along.result (λ (e : Change). IsMeasured c.args.edit e (length ts) (document c.args.tree)))
    (sym (first_and_rest c.token-item.result c.args.path.now c.in-len1-up.len_at_least c.token-item.is)) c.edit_along.ensures.measured
