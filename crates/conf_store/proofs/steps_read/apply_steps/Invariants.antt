use Rattle.std.proofs.Common.{◌≡◌, ◌+◌, ◌-◌, true, IfSome}
use Rattle.conf_doc.specs.Trees.{document}
use Rattle.conf_store.specs.Files.{last_step}
use Rattle.conf_store.specs.Reads.{OnlyReads}
use Rattle.conf_store.specs.Shapes.{is_config}
use Rattle.conf_store.specs.Walk.{document_after_all, documents_after}
use Rattle.conf_store.proofs.StepCount.{CountsAt}
use Rattle.conf_store.proofs.steps_read.apply_steps.Given as goal

-- what comes of the start is what comes of the tree from the number at hand on
abbrev pub invariant-loop-n : goal.invariant-loop-n
invariant-loop-n g l = record {
  same : IfSome (g.H.Host.told l.fn.host) (λ s. document_after_all s.files (document l.fn.start) ≡ documents_after (last_step + 1 - l.n) l.n s.files (document l.tree));
  counted : IfSome (g.H.Host.told l.fn.host) (CountsAt l.n);
  shaped : is_config (document l.tree) ≡ true;
  reads : OnlyReads g.H.Host.told g.H.Host.counts g.H.Host.moment g.H.Host.left_since g.H.Host.goes_on l.fn.host l.host;
}
