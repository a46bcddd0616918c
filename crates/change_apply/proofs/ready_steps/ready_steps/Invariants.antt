use Rattle.std.proofs.Common.{◌≡◌, map, take}
use Rattle.conf_doc.specs.WellFormed.{IsConfig}
use Rattle.move_core.specs.Plans.{conf}
use Rattle.change_apply.specs.Change.{restarts_of}
use Rattle.change_apply.specs.Work.{AreReady}
use Rattle.change_apply.proofs.ready_steps.ready_steps.Given as goal

-- the first k steps are ready
abbrev pub invariant-loop-k : goal.invariant-loop-k
invariant-loop-k l = record {
  moves : map (λ s. s.mv) l.steps ≡ take l.k l.plan;
  restarts : map (λ s. s.restarts) l.steps ≡ take l.k (map (restarts_of l.settings) l.services);
  config : l.config ≡ conf l.start l.plan l.k;
  formed : IsConfig l.config;
  ready : AreReady l.start l.plan l.steps;
}
