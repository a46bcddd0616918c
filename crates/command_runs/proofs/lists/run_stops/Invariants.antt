use Rattle.std.specs.Prelude.{List}
use Rattle.conf_doc.specs.declared.configuration.Config.{Config}
use Rattle.move_core.specs.Kinds.{AreOfKinds, extender_kinds, generator_kinds, rule_kinds}
use Rattle.command_runs.specs.Histories.{AllLead, AllStandFor}
use Rattle.command_runs.specs.Runs.{AreRun, AreUnscoped}
use Rattle.command_runs.proofs.lists.run_stops.Given as goal

-- the commands so far ran and lead on
abbrev pub invariant-loop-stop : goal.invariant-loop-stop
invariant-loop-stop g l = record {
  kinds :
      AreOfKinds (λ b. (g.dyn-1.0.entry b.vtable).1.gen_kind b.value) generator_kinds l.kit.gens.items
      × AreOfKinds (λ b. (g.dyn-2.0.entry b.vtable).1.ext_kind b.value) extender_kinds l.kit.exts.items
      × AreOfKinds (λ b. (g.dyn-3.0.entry b.vtable).1.rule_kind b.value) rule_kinds l.kit.rules.items;
  runs : AreRun l.yielded l.fn.host l.now l.rans.items;
  lead : AreUnscoped l.yielded → (before : List Config)
      → AllStandFor before l.fn.host.state → AllLead before l.rans.items l.now.state;
}
