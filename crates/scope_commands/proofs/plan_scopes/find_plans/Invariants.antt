use Rattle.std.proofs.Common.{map, take}
use Rattle.move_core.specs.Kinds.{AreOfKinds, extender_kinds, generator_kinds, rule_kinds}
use Rattle.gcu_inputs.specs.Preparing.{AreFound}
use Rattle.gcu_requests.specs.ScopesPlannings.{scope_planning}
use Rattle.command_answers.specs.ScopeTexts.{solved_asked}
use Rattle.scope_commands.specs.SolvedScopes.{scope_plan}
use Rattle.scope_commands.proofs.plan_scopes.find_plans.Given as goal

-- the plans of the first scopes are found
abbrev pub invariant-loop-scope : goal.invariant-loop-scope
invariant-loop-scope g l = record {
  kinds :
      AreOfKinds (λ b. (g.dyn-1.0.entry b.vtable).1.gen_kind b.value) generator_kinds l.kit.gens.items
      × AreOfKinds (λ b. (g.dyn-2.0.entry b.vtable).1.ext_kind b.value) extender_kinds l.kit.exts.items
      × AreOfKinds (λ b. (g.dyn-3.0.entry b.vtable).1.rule_kind b.value) rule_kinds l.kit.rules.items;
  found : AreFound scope_plan solved_asked
      (map (scope_planning l.all.ctx l.all.budget) (take l.scope-index l.scope-items)) l.plans;
}
