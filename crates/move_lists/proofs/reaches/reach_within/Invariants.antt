use Rattle.std.proofs.Common.{◌≡◌, ◌-◌}
use Rattle.move_core.specs.Kinds.{AreOfKinds, extender_kinds, generator_kinds, rule_kinds}
use Rattle.move_lists.proofs.ReachableMoves.{AreWithin}
use Rattle.move_lists.proofs.reaches.reach_within.Given as goal

-- the moves before the index were spread
abbrev pub invariant-loop-alloc : goal.invariant-loop-alloc
invariant-loop-alloc g l = record {
  kinds :
      AreOfKinds (λ b. (g.dyn-1.0.entry b.vtable).1.gen_kind b.value) generator_kinds l.kit.gens.items
      × AreOfKinds (λ b. (g.dyn-2.0.entry b.vtable).1.ext_kind b.value) extender_kinds l.kit.exts.items
      × AreOfKinds (λ b. (g.dyn-3.0.entry b.vtable).1.rule_kind b.value) rule_kinds l.kit.rules.items;
  rules : l.kit.rules ≡ l.fn.kit.rules;
  within : AreWithin l.question l.fn.first.items l.limit l.reached l.i;
}

abbrev pub decreases-loop-alloc : goal.decreases-loop-alloc
decreases-loop-alloc g l = 18446744073709551615 - l.i
