use Rattle.std.proofs.Common.{◌≡◌}
use Rattle.move_core.specs.Kinds.{AreOfKinds, extender_kinds, generator_kinds, rule_kinds}
use Rattle.move_lists.specs.Ranking.{AreToPart}
use Rattle.move_lists.proofs.listing.add_parts.Given as goal

-- the moves of the parts up to that one were added
abbrev pub invariant-loop-done : goal.invariant-loop-done
invariant-loop-done g l = record {
  kinds :
      AreOfKinds (λ b. (g.dyn-1.0.entry b.vtable).1.gen_kind b.value) generator_kinds l.kit.gens.items
      × AreOfKinds (λ b. (g.dyn-2.0.entry b.vtable).1.ext_kind b.value) extender_kinds l.kit.exts.items
      × AreOfKinds (λ b. (g.dyn-3.0.entry b.vtable).1.rule_kind b.value) rule_kinds l.kit.rules.items;
  rules : l.kit.rules ≡ l.fn.kit.rules;
  listed : AreToPart l.question l.done l.moves.items;
}
