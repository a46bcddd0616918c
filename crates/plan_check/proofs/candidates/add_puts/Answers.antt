use Rattle.std.proofs.Common.{refl}
use Rattle.move_core.specs.declared.moves.Move.TheVariants.{Add, Replace}
use Rattle.plan_check.proofs.Taking.{puts_both}
use Rattle.plan_check.proofs.candidates.add_puts.Goals as goal

pub returns : goal.returns
returns c =
    puts_both c.args.place c.args.part c.args.found.now.items c.push.new.self.items c.push-2.new.self.items (Replace c.in_ok-at.at c.in_ok-value.value) (Add c.args.place c.args.part)
    (λ i. Replace (c.in_ok-at.ensures i) (c.in_ok-value.ensures i)) refl c.in_ok-push.ensures.items c.in_ok-push-2.ensures.items
