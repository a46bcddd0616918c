use Rattle.std.proofs.Common.{subst, sym}
use Rattle.ref_index.proofs.Collecting.{IsGathering, gathering_begins, gathering_ends, gathering_pushes}
use Rattle.ref_index.proofs.differences.wants_of.Goals as goal

pub loop-at-init : goal.loop-at-init
loop-at-init c = (
  tt,
  tt,
  subst (λ s. IsGathering c.args.models.now c.args.config.now c.args.table.now c.args.key.now s c.new-found.result.items) (sym c.into_iter-at-iterator.ensures.into_iter_gives)
      (subst (IsGathering c.args.models.now c.args.config.now c.args.table.now c.args.key.now c.entry_wants-at-items.result) (sym c.new-found.ensures.items)
      (gathering_begins c.args.models.now c.args.config.now c.args.table.now c.args.key.now c.entry_wants-at-items.result
      c.entry_wants-at-items.ensures.models c.entry_wants-at-items.ensures.config c.entry_wants-at-items.ensures.ahead)),
)

pub loop-at-preserved : goal.loop-at-preserved
loop-at-preserved c = (
  tt,
  tt,
  gathering_pushes c.args.models.now c.args.config.now c.args.table.now c.args.key.now c.loop-at.at-iterator c.next.new.self c.in-Some.at c.loop-at.found.items
      c.push.new.self.items c.loop-at.invariant.2 c.in-Some.ensures.steps c.in_ok-push.ensures.items,
)

pub returns : goal.returns
returns c =
    gathering_ends c.args.models.now c.args.config.now c.args.table.now c.args.key.now c.loop-at.at-iterator c.next.new.self c.loop-at.found.items
    c.loop-at.invariant.2 c.in-None.ensures.steps
