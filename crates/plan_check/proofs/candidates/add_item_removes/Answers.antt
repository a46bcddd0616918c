use Rattle.std.proofs.Common.{◌++◌, ◌∷◌, [], sym, ap, ◌∙◌, arith}
use Rattle.move_core.specs.declared.moves.Move.TheVariants.{RemoveItem}
use Rattle.plan_check.proofs.Taking.{no_removes, removes_all, removes_first, removes_more}
use Rattle.plan_check.proofs.candidates.add_item_removes.Goals as goal

pub returns-in_default : goal.returns-in_default
returns-in_default c = no_removes c.args.here.now c.args.place.now c.args.found.now.items (sym c.in_default.ensures)

pub loop-i-init : goal.loop-i-init
loop-i-init c = removes_first c.args.place.now c.args.found.now.items

pub loop-i-preserved : goal.loop-i-preserved
loop-i-preserved c =
    let i = c.loop-i.i in
    let old = c.loop-i.found.items in
    removes_more c.args.place.now i c.args.found.now.items old c.push.new.self.items c.loop-i.invariant
    (c.in_ok-push.ensures.items ∙ ap (λ p. old ++ RemoveItem p i ∷ []) c.in_ok-at.ensures)

pub returns : goal.returns
returns c =
    let end = c.loop-i-test.false in
    let long = c.len-i-end.ensures in
    removes_all c.args.here.now c.args.place.now c.in-Some.items.now c.loop-i.i c.args.found.now.items c.loop-i.found.items (sym c.in-Some.ensures)
    (omega (arith, end, long)) c.loop-i.invariant
