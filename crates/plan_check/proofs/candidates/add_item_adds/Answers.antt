use Rattle.std.proofs.Common.{◌++◌, ◌∷◌, [], sym, ◌∙◌, arith}
use Rattle.move_core.specs.declared.moves.Move.TheVariants.{AddItem}
use Rattle.plan_check.proofs.Taking.{adds_all, adds_first, adds_more, no_adds}
use Rattle.plan_check.proofs.candidates.add_item_adds.Goals as goal

pub returns-in_default : goal.returns-in_default
returns-in_default c = no_adds c.args.here.now c.args.place.now c.args.found.now.items (sym c.in_default.ensures)

pub loop-i-init : goal.loop-i-init
loop-i-init c = adds_first c.args.place.now c.in-Some.items.now c.args.found.now.items

pub loop-i-preserved : goal.loop-i-preserved
loop-i-preserved c =
    let i = c.loop-i.i in
    let old = c.loop-i.found.items in
    adds_more c.args.place.now c.in-Some.items.now i c.at.result.now c.args.found.now.items old c.push.new.self.items c.at.ensures c.loop-i.invariant
    (c.in_ok-push.ensures.items ∙ (λ j. old ++ AddItem (c.in_ok-at.ensures j) i (c.in_ok-text.ensures j) ∷ []))

pub returns : goal.returns
returns c =
    let end = c.loop-i-test.false in
    let long = c.len-i-end.ensures in
    adds_all c.args.here.now c.args.place.now c.in-Some.items.now c.loop-i.i c.args.found.now.items c.loop-i.found.items (sym c.in-Some.ensures)
    (omega (arith, end, long)) c.loop-i.invariant
