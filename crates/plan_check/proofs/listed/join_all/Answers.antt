use Rattle.std.proofs.Common.{subst}
use Rattle.plan_check.specs.Backwards.{JoinsOrBegins, LeadsAs}
use Rattle.plan_check.proofs.Loops.{at_index}
use Rattle.plan_check.proofs.Rounds.{joins_all, joins_first, joins_more}
use Rattle.plan_check.proofs.listed.join_all.Goals as goal

pub loop-mv-init : goal.loop-mv-init
loop-mv-init c =
    let s = c.args.sought.now in
    joins_first s.here.now s.mv.now c.args.moves.now c.args.found.now.items

pub returns-then-begins : goal.returns-then-begins
returns-then-begins c =
    let s = c.args.sought.now in
    let Is = LeadsAs s.here.now c.mv-item.result s.mv.now in
    subst (JoinsOrBegins s.here.now s.mv.now Is c.loop-mv.found.items c.join.new.found.items)
    c.if-begins.true c.in_ok-begins.ensures

pub loop-mv-preserved : goal.loop-mv-preserved
loop-mv-preserved c =
    let s = c.args.sought.now in
    let h = s.here.now in
    let moves = c.args.moves.now in
    let m = c.mv-item.result in
    let old = c.loop-mv.found.items in
    let new = c.join.new.found.items in
    joins_more h s.mv.now moves c.loop-mv.mv-index m c.args.found.now.items old new
    (at_index moves c.loop-mv.mv-index m c.loop-mv-test.true c.mv-item.is) c.loop-mv.invariant
    (subst (JoinsOrBegins h s.mv.now (LeadsAs h m s.mv.now) old new) c.if-begins.false c.in_ok-begins.ensures)

pub returns : goal.returns
returns c =
    let s = c.args.sought.now in
    joins_all s.here.now s.mv.now c.args.moves.now c.loop-mv.mv-index c.args.found.now.items c.loop-mv.found.items
    c.loop-mv-test.false c.loop-mv.invariant
