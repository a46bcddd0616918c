use Rattle.plan_check.specs.Candidates.{GivesRequired}
use Rattle.plan_check.proofs.Loops.{at_index}
use Rattle.plan_check.proofs.Taking.{takes_all, takes_first, takes_more}
use Rattle.plan_check.proofs.candidates.add_all_required.Goals as goal

pub loop-rule-init : goal.loop-rule-init
loop-rule-init c = takes_first (GivesRequired c.args.table.now c.args.key.now) c.args.rules.now c.args.found.now.items

pub loop-rule-preserved : goal.loop-rule-preserved
loop-rule-preserved c =
    let rules = c.args.rules.now in
    let r = c.rule-item.result in
    takes_more (GivesRequired c.args.table.now c.args.key.now) rules c.loop-rule.rule-index r c.args.found.now.items c.loop-rule.found.items c.add_required.new.found.items
    (at_index rules c.loop-rule.rule-index r c.loop-rule-test.true c.rule-item.is) c.loop-rule.invariant c.in_ok-add_required.ensures

pub returns : goal.returns
returns c =
    takes_all (GivesRequired c.args.table.now c.args.key.now) c.args.rules.now c.loop-rule.rule-index c.args.found.now.items c.loop-rule.found.items
    c.loop-rule-test.false c.loop-rule.invariant
