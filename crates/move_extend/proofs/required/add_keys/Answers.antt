use Rattle.std.proofs.Common.{map, arith}
use Rattle.conf_doc.proofs.Lists.{length-map}
use Rattle.move_extend.specs.Requireds.{RulesGive}
use Rattle.move_extend.proofs.DistinctLists.{loop_begins, loop_ends, loop_more}
use Rattle.move_extend.proofs.required.add_keys.Goals as goal

pub loop-i-init : goal.loop-i-init
loop-i-init c = loop_begins (RulesGive c.args.change.now c.args.rules.now c.args.table.now) (map (λ e. e.0) c.args.entries.now) c.args.found.now

pub loop-i-preserved : goal.loop-i-preserved
loop-i-preserved c =
    loop_more (RulesGive c.args.change.now c.args.rules.now c.args.table.now) (map (λ e. e.0) c.args.entries.now) c.loop-i.i
    c.name_at.result.now c.name_at.ensures c.args.found.now c.loop-i.found c.add_rules.new.found c.loop-i.invariant c.in_ok-add_rules.ensures

pub returns : goal.returns
returns c =
    loop_ends (RulesGive c.args.change.now c.args.rules.now c.args.table.now) (map (λ e. e.0) c.args.entries.now) c.loop-i.i
    c.args.found.now c.loop-i.found (rw (length-map (λ e. e.0) c.args.entries.now) (omega arith)) c.loop-i.invariant
