use Rattle.std.proofs.Common.{map, arith}
use Rattle.conf_doc.proofs.Lists.{length-map}
use Rattle.plan_check.specs.Nearby.{IsAtTable}
use Rattle.plan_check.proofs.PairSearches.{named_name}
use Rattle.plan_check.proofs.Taking.{takes_all, takes_first, takes_more}
use Rattle.plan_check.proofs.preceding.add_tables.Goals as goal

pub loop-i-init : goal.loop-i-init
loop-i-init c = takes_first (IsAtTable c.args.sought.now c.args.config.now) (map (λ e. e.0) c.args.config.now) c.args.found.now.items

pub add_table-requires-clause-table : goal.add_table-requires-clause-table
add_table-requires-clause-table c = named_name c.args.config.now c.loop-i.i c.name_at-table.result.now c.len-i-end.ensures.formed.shaped.named c.name_at-table.ensures

pub loop-i-preserved : goal.loop-i-preserved
loop-i-preserved c =
    takes_more (IsAtTable c.args.sought.now c.args.config.now) (map (λ e. e.0) c.args.config.now) c.loop-i.i c.name_at-table.result.now
    c.args.found.now.items c.loop-i.found.items c.add_table.new.found.items c.name_at-table.ensures c.loop-i.invariant c.in_ok-add_table.ensures

pub returns : goal.returns
returns c =
    takes_all (IsAtTable c.args.sought.now c.args.config.now) (map (λ e. e.0) c.args.config.now) c.loop-i.i
    c.args.found.now.items c.loop-i.found.items (rw (length-map (λ e. e.0) c.args.config.now) (omega arith)) c.loop-i.invariant
