use Rattle.std.proofs.Common.{map, arith}
use Rattle.conf_doc.proofs.Lists.{length-map}
use Rattle.plan_check.specs.Nearby.{IsAtKey}
use Rattle.plan_check.proofs.PairSearches.{named_name}
use Rattle.plan_check.proofs.Taking.{takes_all, takes_first, takes_more}
use Rattle.plan_check.proofs.preceding.add_keys.Goals as goal

pub loop-i-init : goal.loop-i-init
loop-i-init c = takes_first (IsAtKey c.args.sought.now c.args.config.now c.args.table.now) (map (λ e. e.0) c.args.entries.now) c.args.found.now.items

pub add_key-requires-clause-key : goal.add_key-requires-clause-key
add_key-requires-clause-key c = named_name c.args.entries.now c.loop-i.i c.name_at-key.result.now c.len-i-end.ensures.formed.shaped.named c.name_at-key.ensures

pub loop-i-preserved : goal.loop-i-preserved
loop-i-preserved c =
    takes_more (IsAtKey c.args.sought.now c.args.config.now c.args.table.now) (map (λ e. e.0) c.args.entries.now) c.loop-i.i c.name_at-key.result.now
    c.args.found.now.items c.loop-i.found.items c.add_key.new.found.items c.name_at-key.ensures c.loop-i.invariant c.in_ok-add_key.ensures

pub returns : goal.returns
returns c =
    takes_all (IsAtKey c.args.sought.now c.args.config.now c.args.table.now) (map (λ e. e.0) c.args.entries.now) c.loop-i.i
    c.args.found.now.items c.loop-i.found.items (rw (length-map (λ e. e.0) c.args.entries.now) (omega arith)) c.loop-i.invariant
