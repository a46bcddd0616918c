use Rattle.std.proofs.Common.{◌≤◌, ◌<◌, length, refl, sym, subst, arith}
use Rattle.conf_check.specs.Faults.{IsFirstInTable}
use Rattle.conf_check.specs.Validity.{rule_number}
use Rattle.conf_check.proofs.Breaches.{key_first_at, keys_more, keys_none}
use Rattle.conf_check.proofs.Places.{named_at}
use Rattle.conf_check.proofs.checking.first_of_keys.Goals as goal

pub loop-key-preserved : goal.loop-key-preserved
loop-key-preserved c =
    keys_more c.args.nodes.now.models.now c.args.nodes.now.config.now c.args.table c.loop-key.key c.loop-key.invariant c.in_default.ensures

pub returns-in-Some : goal.returns-in-Some
returns-in-Some c =
    let named = named_at c.args.nodes.now.config.now c.args.table c.part_at.result.now c.part_at.ensures.part in
    let within : c.loop-key.key < length c.part_at.result.now = omega (arith, c.len-key-end.ensures.len, c.loop-key-test.true) in
    subst (IsFirstInTable c.args.nodes.now.models.now c.args.nodes.now.config.now c.args.table) (sym c.violation_at.ensures)
    (key_first_at c.args.nodes.now.models.now c.args.nodes.now.config.now c.args.table c.loop-key.key
    (named.0, c.part_at.result.now) c.in-Some.fault (rule_number c.in-Some.fault.rule) named.1 c.requires.modelled within refl c.loop-key.invariant c.in-Some.ensures)

pub returns : goal.returns
returns c =
    let named = named_at c.args.nodes.now.config.now c.args.table c.part_at.result.now c.part_at.ensures.part in
    let past : length c.part_at.result.now ≤ c.loop-key.key = omega (arith, c.len-key-end.ensures.len, c.loop-key-test.false) in
    keys_none c.args.nodes.now.models.now c.args.nodes.now.config.now c.args.table c.loop-key.key
    (named.0, c.part_at.result.now) named.1 past c.loop-key.invariant
