use Rattle.std.proofs.Common.{refl, arith}
use Rattle.conf_doc.proofs.WellFormed.{named_at}
use Rattle.plan_check.specs.NewEntries.{IsFreeField}
use Rattle.plan_check.proofs.Loops.{not_so}
use Rattle.plan_check.proofs.PairSearches.{each_found, each_more, found_at}
use Rattle.plan_check.proofs.seeds.has_only_free.Goals as goal

pub is_free_field-requires-clause-field : goal.is_free_field-requires-clause-field
is_free_field-requires-clause-field c =
    let at = c.pair_at.ensures in
    named_at c.args.new.now c.loop-i.i (c.pair_at.result.0.now, c.pair_at.result.1.now) at.formed.shaped.named at.pair

pub returns-then-not-free : goal.returns-then-not-free
returns-then-not-free c =
    let at = c.pair_at.ensures in
    let f = c.pair_at.result.0.now in
    let v = c.pair_at.result.1.now in (
      λ t. absurd (cc),
      λ all. absurd (not_so c.in_ok-free.free c.in_ok-free.ensures.1 c.if-not-free.true (all f v (found_at c.args.new.now c.loop-i.i f v at.formed.shaped.rising at.pair))),
    )

pub loop-i-preserved : goal.loop-i-preserved
loop-i-preserved c =
    each_more (IsFreeField c.args.here.now c.args.whole.now) c.args.new.now c.loop-i.i c.pair_at.result.0.now c.pair_at.result.1.now
    c.pair_at.ensures.pair (c.in_ok-free.ensures.0 c.if-not-free.false) c.loop-i.invariant

pub returns : goal.returns
returns c =
    let end = c.loop-i-test.false in
    let all = c.len-i-end.ensures.len in (
      λ t. each_found (IsFreeField c.args.here.now c.args.whole.now) c.args.new.now c.loop-i.i (omega (arith, end, all)) c.loop-i.invariant,
      λ has. refl,
    )
