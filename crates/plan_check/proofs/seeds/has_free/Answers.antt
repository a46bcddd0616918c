use Rattle.std.proofs.Common.{ℕ, List, refl, arith}
use Rattle.conf_doc.proofs.WellFormed.{named_at}
use Rattle.conf_doc.specs.declared.configuration.Value.{Value}
use Rattle.plan_check.specs.NewEntries.{HasIfFree}
use Rattle.plan_check.proofs.Loops.{not_so}
use Rattle.plan_check.proofs.PairSearches.{each_found, each_more, found_at}
use Rattle.plan_check.proofs.seeds.has_free.Goals as goal

pub has_if_free-requires-clause-field : goal.has_if_free-requires-clause-field
has_if_free-requires-clause-field c =
    let at = c.pair_at.ensures in
    named_at c.args.whole.now.entry.now c.loop-i.i (c.pair_at.result.0.now, c.pair_at.result.1.now) at.formed.shaped.named at.pair

pub returns-then-not-has : goal.returns-then-not-has
returns-then-not-has c =
    let at = c.pair_at.ensures in
    let f = c.pair_at.result.0.now in
    let v = c.pair_at.result.1.now in (
      λ t. absurd (cc),
      λ all. absurd (not_so c.in_ok-has.has c.in_ok-has.ensures.1 c.if-not-has.true (all f v (found_at c.args.whole.now.entry.now c.loop-i.i f v at.formed.shaped.rising at.pair))),
    )

pub loop-i-preserved : goal.loop-i-preserved
loop-i-preserved c =
    each_more (λ (f : List ℕ) (v : Value). HasIfFree c.args.here.now c.args.whole.now f v c.args.new.now) c.args.whole.now.entry.now c.loop-i.i
    c.pair_at.result.0.now c.pair_at.result.1.now c.pair_at.ensures.pair (c.in_ok-has.ensures.0 c.if-not-has.false) c.loop-i.invariant

pub returns : goal.returns
returns c =
    let end = c.loop-i-test.false in
    let all = c.len-i-end.ensures.len in (
      λ t. each_found (λ (f : List ℕ) (v : Value). HasIfFree c.args.here.now c.args.whole.now f v c.args.new.now) c.args.whole.now.entry.now c.loop-i.i
          (omega (arith, end, all)) c.loop-i.invariant,
      λ has. refl,
    )
