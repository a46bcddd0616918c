use Rattle.std.proofs.Common.{◌≡◌, Some, refl, arith}
use Rattle.conf_doc.specs.Pairs.{find}
use Rattle.plan_check.specs.Keeping.{KeepsKey}
use Rattle.plan_check.proofs.PairNames.{all_keys, key_there, within}
use Rattle.plan_check.proofs.Tests.{failed}
use Rattle.plan_check.proofs.rules.keeps_keys_of.Goals as goal

pub returns-then-not-keeps_key : goal.returns-then-not-keeps_key
returns-then-not-keeps_key c =
    let k = c.name_at.result.now in
    let is : Some c.in-Some.entries.now ≡ find c.args.requiring.now.table c.args.config.now = cc (c.in-Some.ensures.table, c.as_str.ensures.text) in (
      λ t. absurd cc,
      λ keeps. absurd
          (failed c.if-not-keeps_key.ensures.1
          (keeps k (key_there c.args.config.now c.args.requiring.now.table c.in-Some.entries.now is c.loop-i.i k c.name_at.ensures))),
    )

pub returns : goal.returns
returns c =
    let entries = c.in-Some.entries.now in
    let is : Some c.in-Some.entries.now ≡ find c.args.requiring.now.table c.args.config.now = cc (c.in-Some.ensures.table, c.as_str.ensures.text) in (
      λ _. all_keys c.args.config.now c.args.requiring.now.table (KeepsKey c.args.rule.now c.args.cur.now c.args.next.now c.args.requiring.now) entries is
          (λ i k e. let below = within c.in-Some.entries.now i k e in c.loop-i.invariant i k (omega arith) e),
      λ _. refl,
    )
