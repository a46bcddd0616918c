use Rattle.std.proofs.Common.{◌≡◌, Some, refl, arith}
use Rattle.conf_doc.specs.Pairs.{find}
use Rattle.plan_check.specs.Keeping.{KeepsFieldAt}
use Rattle.plan_check.proofs.Keeping.{fields_kept}
use Rattle.plan_check.proofs.PairNames.{all_keys, within}
use Rattle.plan_check.proofs.rules.keeps_field.Goals as goal

pub returns : goal.returns
returns c =
    let rule = c.args.rule.now in
    let entries = c.in-Some.entries.now in
    let is : Some c.in-Some.entries.now ≡ find c.args.rule.now.table c.args.next.now = cc (c.in-Some.ensures.table, c.as_str.ensures.text) in (
      λ _. (fields_kept c.args.cur.now c.args.next.now rule).0
          (all_keys c.args.next.now rule.table (KeepsFieldAt c.args.cur.now c.args.next.now rule) entries is
          (λ i k e. let below = within c.in-Some.entries.now i k e in c.loop-i.invariant i k (omega arith) e)),
      λ _. refl,
    )
