use Rattle.std.proofs.Common.{All, IsTrue, ◌↔◌, rules, subst}
use Rattle.plan_check.specs.Keeping.{KeepsPlaces}
use Rattle.plan_check.proofs.Keeping.{rule_kept}
use Rattle.plan_check.proofs.PartsAt.{says}
use Rattle.plan_check.proofs.rules.keeps_rule.Goals as goal

pub returns : goal.returns
returns c =
    let all : IsTrue c.all.result ↔ All (KeepsPlaces c.args.rule.now c.args.cur.now c.args.next.now) c.items-places.result.now = search rules in
    says (subst (λ xs. IsTrue c.all.result ↔ All (KeepsPlaces c.args.rule.now c.args.cur.now c.args.next.now) xs) c.items-places.ensures all)
    (rule_kept c.args.cur.now c.args.next.now c.args.rule.now)
