use Rattle.std.proofs.Common.{All, IsTrue, ◌↔◌, rules, subst}
use Rattle.plan_check.specs.Keeping.{KeepsRule}
use Rattle.plan_check.proofs.Keeping.{required_kept}
use Rattle.plan_check.proofs.PartsAt.{says}
use Rattle.plan_check.proofs.rules.keeps_required.Goals as goal

pub returns : goal.returns
returns c =
    let all : IsTrue c.all.result ↔ All (KeepsRule c.args.cur.now c.args.next.now) c.items-rules.result.now = search rules in
    says (subst (λ xs. IsTrue c.all.result ↔ All (KeepsRule c.args.cur.now c.args.next.now) xs) c.items-rules.ensures all)
    (required_kept c.args.cur.now c.args.next.now c.args.settings.now)
