use Rattle.plan_check.proofs.Keeping.{places_kept}
use Rattle.plan_check.proofs.rules.keeps_places.Goals as goal

pub returns-then-keeps_keys_of : goal.returns-then-keeps_keys_of
returns-then-keeps_keys_of c =
    let kept = places_kept c.args.cur.now c.args.next.now c.args.rule.now c.args.requiring.now in (
      λ t. kept.0 (c.keeps_keys_of.ensures.0 c.if-keeps_keys_of.true, c.keeps_keys_of-then-keeps_keys_of.ensures.0 t),
      λ keeps. c.keeps_keys_of-then-keeps_keys_of.ensures.1 (kept.1 keeps).1,
    )

pub returns-else-keeps_keys_of : goal.returns-else-keeps_keys_of
returns-else-keeps_keys_of c =
    let kept = places_kept c.args.cur.now c.args.next.now c.args.rule.now c.args.requiring.now in
    (λ t. absurd (cc (t, c.if-keeps_keys_of.false)), λ keeps. c.keeps_keys_of.ensures.1 (kept.1 keeps).0)
