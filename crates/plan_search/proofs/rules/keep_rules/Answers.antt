use Rattle.move_core.specs.Contexts.{rulebook}
use Rattle.plan_search.proofs.RuleKinds.{create_only, full, no_dependency, no_empty, passes_no_dependency, required}
use Rattle.plan_search.proofs.rules.keep_rules.Goals as goal

pub returns-clause-keeps : goal.returns-clause-keeps
returns-clause-keeps g c =
    let book = rulebook c.args.ctx.now in
    let cur = c.args.cur.now in
    let next = c.args.next.now in
    let mv = c.args.mv.now in (
      λ passes. record {
        full = full book cur next mv (c.allows_at-4.ensures.allows.0 c.if-not-allows_at-4.false);
        no_dependency = no_dependency book cur next mv (c.allows_at-5.ensures.allows.0 passes);
        no_empty = no_empty book cur next mv (c.allows_at-3.ensures.allows.0 c.if-not-allows_at-3.false);
        create_only = create_only book cur next mv (c.allows_at.ensures.allows.0 c.if-not-allows_at.false);
        required = required book cur next mv (c.allows_at-2.ensures.allows.0 c.if-not-allows_at-2.false);
      },
      λ keeps. c.allows_at-5.ensures.allows.1 (passes_no_dependency book cur next mv keeps),
    )
