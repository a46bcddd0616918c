use Rattle.std.proofs.Common.{◌≡◌, true, false, rules, sym, subst}
use Rattle.gcu_words.specs.ScopesForm.{scopes_view}
use Rattle.scope_commands.specs.SeveralScopes.{PrintsOrDoes}
use Rattle.scope_commands.proofs.applying.apply_settled.Goals as goal

-- a dry run
pub returns-then-change-clause-does : goal.returns-then-change-clause-does
returns-then-change-clause-does g c =
    let is : c.args.change.options.dry_run ≡ true = search rules in
    subst
    (λ b. PrintsOrDoes g.H.Host.told g.H.Host.counts g.H.Host.moment g.H.Host.left_since b (scopes_view c.args.change)
    c.args.host.now c.plan_settled.new.host c.plan_settled.result)
    (sym is) c.plan_settled.ensures.prints

-- or not
pub returns-else-change-clause-does : goal.returns-else-change-clause-does
returns-else-change-clause-does g c =
    let isnt : c.args.change.options.dry_run ≡ false = search rules in
    subst
    (λ b. PrintsOrDoes g.H.Host.told g.H.Host.counts g.H.Host.moment g.H.Host.left_since b (scopes_view c.args.change)
    c.args.host.now c.change_settled.new.host c.change_settled.result)
    (sym isnt) c.change_settled.ensures.does
