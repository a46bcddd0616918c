use Rattle.std.proofs.Common.{◌++◌, ap, subst}
use Rattle.host_core.specs.Crashes.{Elapses}
use Rattle.gcu_output.specs.Lines.{last_line}
use Rattle.gcu_output.specs.Printing.{IsSaid, LeftInText}
use Rattle.gcu_output.specs.declared.outcomes.Outcome.TheVariants.{Done}
use Rattle.scope_commands.proofs.plan_scopes.show_plans.Goals as goal

pub returns-in-Ok-clause-said : goal.returns-in-Ok-clause-said
returns-in-Ok-clause-said g c =
    let host = g.H.Host in
    let old = c.args.host.now in
    let new = c.show_text.new.host in
    subst
    (λ t. IsSaid Done t (host.told old) (host.told new) (host.counts old) (host.counts new) c.show_text.result)
    (ap (λ t. t ++ last_line Done) c.in-Ok.ensures) c.show_text.ensures.said

pub returns-in-Ok-clause-time : goal.returns-in-Ok-clause-time
returns-in-Ok-clause-time g c =
    let host = g.H.Host in
    let old = c.args.host.now in
    subst
    (λ t. Elapses host.moment host.left_since old c.show_text.new.host (LeftInText t (host.told old)))
    (ap (λ t. t ++ last_line Done) c.in-Ok.ensures) c.show_text.ensures.time
