use Rattle.std.proofs.Common.{sym, subst}
use Rattle.conf_check.specs.Wants.{IsWantAt}
use Rattle.conf_check.proofs.RemainingWants.{all_ahead}
use Rattle.conf_check.proofs.want_runs.wants.Goals as goal

pub returns-clause-ahead : goal.returns-clause-ahead
returns-clause-ahead c = λ p w wanted.
    let s = c.of_configuration.result in
    all_ahead s c.of_configuration.ensures.whole c.of_configuration.ensures.from p w
    (subst (λ m. IsWantAt m s.config.now p w) (sym c.of_configuration.ensures.models)
    (subst (λ d. IsWantAt c.args.models.now d p w) (sym c.of_configuration.ensures.config) wanted))
