use Rattle.std.proofs.Common.{sym, ◌∙◌}
use Rattle.std.proofs.lemmas.Result.{on_ok_weaker}
use Rattle.plan_check.proofs.Taking.{no_goals, puts_goals}
use Rattle.plan_check.proofs.candidates.add_goals.Goals as goal

pub returns-in-None : goal.returns-in-None
returns-in-None c = no_goals c.args.here.now c.args.place.now c.args.found.now.items (sym c.in_ok-goals.ensures ∙ c.in-None.is)

pub returns-in_ok-at-in-Some : goal.returns-in_ok-at-in-Some
returns-in_ok-at-in-Some c =
    on_ok_weaker c.add_puts.result
    (λ takes. puts_goals c.args.here.now c.args.place.now c.in_ok-at-in-Some.at c.in-Some.part c.args.found.now.items c.add_puts.new.found.items
    (sym c.in_ok-goals.ensures ∙ c.in-Some.is) c.in_ok-at-in-Some.ensures takes)
    c.add_puts.ensures
