use Rattle.std.proofs.Common.{length, ap, subst, ◌≤◌}
use Rattle.gcu_requests.proofs.FieldNames.{no_rule_name}
use Rattle.gcu_requests.proofs.violation_fields.push_rule_name.Goals as goal

pub returns-in-None : goal.returns-in-None
returns-in-None c =
    no_rule_name c.args.names.now c.args.shape.now c.args.field
    (subst (λ n. n ≤ c.args.field) (ap length c.items.ensures) c.in-None.ensures.lookup.3)
