use Rattle.std.proofs.Common.{sym, ap, ◌∙◌}
use Rattle.yang_must.specs.MustValues.{must_value}
use Rattle.yang_model.specs.ShapeCodes.{expr_back}
use Rattle.yang_model.specs.Shapes.{must_rule}
use Rattle.yang_model.proofs.musts.rule_of.Goals as goal

pub returns-in-Ok : goal.returns-in-Ok
returns-in-Ok c =
    let must = c.args.must in
    ap (λ e. record { leaf = c.in-Ok.leaf; expr = e; reads = must.reads }) (sym (expr_back must.expr))
    ∙ ap (λ (n : _). must_rule n (must_value must)) c.in-Ok.ensures
