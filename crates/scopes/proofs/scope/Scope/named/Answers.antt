use Rattle.std.proofs.Common.{◌++◌, List, ℕ, sym, ap, ◌∙◌, codes}
use Rattle.scopes.proofs.ScopeNames.{no_scope, one_scope}
use Rattle.scopes.proofs.scope.Scope.named.Goals as goal

pub returns-in-Ok : goal.returns-in-Ok
returns-in-Ok c =
    let cut = c.in_ok-number.ensures.cases in
    let is = cut.1.1 ∙ ap (λ (rest : List ℕ). codes "asic" ++ rest) (sym cut.2) in
    one_scope c.args.name.now c.in_ok-number.number.now c.parse.result is c.parse.ensures.value.0 c.if-eq.ensures c.in-Ok.number c.in-Ok.is c.if_named.result c.if_named.ensures

pub returns-in-Err : goal.returns-in-Err
returns-in-Err c =
    let cut = c.in_ok-number.ensures.cases in
    let is = cut.1.1 ∙ ap (λ (rest : List ℕ). codes "asic" ++ rest) (sym cut.2) in
    no_scope c.args.name.now c.in_ok-number.number.now c.parse.result is c.parse.ensures.value.0 c.if-eq.ensures c.in-Err.field-0 c.in-Err.is
