use Rattle.std.proofs.Common.{◌≡◌, ◌≤◌, IfOk, Option, ℕ, sym, subst, arith}
use Rattle.checkpoints.specs.Formats.{greatest_number}
use Rattle.checkpoints.proofs.Decimals.{if_parsed, not_parsed}
use Rattle.checkpoints.proofs.format.read_number.Goals as goal

pub returns-in-Ok : goal.returns-in-Ok
returns-in-Ok c =
    let parses = c.in-Ok.ensures.value.0 in
    let most : c.in-Ok.number ≤ greatest_number = omega (arith, parses.0.1, parses.1) in
    let same = if_parsed c.args.digits.now c.in-Ok.number c.parse.result c.in-Ok.is most c.parse.ensures.value.0 in
    subst (λ (o : Option ℕ). IfOk c.if_decimal.result (λ n. n ≡ o)) same c.if_decimal.ensures

pub returns-in-Err : goal.returns-in-Err
returns-in-Err c = sym (not_parsed c.args.digits.now c.in-Err.field-0 c.in-Err.ensures.value.0)
