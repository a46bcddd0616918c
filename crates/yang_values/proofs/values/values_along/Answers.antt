use Rattle.std.proofs.Common.{◌∙◌, Bor, sym, ap, arith}
use Rattle.std.specs.List.{fold}
use Rattle.yang_text.specs.Statements.{declaration}
use Rattle.yang_text.specs.declared.statements.Statement.{Statement}
use Rattle.yang_values.specs.Values.{values_by}
use Rattle.yang_values.proofs.Chains.{fold-map}
use Rattle.yang_values.proofs.ElementResults.{take_end}
use Rattle.yang_values.proofs.values.values_along.Goals as goal

pub returns : goal.returns
returns c =
    c.loop-statement.invariant
    ∙ ap (fold (λ left s. values_by c.args.base left (declaration s.now)) c.args.values) (take_end c.loop-statement.statement-index c.args.statements.now (omega arith) (omega arith))
    ∙ sym (fold-map (values_by c.args.base) (λ (s : Bor Statement). declaration s.now) c.args.values c.args.statements.now)
