use Rattle.std.proofs.Common.{◌∙◌, sym, ap}
use Rattle.yang_text.specs.Statements.{declaration}
use Rattle.yang_scope.specs.Paths.{Placed}
use Rattle.yang_values.specs.Sameness.{same_declaration}
use Rattle.yang_values.proofs.EqualStatements.{declaration-is, declaration-same}
use Rattle.yang_values.proofs.circles.is_same.Goals as goal

pub returns-then-one-other : goal.returns-then-one-other
returns-then-one-other c =
    let d = declaration c.args.one.now.statement.now in
    let e = declaration c.args.other.now.statement.now in (
      λ h. λ i. (c.if-one-other.true i, declaration-is d e (sym c.same_declaration.ensures ∙ h) i),
      λ p. c.same_declaration.ensures ∙ ap (same_declaration d) (sym (ap (λ (q : Placed). q.1) p)) ∙ declaration-same d,
    )
