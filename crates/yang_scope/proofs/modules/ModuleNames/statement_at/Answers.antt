use Rattle.std.proofs.Common.{◌∙◌, slice_get, sym, ap, arith}
use Rattle.std.proofs.lemmas.Option.{slice_get_past}
use Rattle.yang_text.specs.Declarations.{block}
use Rattle.yang_scope.proofs.Blocks.{block-is}
use Rattle.yang_scope.proofs.modules.ModuleNames.statement_at.Goals as goal

pub returns-then-place-len : goal.returns-then-place-len
returns-then-place-len c =
    sym c.at.ensures
    ∙ ap (λ ds. slice_get ds c.args.place) (sym (block-is c.self.inside.statement.now) ∙ ap (λ m. block m.statement) c.self.view_is)

pub returns-else-place-len : goal.returns-else-place-len
returns-else-place-len c =
    sym (slice_get_past c.self.inside.statement.now.block c.args.place (omega arith))
    ∙ ap (λ ds. slice_get ds c.args.place) (sym (block-is c.self.inside.statement.now) ∙ ap (λ m. block m.statement) c.self.view_is)
