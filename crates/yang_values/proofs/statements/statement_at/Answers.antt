use Rattle.std.proofs.Common.{rules, ◌≡◌, ◌∙◌, Some, option_and_then, slice_get, sym, ap, arith}
use Rattle.std.proofs.lemmas.Option.{slice_get_past}
use Rattle.yang_text.specs.Declarations.{block}
use Rattle.yang_text.specs.Statements.{declaration}
use Rattle.yang_scope.specs.Modules.{Module}
use Rattle.yang_scope.proofs.Blocks.{block-is}
use Rattle.yang_values.proofs.statements.statement_at.Goals as goal

pub returns-then-place-len : goal.returns-then-place-len
returns-then-place-len c =
    let found : Some (record { file = c.in-Some.field-0-0; statement = declaration c.in-Some.module.now }) ≡ slice_get c.args.names.now c.args.number = search rules in
    sym c.at.ensures
    ∙ ap (λ ds. slice_get ds c.args.place) (sym (block-is c.in-Some.module.now))
    ∙ ap (option_and_then (λ (x : Module). slice_get (block x.statement) c.args.place)) found

pub returns-else-place-len : goal.returns-else-place-len
returns-else-place-len c =
    let found : Some (record { file = c.in-Some.field-0-0; statement = declaration c.in-Some.module.now }) ≡ slice_get c.args.names.now c.args.number = search rules in
    sym (slice_get_past c.in-Some.module.now.block c.args.place (omega arith))
    ∙ ap (λ ds. slice_get ds c.args.place) (sym (block-is c.in-Some.module.now))
    ∙ ap (option_and_then (λ (x : Module). slice_get (block x.statement) c.args.place)) found
