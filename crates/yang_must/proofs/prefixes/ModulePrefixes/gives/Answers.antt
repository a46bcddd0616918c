use Rattle.std.proofs.Common.{◌∙◌, sym, ap, slice_get, option_and_then, is_some}
use Rattle.yang_text.specs.Declarations.{block}
use Rattle.yang_text.specs.Statements.{declaration}
use Rattle.yang_scope.specs.Meanings.{prefix_giver}
use Rattle.yang_scope.proofs.Blocks.{block-is}
use Rattle.yang_scope.proofs.Finding.{copied-item}
use Rattle.yang_must.proofs.Filters.{some-copied, some-mapped}
use Rattle.yang_must.proofs.prefixes.ModulePrefixes.gives.Goals as goal

pub returns-in-Some : goal.returns-in-Some
returns-in-Some c =
    let s = c.self.inside.statement.now in
    let place = c.in-Some.place in
    c.is_some.ensures
    ∙ some-copied c.get-in-Some.result
    ∙ ap is_some (copied-item c.items.result.now place c.get-in-Some.result c.get-in-Some.ensures.lookup)
    ∙ some-mapped declaration c.items.result.now place
    ∙ ap (λ ds. is_some (slice_get ds place)) (c.items.ensures ∙ sym (block-is s))
    ∙ ap (λ o. is_some (option_and_then (slice_get (block (declaration s))) o)) (sym c.in-Some.is ∙ c.get.ensures _ c.self.invariant)
    ∙ ap (λ m. is_some (prefix_giver c.args.prefix.now m)) c.self.view_is
