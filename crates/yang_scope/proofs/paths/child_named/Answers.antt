use Rattle.std.proofs.Common.{◌&&◌, ◌∙◌, option_map, sym, ap}
use Rattle.std.specs.List.{find}
use Rattle.yang_text.specs.Declarations.{Declaration}
use Rattle.yang_text.specs.Statements.{declaration}
use Rattle.yang_scope.specs.Paths.{is_named}
use Rattle.yang_scope.specs.Statements.{is_keyword}
use Rattle.yang_scope.proofs.Blocks.{block-is, find-map, copied-map}
use Rattle.yang_scope.proofs.paths.child_named.Goals as goal

pub returns : goal.returns
returns c =
    let test = λ (d : Declaration). is_keyword c.args.word.now d && is_named c.args.name.now d in
    copied-map declaration c.statement_named.result
    ∙ ap (option_map declaration) c.statement_named.ensures
    ∙ sym (find-map declaration test c.items.result.now)
    ∙ ap (find test) (c.items.ensures ∙ sym (block-is c.args.statement.now))
