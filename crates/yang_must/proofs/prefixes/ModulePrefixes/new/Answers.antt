use Rattle.std.proofs.Common.{List, ◌∙◌, sym, subst}
use Rattle.yang_text.specs.Declarations.{Declaration}
use Rattle.yang_scope.specs.Modules.{prefixes_by}
use Rattle.yang_scope.specs.NameTables.{IsTableOf}
use Rattle.yang_scope.specs.Statements.{each_from}
use Rattle.yang_scope.proofs.Blocks.{block-is}
use Rattle.yang_must.proofs.prefixes.ModulePrefixes.new.Goals as goal

pub invariant_of-result : goal.invariant_of-result
invariant_of-result c =
    subst (λ (ds : List Declaration). IsTableOf c.in_ok-prefixes.prefixes.numbers (each_from prefixes_by 0 ds))
    (c.items.ensures ∙ sym (block-is c.args.statement.now)) c.in_ok-prefixes.ensures
