use Rattle.std.proofs.Common.{rules, ◌≡◌, ◌++◌, true, cond, List, codes, subst, sym, ap, ◌∙◌, IfOk}
use Rattle.std.specs.List.{flat_map}
use Rattle.std.specs.Str.{bytes_eq}
use Rattle.yang_text.specs.Declarations.{block}
use Rattle.yang_text.specs.Statements.{declaration}
use Rattle.yang_scope.specs.Modules.{prefix_entry}
use Rattle.yang_scope.specs.NameTables.{IsTableOf}
use Rattle.yang_scope.specs.Statements.{Entry}
use Rattle.yang_scope.proofs.Blocks.{block-is}
use Rattle.yang_scope.proofs.modules.push_prefixes.Goals as goal

pub returns-in-import : goal.returns-in-import
returns-in-import c =
    let s = c.args.statement.now in
    let yes : bytes_eq s.keyword (codes "import") ≡ true = search rules in
    let given : List Entry = flat_map (prefix_entry c.args.place) (block (declaration s)) in
    subst (λ (es : List Entry). IfOk c.push_import.result (λ _. (entries : List Entry) → IsTableOf c.args.table.now.numbers entries → IsTableOf c.push_import.new.table.numbers (entries ++ es)))
    (ap (flat_map (prefix_entry c.args.place)) (c.items.ensures ∙ sym (block-is s)) ∙ sym (ap (λ b. cond b given (prefix_entry c.args.place (declaration s))) yes))
    c.push_import.ensures
