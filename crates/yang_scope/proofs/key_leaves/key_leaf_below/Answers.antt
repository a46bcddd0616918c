use Rattle.std.proofs.Common.{◌≡◌, ◌∙◌, IfOk, Option, Some, None, Bor, codes, option_map, option_and_then, sym, ap, subst}
use Rattle.yang_text.specs.Declarations.{Declaration}
use Rattle.yang_text.specs.Statements.{declaration}
use Rattle.yang_text.specs.declared.statements.Statement.{Statement}
use Rattle.yang_scope.specs.Paths.{Placed, child_named, key_leaf_in}
use Rattle.yang_scope.proofs.Finding.{list-found}
use Rattle.yang_scope.proofs.key_leaves.key_leaf_below.Goals as goal

pub returns-in-Some : goal.returns-in-Some
returns-in-Some c =
    let table : Option Declaration = child_named (codes "container") c.args.table.now c.args.container.now.1 in
    let list : Placed = c.in-Some.list.now in
    let at : Option Declaration = Some list.1 in
    let found : at ≡ option_and_then (child_named (codes "list") c.args.list.now) table =
    ap (λ (o : Option (Bor Placed)). option_map (λ (l : Placed). l.1) (option_map (λ (l : Bor Placed). l.now) o)) (sym c.in-Some.is)
    ∙ ap (option_map (λ (l : Placed). l.1)) c.list_below.ensures
    ∙ list-found c.args.list.now table in
    subst (λ (d : Option Declaration). IfOk c.key_leaf_in.result (λ found. option_map (λ (s : Bor Statement). declaration s.now) found ≡ d))
    (ap (option_and_then (key_leaf_in c.args.leaf.now)) found)
    c.key_leaf_in.ensures

pub returns-in-None : goal.returns-in-None
returns-in-None c =
    let table : Option Declaration = child_named (codes "container") c.args.table.now c.args.container.now.1 in
    let none : Option Declaration = None in
    let found : none ≡ option_and_then (child_named (codes "list") c.args.list.now) table =
    ap (λ (o : Option (Bor Placed)). option_map (λ (l : Placed). l.1) (option_map (λ (l : Bor Placed). l.now) o)) (sym c.in-None.is)
    ∙ ap (option_map (λ (l : Placed). l.1)) c.list_below.ensures
    ∙ list-found c.args.list.now table in
    ap (option_and_then (key_leaf_in c.args.leaf.now)) found
