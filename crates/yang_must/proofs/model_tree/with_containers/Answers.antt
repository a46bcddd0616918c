use Rattle.std.proofs.Common.{rules, ◌++◌, [], ◌∷◌, codes, map, take, append_assoc, sym, ap, ◌∙◌, arith}
use Rattle.std.specs.List.{filter}
use Rattle.yang_text.specs.Declarations.{block}
use Rattle.yang_text.specs.Statements.{declaration}
use Rattle.yang_scope.specs.Statements.{is_keyword}
use Rattle.yang_scope.proofs.Blocks.{block-is}
use Rattle.yang_scope.proofs.Tables.{take_end}
use Rattle.yang_must.specs.Spots.{container_at}
use Rattle.yang_scope.proofs.Finding.{map-filter-next}
use Rattle.yang_must.proofs.model_tree.with_containers.Goals as goal

pub loop-statement-preserved : goal.loop-statement-preserved
loop-statement-preserved c =
    let x = c.statement-item.result in
    let items = c.items-statement-items.result.now in
    let index = c.loop-statement.statement-index in
    let at = container_at c.args.owner.now.file c.args.number in
    let p = is_keyword (codes "container") in
    c.in_ok-all.ensures
    ∙ (λ i. c.loop-statement.invariant i ++ map (container_at (c.file.ensures i) c.args.number) (filter p (declaration x ∷ [])))
    ∙ append_assoc c.args.containers (map at (filter p (map declaration (take index items)))) (map at (filter p (declaration x ∷ [])))
    ∙ ap (λ ys. c.args.containers ++ ys) (sym (map-filter-next at p declaration items index x (search rules) (search rules)))

pub returns : goal.returns
returns c =
    let items = c.items-statement-items.result.now in
    let at = container_at c.args.owner.now.file c.args.number in
    let p = is_keyword (codes "container") in
    c.loop-statement.invariant
    ∙ ap (λ ss. c.args.containers ++ map at (filter p (map declaration ss))) (take_end c.loop-statement.statement-index items (omega arith) (omega arith))
    ∙ ap (λ ds. c.args.containers ++ map at (filter p ds))
    (c.items-statement-items.ensures ∙ sym (block-is c.statement.result.now) ∙ ap block c.statement.ensures)
