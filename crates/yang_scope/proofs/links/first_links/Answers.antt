use Rattle.std.proofs.Common.{rules, ◌≡◌, ℕ, ◌++◌, List, [], ◌∷◌, ◌∙◌, get_or, map, sym, ap, arith}
use Rattle.yang_text.specs.Declarations.{block}
use Rattle.yang_scope.specs.Links.{map_from}
use Rattle.yang_scope.specs.Meanings.{typedef_meaning}
use Rattle.yang_scope.specs.Modules.{Module}
use Rattle.yang_scope.specs.declared.meanings.Meaning.{Meaning}
use Rattle.yang_scope.proofs.TypedefDistances.{map_from-next}
use Rattle.yang_scope.proofs.Blocks.{block-is}
use Rattle.yang_scope.proofs.Tables.{take_end}
use Rattle.yang_scope.proofs.links.first_links.Goals as goal

pub loop-number-preserved : goal.loop-number-preserved
loop-number-preserved c =
    let modules = c.args.set.now in
    let all = c.items-module-items.result.now in
    let n = c.loop-number.number in
    let m = c.module-item.result in
    let first : ℕ → Module → List Meaning = λ number x. map (typedef_meaning modules number) (block x.statement) in
    let is : get_or all n m ≡ m = search rules in
    let row : c.in_ok-row.row ≡ first n (get_or all n m) =
    c.in_ok-row.ensures
    ∙ ap (map (typedef_meaning modules n)) (c.items.ensures ∙ sym (block-is c.statement.result.now) ∙ ap block c.statement.ensures)
    ∙ ap (first n) (sym is) in
    c.in_ok-push.ensures.ok
    ∙ ap (λ r. c.loop-number.links ++ r ∷ []) row
    ∙ ap (λ ls. ls ++ first n (get_or all n m) ∷ []) c.loop-number.invariant
    ∙ sym (map_from-next first all n m (search rules))

pub returns : goal.returns
returns c =
    let modules = c.args.set.now in
    let first : ℕ → Module → List Meaning = λ number x. map (typedef_meaning modules number) (block x.statement) in
    c.loop-number.invariant
    ∙ ap (map_from first 0) (take_end c.loop-number.number c.items-module-items.result.now (omega arith) (omega arith) ∙ c.items-module-items.ensures)
