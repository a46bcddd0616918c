use Rattle.std.proofs.Common.{rules, ◌≡◌, ◌++◌, ℕ, List, Bor, get_or, take, sym, ap, ◌∙◌, arith}
use Rattle.yang_text.specs.Statements.{declaration}
use Rattle.yang_text.specs.declared.statements.Statement.{Statement}
use Rattle.yang_scope.specs.Nodes.{list_in}
use Rattle.yang_scope.specs.Paths.{Placed}
use Rattle.yang_scope.specs.Statements.{each_from}
use Rattle.yang_scope.proofs.Tables.{each_from-map, each_from-next, take_end}
use Rattle.yang_scope.proofs.nodes.lists_among.Goals as goal

abbrev gives : ℕ → Bor Statement → List Placed
gives i s = list_in i (declaration s.now)

pub loop-number-preserved : goal.loop-number-preserved
loop-number-preserved c =
    let s = c.index-shapes-number.result in
    let n = c.loop-number.number in
    let is : get_or c.args.shapes.now n s ≡ s = search rules in
    c.in_ok-lists.ensures
    ∙ ap (λ ls. ls ++ gives n s) c.loop-number.invariant
    ∙ ap (λ x. each_from gives 0 (take n c.args.shapes.now) ++ gives n x) (sym is)
    ∙ sym (each_from-next gives c.args.shapes.now n s (search rules))

pub returns : goal.returns
returns c =
    c.loop-number.invariant
    ∙ ap (each_from gives 0) (take_end c.loop-number.number c.args.shapes.now (omega arith) (omega arith))
    ∙ sym (each_from-map list_in (λ (s : Bor Statement). declaration s.now) 0 c.args.shapes.now)
