use Rattle.std.proofs.Common.{rules, ◌≡◌, ◌++◌, get_or, take, sym, ap, ◌∙◌, arith}
use Rattle.yang_scope.specs.Statements.{each_from}
use Rattle.yang_scope.proofs.Tables.{each_from-next, take_end}
use Rattle.yang_scope.specs.Nodes.{containers_in}
use Rattle.yang_scope.proofs.nodes.all_containers.Goals as goal

pub loop-number-preserved : goal.loop-number-preserved
loop-number-preserved c =
    let m = c.index-modules-number.result in
    let n = c.loop-number.number in
    let is : get_or c.args.modules.now n m ≡ m = search rules in
    c.in_ok-containers.ensures
    ∙ ap (λ cs. cs ++ containers_in n m) c.loop-number.invariant
    ∙ ap (λ x. each_from containers_in 0 (take n c.args.modules.now) ++ containers_in n x) (sym is)
    ∙ sym (each_from-next containers_in c.args.modules.now n m (search rules))

pub returns : goal.returns
returns c =
    c.loop-number.invariant
    ∙ ap (each_from containers_in 0) (take_end c.loop-number.number c.args.modules.now (omega arith) (omega arith))
