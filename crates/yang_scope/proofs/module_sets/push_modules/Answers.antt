use Rattle.std.proofs.Common.{List, ◌++◌, ◌∙◌, sym, ap}
use Rattle.std.specs.List.{flat_map}
use Rattle.yang_text.specs.Statements.{declaration}
use Rattle.yang_text.specs.declared.statements.Statement.{Statement}
use Rattle.yang_scope.specs.Modules.{Module, module_in}
use Rattle.yang_scope.proofs.Blocks.{flat_map-map, flat_map-more}
use Rattle.yang_scope.proofs.Tables.{take_end}
use Rattle.yang_scope.proofs.module_sets.push_modules.Goals as goal

pub loop-statement-preserved : goal.loop-statement-preserved
loop-statement-preserved c =
    let gives : Statement → List Module = λ s. module_in c.args.file (declaration s) in
    c.in_ok-push_module.ensures
    ∙ ap (λ ms. ms ++ gives c.statement-item.result) c.loop-statement.invariant
    ∙ flat_map-more gives c.args.statements.now c.loop-statement.statement-index c.statement-item.result c.args.modules.now.items c.loop-statement-test.true c.statement-item.is

pub returns : goal.returns
returns c =
    c.loop-statement.invariant
    ∙ ap (λ ms. c.args.modules.now.items ++ ms)
    (ap (flat_map (λ s. module_in c.args.file (declaration s))) (take_end c.loop-statement.statement-index c.args.statements.now c.loop-statement-test.false c.loop-statement.auto.statement-index-end) ∙ sym (flat_map-map (module_in c.args.file) declaration c.args.statements.now))
