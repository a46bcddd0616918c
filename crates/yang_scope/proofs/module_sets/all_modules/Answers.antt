use Rattle.std.proofs.Common.{rules, ◌≡◌, ◌++◌, ◌∙◌, sym, ap, get_or, arith}
use Rattle.yang_scope.specs.Modules.{modules_in}
use Rattle.yang_scope.specs.Statements.{each_from}
use Rattle.yang_scope.proofs.Tables.{each_from-next, each_from-map, take_end}
use Rattle.yang_scope.proofs.module_sets.all_modules.Goals as goal

pub loop-file-preserved : goal.loop-file-preserved
loop-file-preserved c =
    let f = c.index-files-file.result in
    let is : get_or c.args.files.now c.loop-file.file f ≡ f = search rules in
    c.in_ok-push_modules.ensures
    ∙ ap (λ ds. c.loop-file.modules.items ++ modules_in c.loop-file.file ds) (c.items.ensures ∙ ap (λ g. g.1) (sym is))
    ∙ ap (λ ms. ms ++ modules_in c.loop-file.file (get_or c.args.files.now c.loop-file.file f).1) c.loop-file.invariant
    ∙ sym (each_from-next (λ i f. modules_in i f.1) c.args.files.now c.loop-file.file f (search rules))

pub returns : goal.returns
returns c =
    c.loop-file.invariant
    ∙ ap (each_from (λ i f. modules_in i f.1) 0) (take_end c.loop-file.file c.args.files.now (omega arith) (omega arith))
    ∙ sym (each_from-map modules_in (λ f. f.1) 0 c.args.files.now)
