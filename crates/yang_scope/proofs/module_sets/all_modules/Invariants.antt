use Rattle.std.proofs.Common.{◌≡◌, take}
use Rattle.yang_scope.specs.Modules.{modules_in}
use Rattle.yang_scope.specs.Statements.{each_from}
use Rattle.yang_scope.proofs.module_sets.all_modules.Given as goal

abbrev pub invariant-loop-file : goal.invariant-loop-file
invariant-loop-file l = l.modules.items ≡ each_from (λ i f. modules_in i f.1) 0 (take l.file l.files)
