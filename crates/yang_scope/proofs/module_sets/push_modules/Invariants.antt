use Rattle.std.proofs.Common.{◌≡◌, ◌++◌, take}
use Rattle.std.specs.List.{flat_map}
use Rattle.yang_text.specs.Statements.{declaration}
use Rattle.yang_scope.specs.Modules.{module_in}
use Rattle.yang_scope.proofs.module_sets.push_modules.Given as goal

abbrev pub invariant-loop-statement : goal.invariant-loop-statement
invariant-loop-statement l = l.modules.items ≡ l.fn.modules.items ++ flat_map (λ s. module_in l.file (declaration s)) (take l.statement-index l.statements)
