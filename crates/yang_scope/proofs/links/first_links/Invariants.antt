use Rattle.std.proofs.Common.{◌≡◌, map, take}
use Rattle.yang_text.specs.Declarations.{block}
use Rattle.yang_scope.specs.Links.{map_from}
use Rattle.yang_scope.specs.Meanings.{typedef_meaning}
use Rattle.yang_scope.proofs.links.first_links.Given as goal

abbrev pub invariant-loop-number : goal.invariant-loop-number
invariant-loop-number l = l.links ≡ map_from (λ number m. map (typedef_meaning l.set number) (block m.statement)) 0 (take l.number l.module-items)
