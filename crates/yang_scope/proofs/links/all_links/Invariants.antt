use Rattle.std.proofs.Common.{◌^◌}
use Rattle.yang_scope.specs.Links.{IsBehind}
use Rattle.yang_scope.proofs.links.all_links.Given as goal

abbrev pub invariant-loop-round : goal.invariant-loop-round
invariant-loop-round l = IsBehind l.set (2 ^ l.round) l.links
