use Rattle.std.proofs.Common.{map, take}
use Rattle.yang_model.specs.Names.{IsIndexOf}
use Rattle.yang_model.proofs.models.Models.new.Given as goal

abbrev pub invariant-loop-i : goal.invariant-loop-i
invariant-loop-i l = IsIndexOf l.index.places (map (λ t. t.name) (take l.i l.table-items))
