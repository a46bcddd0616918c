use Rattle.std.proofs.Common.{map, take}
use Rattle.yang_model.specs.Names.{IsIndexOf}
use Rattle.yang_model.proofs.shapes.IndexedShape.new.Given as goal

abbrev pub invariant-loop-i : goal.invariant-loop-i
invariant-loop-i l = IsIndexOf l.index.places (map (λ f. f.name) (take l.i l.field-items))
