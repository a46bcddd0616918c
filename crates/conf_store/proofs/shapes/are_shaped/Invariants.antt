use Rattle.std.proofs.Common.{◌≡◌, true, take}
use Rattle.std.specs.List.{list_all}
use Rattle.conf_store.specs.Shapes.{is_named}
use Rattle.conf_store.proofs.shapes.are_shaped.Given as goal

abbrev pub invariant-loop-i : goal.invariant-loop-i
invariant-loop-i g l = list_all (is_named g.X.Shaped.shape) (take l.i l.members) ≡ true
