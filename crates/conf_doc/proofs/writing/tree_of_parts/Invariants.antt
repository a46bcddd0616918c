use Rattle.std.proofs.Common.{◌≡◌, map, take}
use Rattle.conf_doc.specs.Trees.{named_document}
use Rattle.conf_doc.proofs.writing.tree_of_parts.Given as goal

abbrev pub invariant-loop-i : goal.invariant-loop-i
invariant-loop-i g l = map named_document l.members.items ≡ map (λ p. (p.0, g.X.Written.as_document p.1)) (take l.i l.parts)
