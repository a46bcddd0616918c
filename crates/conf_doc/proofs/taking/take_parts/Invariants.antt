use Rattle.std.proofs.Common.{◌≡◌, ◌++◌, map}
use Rattle.std.specs.Vec.Iter.{into_iter_items}
use Rattle.conf_doc.specs.Shared.{pairs_of}
use Rattle.conf_doc.specs.Trees.{named_document}
use Rattle.conf_doc.proofs.taking.take_parts.Given as goal

abbrev pub invariant-loop-pair : goal.invariant-loop-pair
invariant-loop-pair g l =
    map named_document l.members.items ++ map (λ p. (p.0, g.X.Written.as_document p.1)) (pairs_of (into_iter_items l.pair-iterator))
    ≡ map (λ p. (p.0, g.X.Written.as_document p.1)) l.fn.parts
