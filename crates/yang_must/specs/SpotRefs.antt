-- The spot that references to nodes are of.
use Rattle.yang_text.specs.Statements.{declaration}
use Rattle.yang_must.specs.Spots.{Spot, root, container, table, shape, leaf}
use Rattle.yang_must.specs.declared.spots.SpotRef.{SpotRef}
use Rattle.yang_must.specs.declared.spots.SpotRef.TheVariants.{Root, Container, Table, Shape, Leaf}

-- by the statements of the nodes
abbrev pub spot_at : SpotRef → Spot
spot_at Root = root
spot_at (Container c) = container c.now.statement
spot_at (Table c t) = table c.now.statement t.now
spot_at (Shape c t s) = shape c.now.statement t.now s.now
spot_at (Leaf c t s l) = leaf c.now.statement t.now s.now (declaration l.now)
