-- The shape of an entry, as it is found once and kept.
use Rattle.std.specs.Prelude.{ℕ, List, Option, None, MatchOption}
use denote.Ref.{Bor}
use Rattle.conf_doc.specs.declared.configuration.Config.{Config}
use Rattle.yang_model.specs.Belongs.{Belongs}
use Rattle.yang_model.specs.ModelSets.{ModelSet, shapes_of}
use Rattle.yang_model.specs.declared.shapes.Shape.{Shape}
use Rattle.conf_check.specs.Rows.{IsEntryAt, IsShapeOf}

-- the answer is the shape of an entry of that key of that table, None where it belongs to none
abbrev pub IsShapeFound : ModelSet → List ℕ → List ℕ → Option (Bor Shape) → Type 0
IsShapeFound models table key answer =
    MatchOption answer
    (Belongs (shapes_of table models) key None)
    (λ shape. IsShapeOf models table key shape.now)

-- the same of the entry at a place, where there is one
abbrev pub IsShapeAt : ModelSet → Config → ℕ → ℕ → Option (Bor Shape) → Type 0
IsShapeAt models config t k answer =
    (table key : List ℕ) → IsEntryAt config table key t k → IsShapeFound models table key answer
