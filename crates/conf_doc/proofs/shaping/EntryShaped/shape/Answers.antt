use Rattle.conf_doc.proofs.shaping.EntryShaped.shape.Goals as goal

pub invariant_of-result : goal.invariant_of-result
invariant_of-result c = let parts = c.in_ok-shape_map.ensures in record { shaped = parts.shaped; parts = parts.formed }

pub returns-clause-formed : goal.returns-clause-formed
returns-clause-formed c = let parts = c.in_ok-shape_map.ensures in record { shaped = parts.shaped; parts = parts.formed }
