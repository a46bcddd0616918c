use Rattle.std.proofs.Common.{sym, subst}
use Rattle.conf_doc.specs.WellFormed.{IsTable}
use Rattle.conf_doc.proofs.shaping.TableShaped.shape.Goals as goal

pub invariant_of-result : goal.invariant_of-result
invariant_of-result c = let parts = c.in_ok-list.ensures in subst IsTable (sym c.of.ensures) (record { shaped = parts.shaped; parts = parts.formed })

pub returns-clause-formed : goal.returns-clause-formed
returns-clause-formed c = let parts = c.in_ok-list.ensures in subst IsTable (sym c.of.ensures) (record { shaped = parts.shaped; parts = parts.formed })
