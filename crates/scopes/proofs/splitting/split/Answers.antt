use Rattle.std.proofs.Common.{List, map, sym, ap, ◌∙◌}
use Rattle.patch_core.specs.Operation.{operation_of}
use Rattle.patch_core.specs.declared.operations.Op.{Op}
use Rattle.scopes.proofs.ScopelessOperations.{split_fails, split_parts}
use Rattle.scopes.specs.Splitting.{part_of, split}
use Rattle.scopes.proofs.splitting.split.Goals as goal

pub returns-in-Some : goal.returns-in-Some
returns-in-Some c =
    ap (λ (ops : List Op). split (map operation_of ops)) (sym c.items-ops.ensures)
    ∙ split_fails c.items-ops.result.now c.first_outside.result c.first_outside.ensures c.in-Some.index c.in-Some.is

pub returns-in_ok-parts_of-in-None : goal.returns-in_ok-parts_of-in-None
returns-in_ok-parts_of-in-None c =
    ap (λ (ops : List Op). split (map operation_of ops)) (sym c.items-ops.ensures)
    ∙ split_parts c.items-ops.result.now c.first_outside.result c.first_outside.ensures
    (map part_of c.in_ok-parts_of-in-None.field-0.items) c.in_ok-parts_of-in-None.ensures c.in-None.is
