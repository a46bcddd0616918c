use Rattle.std.proofs.Common.{◌≡◌, Option, Some, None}
use Rattle.move_gen.specs.Given.{IsRemovedField}
use Rattle.move_gen.proofs.ListGrowth.{appends_none}
use Rattle.move_gen.proofs.fields.remove_field.Goals as goal

found : {A : Type 0} (a : A) (o : Option A) → Some a ≡ o → o ≡ None → ⊥
found a o is none = cc

pub returns-in-Some : goal.returns-in-Some
returns-in-Some c =
    appends_none (IsRemovedField c.args.table.now c.args.key.now c.args.new.now c.args.field.now c.args.value.now) c.args.out.now.items
    (λ g is. found c.in-Some.field-0.now _ c.in-Some.ensures is.0)
