use Rattle.std.proofs.Common.{◌∙◌, sym}
use Rattle.yang_text.specs.Statements.{declaration}
use Rattle.yang_values.specs.Values.{restricted_values}
use Rattle.yang_values.proofs.ValuelessParts.{parts_without}
use Rattle.yang_values.proofs.values.parts_at.Goals as goal

pub returns-in-Ok-Some : goal.returns-in-Ok-Some
returns-in-Ok-Some c =
    sym (parts_without (restricted_values c.args.names.now c.args.number (declaration c.args.statement.now)) c.args.text.now c.in-Ok-Some.found
    (sym c.in-Ok-Some.ensures ∙ c.in-Ok-Some.field-0-is))
