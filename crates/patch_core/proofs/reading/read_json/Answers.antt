use Rattle.conf_doc.specs.Reading.{json}
use Rattle.conf_doc.specs.declared.errors.ReadError.TheVariants.{BadJson}
use Rattle.serde_json.specs.View.{view}
use Rattle.patch_core.proofs.PatchElements.{value_none, value_there}
use Rattle.patch_core.proofs.reading.read_json.Goals as goal

pub returns-in-Ok : goal.returns-in-Ok
returns-in-Ok c = value_there (json c.args.bytes.now) (view c.in-Ok.value) c.in-Ok.ensures

pub returns-in-Err-BadJson : goal.returns-in-Err-BadJson
returns-in-Err-BadJson c =
    let none = rw c.in-Err-BadJson.field-0-is at c.in-Err-BadJson.ensures in
    value_none (json c.args.bytes.now) BadJson none

pub returns-in-Err-BadKind : goal.returns-in-Err-BadKind
returns-in-Err-BadKind c =
    let none = rw c.in-Err-BadKind.field-0-is at c.in-Err-BadKind.ensures in
    value_none (json c.args.bytes.now) _ none
