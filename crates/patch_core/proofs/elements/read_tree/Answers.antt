use Rattle.std.proofs.Common.{◌≡◌, Result, Ok, Err}
use Rattle.conf_doc.specs.Document.{Document}
use Rattle.conf_doc.specs.Pointer.{pointer}
use Rattle.conf_doc.specs.Reading.{Way, document_of}
use Rattle.conf_doc.specs.declared.errors.ReadError.{ReadError}
use Rattle.conf_doc.specs.declared.errors.ReadError.TheVariants.{BadKind}
use Rattle.patch_core.specs.MemberReading.{or_bad_value}
use Rattle.serde_json.specs.View.{view}
use Rattle.patch_core.proofs.elements.read_tree.Goals as goal

-- `valued` of a value is this of its document
abbrev checked : Result Document Way → Result Document ReadError
checked (Ok d) = Ok d
checked (Err way) = Err (BadKind (pointer way))

read_as : (r : Result Document Way) (d : Document) → checked r ≡ Ok d → or_bad_value r ≡ Ok d
read_as (Ok e) d h = cc
read_as (Err way) d h = absurd (cc)

pub returns-in-Ok : goal.returns-in-Ok
returns-in-Ok c = read_as (document_of (view c.args.value)) _ c.in-Ok.ensures
