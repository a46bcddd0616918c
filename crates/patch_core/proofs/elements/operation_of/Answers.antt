use Rattle.std.specs.Prelude.{Result}
use Rattle.std.proofs.Common.{subst}
use Rattle.host_core.specs.Answers.{Gives}
use Rattle.serde_json.specs.View.{view}
use Rattle.patch_core.specs.Operation.{Operation, operation_of}
use Rattle.patch_core.specs.MemberReading.{element_fault}
use Rattle.patch_core.specs.declared.errors.PatchWhy.{PatchWhy}
use Rattle.patch_core.proofs.MemberRows.{read_is_element}
use Rattle.patch_core.proofs.elements.operation_of.Goals as goal

pub returns : goal.returns
returns c =
    subst (λ (r : Result Operation PatchWhy). Gives operation_of element_fault c.read_element.result r)
    (read_is_element (view c.args.value)) c.read_element.ensures
