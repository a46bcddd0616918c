use Rattle.std.proofs.Common.{◌≡◌, Ok, Err, sym, subst, ◌∙◌}
use Rattle.host_core.specs.Answers.{FailsAs}
use Rattle.patch_core.specs.Operation.{operations}
use Rattle.patch_core.specs.Reading.{patch, patch_fault}
use Rattle.patch_core.specs.declared.errors.PatchError.TheVariants.{BadJson, BadPatch}
use Rattle.plan_texts.specs.Elements.{Reads}
use Rattle.plan_texts.proofs.OneElement.{read_one, read_none}
use Rattle.plan_texts.proofs.elements.read_operation.Goals as goal

pub returns-in-Ok : goal.returns-in-Ok
returns-in-Ok c =
    let at = c.deref.ensures.value ∙ c.in_ok-document.ensures in
    let ops = operations c.in-Ok.patch in
    let read = subst (λ bs. patch bs ≡ Ok ops) at c.in-Ok.ensures in
    subst (Reads c.args.text.now) (sym c.only.ensures) (read_one c.patch_reads_back.ensures c.args.text.now ops read)

pub returns-in-Err-BadJson : goal.returns-in-Err-BadJson
returns-in-Err-BadJson c =
    let at = c.deref.ensures.value ∙ c.in_ok-document.ensures in
    let error = c.in-Err-BadJson in
    let fails = subst (λ e. FailsAs (patch_fault e) (patch c.deref.result.now)) error.field-0-is error.ensures in
    read_none c.patch_reads_back.ensures c.args.text.now BadJson (subst (λ bs. patch bs ≡ Err BadJson) at fails)

pub returns-in-Err-BadPatch : goal.returns-in-Err-BadPatch
returns-in-Err-BadPatch c =
    let at = c.deref.ensures.value ∙ c.in_ok-document.ensures in
    let error = c.in-Err-BadPatch in
    let fails = subst (λ e. FailsAs (patch_fault e) (patch c.deref.result.now)) error.field-0-is error.ensures in
    let fault = BadPatch error.field-0-0 error.field-0-1 in
    read_none c.patch_reads_back.ensures c.args.text.now fault (subst (λ bs. patch bs ≡ Err fault) at fails)
